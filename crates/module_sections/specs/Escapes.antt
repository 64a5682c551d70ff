-- The functions that escape from a module: references to them are made, by whoever imports or
-- exports them and by initialisers (core specification, 3.4, references of a module). They are
-- numbered in the order of the first cause.
use Rattle.std.specs.Prelude.{◌↔◌, ℕ, ◌-◌, ◌<◌, ◌==◌, Bool, List, [], ◌++◌, length, map, get_or, Contains, Option, None, Some, unwrap_or, if◌then◌else◌}
use Rattle.std.specs.List.{flat_map, filter_map, range_with_len, position}
use Rattle.wasm_spec.specs.declared.operators.Operator.{Operator}
use Rattle.wasm_spec.specs.declared.operators.Operator.TheVariants.{RefFunc}
use Rattle.wasm_spec.specs.declared.entities.ExternalKind.{ExternalKind}
use Rattle.wasm_spec.specs.declared.entities.ExternalKind.TheVariants as kind
use Rattle.wasm_spec.specs.Module.{Expression, ElementItems, Functions, Expressions, Export}
use Rattle.rule_spec.specs.Lists.{Lists}
use Rattle.entity_map.specs.Firsts.{firsts}

-- the function to which an operator makes a reference
abbrev pub referred_by : Operator → Option ℕ
referred_by (RefFunc function) = Some function
referred_by _ = None

abbrev pub referred : Expression → List ℕ
referred e = filter_map referred_by e

abbrev pub referred_if_any : Option Expression → List ℕ
referred_if_any None = []
referred_if_any (Some e) = referred e

abbrev pub exported_function : ExternalKind → ℕ → Option ℕ
exported_function kind.Func index = Some index
exported_function _ index = None

abbrev pub item_functions : ElementItems → List ℕ
item_functions (Functions indices) = indices
item_functions (Expressions type items) = flat_map referred items

-- the defined functions, whose references a debugger may make
abbrev pub defined_functions : Lists → List ℕ
defined_functions l = range_with_len l.imported_functions (length l.functions - l.imported_functions)

-- each cause for a reference, in order, by its function; `debugged` says whether a debugger of the
-- guest may make some
abbrev pub references : Bool → Lists → List ℕ
references debugged l =
    range_with_len 0 l.imported_functions
    ++ flat_map (λ t. referred_if_any t.init) l.tables
    ++ flat_map (λ g. referred g.init) l.globals
    ++ filter_map (λ (e : Export). exported_function e.kind e.index) l.exports
    ++ flat_map (λ e. item_functions e.items) l.elements
    ++ (if debugged then defined_functions l else [])

-- the functions that escape, in the order of their numbers
abbrev pub escaping : Bool → Lists → List ℕ
escaping debugged l = firsts (references debugged l)

-- the number of a function among them, and the reserved number where it does not escape
abbrev pub number_among : List ℕ → ℕ → ℕ
number_among escaping function = unwrap_or (position (λ k. k == function) escaping) 4294967295

-- each number is below the next
abbrev pub Ascend : List ℕ → Type 0
Ascend ns = (i j : ℕ) → i < j → j < length ns → get_or ns i 0 < get_or ns j 0

-- the types of the functions that escape, each once, in order
pub record AreSignatures (escaping types signatures : List ℕ) : Type 0 where
  pub ascend : Ascend signatures
  pub exact : (k : ℕ) → Contains signatures k ↔ Contains (map (λ function. get_or types function 0) escaping) k
