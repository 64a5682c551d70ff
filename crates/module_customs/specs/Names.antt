-- The names that the name sections of a module give, in the order of the file (core specification,
-- appendix, name section).
use Rattle.std.specs.Prelude.{◌≡◌, ◌<◌, ℕ, List, [], ◌∷◌, ◌++◌, length, map, codes, Bool, nat_eq, nat_lt, ◌==◌, Option, None, Some, if◌then◌else◌}
use Rattle.std.specs.Borrow.{Bor}
use Rattle.std.specs.BTreeMap.{BTreeMap}
use Rattle.std.specs.List.{filter, filter_map, flat_map}
use Rattle.std.specs.Map.{lookup}
use Rattle.std.specs.Option.{option_map}
use Rattle.std.specs.Str.{bytes_eq}
use Rattle.wasm_spec.specs.Module as plain
use Rattle.wasm_index.specs.declared.index.Index.{Index}
use Rattle.wasm_index.specs.declared.spaces.FuncSpace.{FuncSpace}
use Rattle.wasm_index.specs.Index.{number_of}
use Rattle.module_customs.specs.Kept.{last_at}
use Rattle.custom_sections.specs.NameLists.{NameLists, no_names, joined}
use Rattle.module_customs.specs.Told.{names_told}
use Rattle.custom_sections.specs.Views.{text_of}
use Rattle.init_plan.specs.declared.debug_info.NameSection.{NameSection}
use Rattle.module_customs.specs.declared.names.DeclaredNames.{DeclaredNames}

-- how many of some imports are functions
abbrev pub functions_among : List plain.Import → ℕ
functions_among is = length (filter_map (λ i. plain.function_import i.type) is)

abbrev pub one_if : {A : Type 0} → Option A → ℕ
one_if None = 0
one_if (Some _) = 1

-- the contents of a custom section of this name
abbrev pub contents_of : List ℕ → plain.Payload → Option (List ℕ)
contents_of title (plain.Custom name bytes) = if bytes_eq name title then Some bytes else None
contents_of title _ = None

-- what the contents of a name section give, with the names of locals where the caller requires them
abbrev pub names_in : Bool → Option (List ℕ) → NameLists
names_in locals (Some bytes) = names_told locals bytes
names_in locals None = no_names

-- what belongs to indices below a bound
abbrev pub below : {X : Type 0} → ℕ → List (ℕ × X) → List (ℕ × X)
below bound entries = filter (λ e. nat_lt e.0 bound) entries

-- the names of the module, and of the functions below a bound and their locals
abbrev pub names_below : ℕ → NameLists → NameLists
names_below bound names = record names { functions = below bound names.functions; locals = below bound names.locals }

-- what a section gives after others: it names the functions that these declare
abbrev pub names_behind : Bool → List plain.Payload → plain.Payload → NameLists
names_behind locals before p = names_below (length (plain.functions before)) (names_in locals (contents_of (codes "name") p))

abbrev pub names_after : Bool → List plain.Payload → List plain.Payload → NameLists
names_after locals before [] = no_names
names_after locals before (p ∷ ps) = joined (names_behind locals before p) (names_after locals (before ++ p ∷ []) ps)

-- the names of a module; of several for one index, or for the module, the last one counts
abbrev pub module_names : Bool → plain.Module → NameLists
module_names locals m = names_after locals [] m

-- the names of a function's locals
abbrev pub local_names : List (ℕ × List (ℕ × List ℕ)) → ℕ → List (ℕ × List ℕ)
local_names entries function = flat_map (λ e. if e.0 == function then e.1 else []) entries

-- ---- in the form of a translation

abbrev pub Text : Type 0
Text = Bor (List ℕ)

-- an entry of a map from functions, by the function's number
abbrev pub named : Index FuncSpace × Text → ℕ × List ℕ
named entry = (number_of entry.0, entry.1.now)

-- what remains of an iteration over names
abbrev pub names_left : DeclaredNames → List (ℕ × List ℕ)
names_left walk = below walk.declared (map text_of walk.names.now)

-- the entry of a map at the key of a number
abbrev pub at_number : {K X : Type 0} → (K → ℕ) → BTreeMap K X → ℕ → Option X
at_number number kept n = lookup (λ key. nat_eq n (number key)) kept.entries

-- of several names of an index the last one is kept
abbrev pub HasLast : List (ℕ × List ℕ) → (ℕ → Option Text) → Type 0
HasLast names kept = (n : ℕ) → option_map (λ text. text.now) (kept n) ≡ last_at names n

-- a function has an entry where a local of it has a name
abbrev pub AreLocals : List (ℕ × List ℕ) → Option (BTreeMap ℕ Text) → Type 0
AreLocals names None = names ≡ []
AreLocals names (Some kept) = (0 < length names) × HasLast names (at_number (λ n. n) kept)

abbrev pub HasLocals : List (ℕ × List (ℕ × List ℕ)) → BTreeMap (Index FuncSpace) (BTreeMap ℕ Text) → Type 0
HasLocals entries kept = (function : ℕ) → AreLocals (local_names entries function) (at_number number_of kept function)

-- these names are kept
pub record KeepsNames (names : NameLists) (kept : NameSection) : Type 0 where
  pub module_name : option_map (λ text. text.now) kept.module_name ≡ names.module_name
  pub functions : HasLast names.functions (at_number number_of kept.func_names)
  pub locals : HasLocals names.locals kept.locals_names
