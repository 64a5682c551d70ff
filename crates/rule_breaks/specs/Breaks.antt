-- Which entry of a module is the first that breaks a rule.
use Rattle.std.specs.Prelude.{◌≡◌, ◌⊎◌, ℕ, ◌+◌, ◌<◌, ◌≤◌, List, length, take, map, All, Contains, Option, Some, None, IfSome, slice_get}
use Rattle.wasm_spec.specs.Module.{GlobalDef, Export, Import, Segment}
use Rattle.rule_spec.specs.declared.rules.Rule.{Rule}
use Rattle.rule_spec.specs.declared.rules.Rule.TheVariants as rule
use Rattle.rule_spec.specs.Lists.{Lists}
use Rattle.rule_spec.specs.TypeRules.{IsDeclaredWell, NamesFunctionType}
use Rattle.rule_spec.specs.Limits.{HasLimits, IsOrdered}
use Rattle.rule_spec.specs.Indices.{IsInSpace, CanStart, NamesMemory, IsElementInRange}
use Rattle.rule_spec.specs.References.{ImportRefersIn, TableRefersIn, GlobalRefersIn, ElementRefersIn, BodyRefersIn, DataKindRefersIn}
use Rattle.rule_spec.specs.Expressions.{AreGlobalsTyped, HasTypedInitialiser, IsElementTyped, HasMemoryOffset}
use Rattle.rule_spec.specs.Rules.{IsInitialised, AreDistinct, Satisfies, locals}
use Rattle.form_rules.specs.Globals.{IsGlobalTyped}
use Rattle.rule_breaks.specs.declared.lists.ModuleList.{ModuleList}
use Rattle.rule_breaks.specs.declared.lists.ModuleList.TheVariants as list
use Rattle.rule_breaks.specs.declared.lists.Break.{Break}
use Rattle.rule_breaks.specs.Search.{IsFirstWithout}

-- ---- counts of bodies

-- as many functions are defined as there are bodies
abbrev pub HasBodies : Lists → Type 0
HasBodies l = length l.functions ≡ l.imported_functions + length l.bodies

-- the function is the first that is defined and has no body
pub record IsFirstBodiless (l : Lists) (entry : ℕ) : Type 0 where
  pub follows : entry ≡ l.imported_functions + length l.bodies
  pub listed : entry < length l.functions

-- the body is the first without a function
pub record IsFirstUnused (l : Lists) (entry : ℕ) : Type 0 where
  pub follows : l.imported_functions + entry ≡ length l.functions
  pub listed : entry < length l.bodies

abbrev pub IsBodyCountBreak : Lists → ModuleList → ℕ → Type 0
IsBodyCountBreak l list.Functions n = IsFirstBodiless l n
IsBodyCountBreak l list.Bodies n = IsFirstUnused l n
IsBodyCountBreak _ _ _ = ⊥

-- the first of these, or none where there are as many
abbrev pub FindsBodyCount : Lists → Option Break → Type 0
FindsBodyCount l None = HasBodies l
FindsBodyCount l (Some b) = IsBodyCountBreak l b.list b.entry

-- ---- globals and names

-- the global is the first whose initialiser has another class than its content
pub record IsFirstUntyped (l : Lists) (entry : ℕ) : Type 0 where
  pub before : AreGlobalsTyped l l.imported_globals (take entry l.globals)
  pub listed : entry < length l.globals
  pub lacks : IfSome (slice_get l.globals entry) (λ (g : GlobalDef). ¬ IsGlobalTyped l (l.imported_globals + entry) g)

-- the first such global, or none where all are typed
abbrev pub FindsUntyped : Lists → Option ℕ → Type 0
FindsUntyped l None = AreGlobalsTyped l l.imported_globals l.globals
FindsUntyped l (Some entry) = IsFirstUntyped l entry

-- the export is the first whose name an earlier export has
pub record IsFirstRepeated (es : List Export) (entry : ℕ) : Type 0 where
  pub before : AreDistinct (take entry es)
  pub listed : entry < length es
  pub repeats : IfSome (slice_get es entry) (λ (e : Export). Contains (map (λ (earlier : Export). earlier.name) (take entry es)) e.name)

-- the first such export, or none where names are distinct
abbrev pub FindsRepeated : List Export → Option ℕ → Type 0
FindsRepeated es None = AreDistinct es
FindsRepeated es (Some entry) = IsFirstRepeated es entry

-- ---- rules

-- the number of data segments is what is stated
abbrev pub Counts : Lists → ℕ → Type 0
Counts l stated = stated ≡ length l.segments

-- each concrete reference of an import names a declared type
abbrev pub ImportsRefer : Lists → Type 0
ImportsRefer l = All (λ (i : Import). ImportRefersIn (length l.types) i.type) l.imports

-- the entry is the first that breaks the rule, in the first of the rule's lists that does
abbrev pub IsFirstBreak : Rule → Lists → ModuleList → ℕ → Type 0
IsFirstBreak rule.L1 l list.Types n = IsFirstWithout (IsDeclaredWell l) l.types n
IsFirstBreak rule.L2 l list.Functions n = IsFirstWithout (NamesFunctionType l) l.functions n
IsFirstBreak rule.L2 l list.Tags n = All (NamesFunctionType l) l.functions × IsFirstWithout (NamesFunctionType l) l.tags n
IsFirstBreak rule.L3 l list.Functions n = IsFirstBodiless l n
IsFirstBreak rule.L3 l list.DataCounts n = HasBodies l × IsFirstWithout (Counts l) l.data_counts n
IsFirstBreak rule.L3 l list.Bodies n =
    IsFirstUnused l n ⊎ (HasBodies l × All (Counts l) l.data_counts × IsFirstWithout (λ b. locals b ≤ 4294967295) l.bodies n)
IsFirstBreak rule.L4 l list.TableTypes n = IsFirstWithout IsOrdered l.table_types n
IsFirstBreak rule.L4 l list.Memories n = All IsOrdered l.table_types × IsFirstWithout HasLimits l.memories n
IsFirstBreak rule.L5 l list.Tables n = IsFirstWithout IsInitialised l.tables n
IsFirstBreak rule.L6 l list.Tables n = IsFirstWithout (HasTypedInitialiser l) l.tables n
IsFirstBreak rule.L6 l list.Globals n = All (HasTypedInitialiser l) l.tables × IsFirstUntyped l n
IsFirstBreak rule.L6 l list.Elements n =
    All (HasTypedInitialiser l) l.tables × AreGlobalsTyped l l.imported_globals l.globals × IsFirstWithout (IsElementTyped l) l.elements n
IsFirstBreak rule.L6 l list.Segments n =
    All (HasTypedInitialiser l) l.tables × AreGlobalsTyped l l.imported_globals l.globals × All (IsElementTyped l) l.elements
    × IsFirstWithout (λ (s : Segment). HasMemoryOffset l s.kind) l.segments n
IsFirstBreak rule.L7 l list.Exports n = IsFirstWithout (IsInSpace l) l.exports n ⊎ (All (IsInSpace l) l.exports × IsFirstRepeated l.exports n)
IsFirstBreak rule.L8 l list.Starts n = IsFirstWithout (CanStart l) l.starts n
IsFirstBreak rule.L9 l list.Elements n = IsFirstWithout (IsElementInRange l) l.elements n
IsFirstBreak rule.L9 l list.Segments n = All (IsElementInRange l) l.elements × IsFirstWithout (λ (s : Segment). NamesMemory l s.kind) l.segments n
IsFirstBreak rule.L10 l list.Imports n = IsFirstWithout (λ (i : Import). ImportRefersIn (length l.types) i.type) l.imports n
IsFirstBreak rule.L10 l list.Tables n = ImportsRefer l × IsFirstWithout (TableRefersIn (length l.types)) l.tables n
IsFirstBreak rule.L10 l list.Globals n =
    ImportsRefer l × All (TableRefersIn (length l.types)) l.tables × IsFirstWithout (GlobalRefersIn (length l.types)) l.globals n
IsFirstBreak rule.L10 l list.Elements n =
    ImportsRefer l × All (TableRefersIn (length l.types)) l.tables × All (GlobalRefersIn (length l.types)) l.globals
    × IsFirstWithout (ElementRefersIn (length l.types)) l.elements n
IsFirstBreak rule.L10 l list.Bodies n =
    ImportsRefer l × All (TableRefersIn (length l.types)) l.tables × All (GlobalRefersIn (length l.types)) l.globals
    × All (ElementRefersIn (length l.types)) l.elements × IsFirstWithout (BodyRefersIn (length l.types)) l.bodies n
IsFirstBreak rule.L10 l list.Segments n =
    ImportsRefer l × All (TableRefersIn (length l.types)) l.tables × All (GlobalRefersIn (length l.types)) l.globals
    × All (ElementRefersIn (length l.types)) l.elements × All (BodyRefersIn (length l.types)) l.bodies
    × IsFirstWithout (λ (s : Segment). DataKindRefersIn (length l.types) s.kind) l.segments n
IsFirstBreak _ _ _ _ = ⊥

-- the first break of a rule, or none where the module satisfies it
abbrev pub Locates : Rule → Lists → Option Break → Type 0
Locates rule l None = Satisfies rule l
Locates rule l (Some b) = IsFirstBreak rule l b.list b.entry
