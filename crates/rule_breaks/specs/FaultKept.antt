-- What a rule requires of an entry, where its fault is looked for.
use Rattle.std.specs.Prelude.{ℕ, ◌⊎◌, ◌≤◌, length, take, map, Contains}
use Rattle.wasm_spec.specs.Module.{GlobalDef, Export, Body}
use Rattle.rule_spec.specs.declared.rules.Rule.{Rule}
use Rattle.rule_spec.specs.declared.rules.Rule.TheVariants as rule
use Rattle.rule_spec.specs.Lists.{Lists}
use Rattle.rule_spec.specs.TypeRules.{NamesFunctionType}
use Rattle.rule_spec.specs.Indices.{IsInSpace}
use Rattle.rule_spec.specs.References.{GlobalRefersIn, BodyRefersIn}
use Rattle.rule_spec.specs.Rules.{locals}
use Rattle.form_rules.specs.Globals.{IsGlobalTyped}
use Rattle.rule_breaks.specs.Breaks.{HasBodies}

abbrev pub FunctionKeeps : Rule → Lists → ℕ → Type 0
FunctionKeeps rule.L2 l type = NamesFunctionType l type
FunctionKeeps rule.L3 l type = HasBodies l
FunctionKeeps _ l type = Unit {0}

-- there is also a function for the body
abbrev pub BodyFits : Rule → Lists → Body → Type 0
BodyFits rule.L3 l b = HasBodies l × (locals b ≤ 4294967295)
BodyFits rule.L10 l b = BodyRefersIn (length l.types) b
BodyFits _ l b = Unit {0}

abbrev pub GlobalKeeps : Rule → Lists → ℕ → GlobalDef → Type 0
GlobalKeeps rule.L6 l index g = IsGlobalTyped l index g
GlobalKeeps rule.L10 l index g = GlobalRefersIn (length l.types) g
GlobalKeeps _ l index g = Unit {0}

-- the export names no entry, or repeats the name of one before
abbrev pub IsExportBroken : Lists → ℕ → Export → Type 0
IsExportBroken l n e = (¬ IsInSpace l e) ⊎ Contains (map (λ (earlier : Export). earlier.name) (take n l.exports)) e.name
