-- Function types that were looked up before.
use Rattle.std.specs.Prelude.{◌≡◌, ℕ, List, Bool, true, Some, slice_get}
use Rattle.rule_spec.specs.Lists.{Lists}
use Rattle.rule_spec.specs.TypeRules.{NamesFunctionType}

-- each that is said to be a function type is one
abbrev pub AreKnown : Lists → List Bool → Type 0
AreKnown l known = (i : ℕ) → slice_get known i ≡ Some true → NamesFunctionType l i
