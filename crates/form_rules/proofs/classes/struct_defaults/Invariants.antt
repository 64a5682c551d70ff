use Rattle.std.proofs.Common.{◌≡◌, take}
use Rattle.form_rules.specs.Views.{lists_of}
use Rattle.form_rules.specs.Defaults.{defaults}
use Rattle.form_rules.proofs.classes.struct_defaults.Given as goal

-- the types so far are recorded
abbrev pub invariant-loop-index : goal.invariant-loop-index
invariant-loop-index l = l.defaults.items ≡ take l.index (defaults (lists_of l.lists))
