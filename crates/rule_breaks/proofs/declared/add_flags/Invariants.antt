use Rattle.std.proofs.Common.{◌≡◌, ◌++◌, map, take}
use Rattle.form_reader.specs.Views.{composite_of}
use Rattle.rule_breaks.specs.TypeFlags.{is_function}
use Rattle.rule_breaks.proofs.declared.add_flags.Given as goal

-- the flags of those so far are added
abbrev pub invariant-loop-ty : goal.invariant-loop-ty
invariant-loop-ty l = l.flags.items ≡ l.initial.flags.items ++ map (λ t. is_function (composite_of t.composite)) (take l.ty-index l.types)
