use Rattle.std.proofs.Common.{◌≡◌, map, take}
use Rattle.form_reader.specs.Views.{sub_type_of}
use Rattle.form_types.proofs.copied.copied_group.Given as goal

-- the members so far are copied
abbrev pub invariant-loop-ty : goal.invariant-loop-ty
invariant-loop-ty l = map sub_type_of l.types.items ≡ map sub_type_of (take l.ty-index l.ty-items)
