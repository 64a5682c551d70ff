use Rattle.std.proofs.Common.{◌++◌, ap, ◌∙◌}
use Rattle.module_generator.specs.Spelling.{signed}
use Rattle.module_generator.specs.Generated.{segment}
use Rattle.module_generator.proofs.Places.{framed-twice}
use Rattle.module_generator.proofs.sections.push_segment.Goals as goal

pub returns : goal.returns
unfolding segment
returns c =
    framed-twice _ _ _ _ _ _ _ _ _ _ _ c.in_ok-extend_from_slice.ensures.items
    (c.in_ok-push_signed.ensures ∙ ap (λ n. c.extend_from_slice.new.self.items ++ signed n) c.from.ensures)
    c.in_ok-extend_from_slice-2.ensures.items c.in_ok-extend_from_slice-3.ensures.items
