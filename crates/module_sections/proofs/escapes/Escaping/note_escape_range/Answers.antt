use Rattle.module_sections.proofs.NotingEscapes.{after_escapes-next}
use Rattle.module_sections.proofs.escapes.Escaping.note_escape_range.Goals as goal

pub loop-offset-preserved : goal.loop-offset-preserved
loop-offset-preserved c =
    after_escapes-next c.args.self.now c.loop-offset.self c.note_escape_at.new.self c.args.start c.loop-offset.offset
    c.loop-offset.invariant c.in_ok-note_escape_at.ensures
