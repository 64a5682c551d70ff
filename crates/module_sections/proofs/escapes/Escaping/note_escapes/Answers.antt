use Rattle.wasm_index.specs.Index.{number_of}
use Rattle.module_sections.proofs.NotingEscapes.{after_escapes-more}
use Rattle.module_sections.proofs.escapes.Escaping.note_escapes.Goals as goal

pub loop-function-preserved : goal.loop-function-preserved
loop-function-preserved c =
    after_escapes-more number_of c.args.self.now c.loop-function.self c.note_escape.new.self c.args.functions.now c.loop-function.function-index c.function-item.result
    c.loop-function-test.true c.function-item.is c.loop-function.invariant c.in_ok-note_escape.ensures
