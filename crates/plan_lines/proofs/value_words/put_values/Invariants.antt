use Rattle.std.proofs.Common.{◌*◌, take}
use Rattle.wasm_types.specs.Texts.{spaced, val_text}
use Rattle.plan_lines.specs.Room.{Puts}
use Rattle.plan_lines.proofs.value_words.put_values.Given as goal

abbrev pub invariant-loop-count : goal.invariant-loop-count
invariant-loop-count l = Puts (8 * l.count) (spaced val_text (take l.count l.types)) l.initial.room l.used l.room l.end
