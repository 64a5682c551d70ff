use Rattle.std.proofs.Common.{◌≡◌, ◌++◌, take}
use Rattle.wasm_types.specs.Texts.{spaced, field_text}
use Rattle.plan_lines.proofs.field_words.append_fields.Given as goal

abbrev pub invariant-loop-field : goal.invariant-loop-field
invariant-loop-field l = l.text ≡ l.initial.text ++ spaced field_text (take l.field-index l.fields)
