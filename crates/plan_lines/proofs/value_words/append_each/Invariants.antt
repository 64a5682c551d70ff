use Rattle.std.proofs.Common.{◌≡◌, ◌++◌, take}
use Rattle.wasm_types.specs.Texts.{spaced, val_text}
use Rattle.plan_lines.proofs.value_words.append_each.Given as goal

abbrev pub invariant-loop-ty : goal.invariant-loop-ty
invariant-loop-ty l = l.text ≡ l.initial.text ++ spaced val_text (take l.ty-index l.types)
