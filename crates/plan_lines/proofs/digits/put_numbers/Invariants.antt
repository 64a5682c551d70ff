use Rattle.std.proofs.Common.{◌*◌, take, decimal}
use Rattle.wasm_types.specs.Texts.{spaced}
use Rattle.plan_lines.specs.Room.{Puts}
use Rattle.plan_lines.specs.declared.digits.TheConstants.{MOST_SPACED}
use Rattle.plan_lines.proofs.digits.put_numbers.Given as goal

abbrev pub invariant-loop-number : goal.invariant-loop-number
invariant-loop-number l =
    Puts (MOST_SPACED * l.number-index) (spaced decimal (take l.number-index l.numbers)) l.initial.room l.used l.room l.end
