use Rattle.std.proofs.Common.{◌≡◌, ◌++◌}
use Rattle.std.specs.List.{flat_map}
use Rattle.plan_lines.specs.Numbers.{keyed_lines}
use Rattle.plan_lines.specs.HintLines.{function_hints}
use Rattle.plan_lines.proofs.hint_lines.append_hints.Given as goal

abbrev pub invariant-loop-function : goal.invariant-loop-function
invariant-loop-function l = l.text ++ flat_map (λ p. function_hints l.translation p.0 p.1) l.function-iterator
    ≡ l.initial.text ++ keyed_lines (function_hints l.translation) l.translation.module.functions
