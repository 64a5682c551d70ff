use Rattle.std.proofs.Common.{◌≡◌, ◌++◌, drop}
use Rattle.plan_lines.specs.ModuleLines.{initializer_lines_from}
use Rattle.plan_lines.proofs.module_lines.append_imports.Given as goal

abbrev pub invariant-loop-place : goal.invariant-loop-place
invariant-loop-place l = l.text ++ initializer_lines_from l.pool l.place (drop l.place l.imports)
    ≡ l.initial.text ++ initializer_lines_from l.pool 0 l.imports
