use Rattle.std.proofs.Common.{◌≡◌, ◌+◌, sum_by, take}
use Rattle.form_rules.proofs.counts.locals_fit.Given as goal

-- the runs so far are subtracted
abbrev pub invariant-loop-count : goal.invariant-loop-count
invariant-loop-count l = l.left + sum_by (λ run. run.0) (take l.count-index l.runs) ≡ 4294967295
