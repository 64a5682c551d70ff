use Rattle.std.proofs.Common.{refl, arith}
use Rattle.segment_tables.proofs.worked.worked_references.Goals as goal

pub returns-clause-alone : goal.returns-clause-alone
returns-clause-alone c = record { ascend = λ i j lt in'. omega (arith, lt, in'); exact = λ k. (λ h. h, λ h. h) }

pub returns-clause-missing : goal.returns-clause-missing
returns-clause-missing c = λ h. let there = (h.exact 3).1 (0, omega arith, refl) in omega (arith, there.1)

pub returns-clause-twice : goal.returns-clause-twice
returns-clause-twice c = λ h. omega (arith, h.ascend 0 1 (omega arith) (omega arith))
