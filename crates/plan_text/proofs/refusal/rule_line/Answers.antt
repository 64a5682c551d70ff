use Rattle.std.proofs.Common.{refl}
use Rattle.std.specs.Fmt.{digits}
use Rattle.plan_text.proofs.refusal.rule_line.Goals as goal

pub returns-in-L1 : goal.returns-in-L1
unfolding digits
returns-in-L1 c = rw c.in-L1.is refl

pub returns-in-L2 : goal.returns-in-L2
unfolding digits
returns-in-L2 c = rw c.in-L2.is refl

pub returns-in-L3 : goal.returns-in-L3
unfolding digits
returns-in-L3 c = rw c.in-L3.is refl

pub returns-in-L4 : goal.returns-in-L4
unfolding digits
returns-in-L4 c = rw c.in-L4.is refl

pub returns-in-L5 : goal.returns-in-L5
unfolding digits
returns-in-L5 c = rw c.in-L5.is refl

pub returns-in-L6 : goal.returns-in-L6
unfolding digits
returns-in-L6 c = rw c.in-L6.is refl

pub returns-in-L7 : goal.returns-in-L7
unfolding digits
returns-in-L7 c = rw c.in-L7.is refl

pub returns-in-L8 : goal.returns-in-L8
unfolding digits
returns-in-L8 c = rw c.in-L8.is refl

pub returns-in-L9 : goal.returns-in-L9
unfolding digits
returns-in-L9 c = rw c.in-L9.is refl

pub returns-in-L10 : goal.returns-in-L10
unfolding digits
returns-in-L10 c = rw c.in-L10.is refl
