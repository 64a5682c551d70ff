use Rattle.plan_laws.proofs.Plans.{one-plan}
use Rattle.plan_laws.proofs.Records.{tell-alike}
use Rattle.plan_laws.proofs.Text.{same-text}
use Rattle.plan_laws.proofs.laws.determined_law.Goals as goal

pub returns-clause-text : goal.returns-clause-text
returns-clause-text c = λ o bytes a b. same-text c.args.p.now c.args.q.now (one-plan c.sizes_law.ensures.startup c.sizes_law.ensures.context o bytes c.args.p.now c.args.q.now c.keeps.ensures c.keeps-2.ensures a b)

pub returns-clause-same : goal.returns-clause-same
returns-clause-same c = λ o bytes a b. one-plan c.sizes_law.ensures.startup c.sizes_law.ensures.context o bytes c.args.p.now c.args.q.now c.keeps.ensures c.keeps-2.ensures a b

pub returns-clause-tables : goal.returns-clause-tables
returns-clause-tables c = λ o bytes r s a b. tell-alike c.args.p.now c.args.q.now (one-plan c.sizes_law.ensures.startup c.sizes_law.ensures.context o bytes c.args.p.now c.args.q.now c.keeps.ensures c.keeps-2.ensures a b) r s
