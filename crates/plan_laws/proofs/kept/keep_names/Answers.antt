use Rattle.std.proofs.Common.{refl}
use Rattle.plan_laws.proofs.Rising.{rises}
use Rattle.plan_laws.proofs.kept.keep_names.Goals as goal

pub returns : goal.returns
returns c = rises _ (λ n. n) (λ text. text.now) (λ a b. refl) c.args.names.now.entries c.len-count.ensures.ordered
