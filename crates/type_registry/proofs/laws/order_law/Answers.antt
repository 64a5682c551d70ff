use Rattle.type_registry.proofs.Telling.{tells}
use Rattle.type_registry.proofs.laws.order_law.Goals as goal

pub returns : goal.returns
returns c = λ r s a b d e l k listed listed' here here' there there' i j lt lt'.
    let t = tells listed listed' here here' i j lt lt' in
    let u = tells listed listed' there there' i j lt lt' in
    ((λ same. u.1 (t.0 same)), (λ same. t.1 (u.0 same)))
