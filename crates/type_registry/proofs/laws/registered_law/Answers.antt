use Rattle.type_registry.proofs.Registered.{registered-stands, others-stand}
use Rattle.type_registry.proofs.laws.registered_law.Goals as goal

pub returns : goal.returns
returns c = record {
  itself = λ r l m. registered-stands c.equality_law.ensures.group r l m;
  others = λ r l k key m differ st. others-stand c.equality_law.ensures.group r l m k key differ st;
}
