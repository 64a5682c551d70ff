use Rattle.module_types.proofs.Holding.{holds-kept}
use Rattle.module_types.proofs.laws.holds_law.Goals as goal

pub returns : goal.returns
returns c = record {
  none = λ t validator k j e. absurd cc;
  more = λ t b k ts holds kinds. holds-kept t b k ts holds kinds;
}
