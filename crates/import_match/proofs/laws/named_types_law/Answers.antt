use Rattle.import_match.specs.Linking.{IsTypeBelow}
use Rattle.import_match.proofs.ModuleTypes.{exported-types, wanted-types}
use Rattle.import_match.proofs.laws.named_types_law.Goals as goal

pub returns : goal.returns
returns c = record {
  exports = λ m from count all. exported-types (IsTypeBelow count) m all from;
  imports = λ m count all. wanted-types (IsTypeBelow count) m all;
}
