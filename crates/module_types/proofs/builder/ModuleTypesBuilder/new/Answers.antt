use Rattle.std.proofs.Common.{◌∙◌, refl, ap}
use Rattle.module_types.specs.Builder.{new_builder}
use Rattle.module_types.proofs.Holding.{shows-new}
use Rattle.module_types.proofs.builder.ModuleTypesBuilder.new.Goals as goal

pub returns : goal.returns
returns c = shows-new _ c.new.ensures.built c.new-2.ensures c.new-3.ensures refl refl ∙ ap new_builder c.id-validator.ensures
