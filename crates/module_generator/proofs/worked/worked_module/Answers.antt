use Rattle.std.proofs.Common.{refl}
use Rattle.module_generator.specs.Spelling.{groups, unsigned, signed, vector, section}
use Rattle.module_generator.specs.Generated.{parameter, function_type, table_contents, element_contents, segment, generated_module}
use Rattle.module_generator.proofs.worked.worked_module.Goals as goal

pub returns : goal.returns
unfolding groups unsigned signed vector section parameter function_type table_contents element_contents segment generated_module
returns c = refl
