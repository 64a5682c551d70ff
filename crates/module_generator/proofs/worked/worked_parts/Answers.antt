use Rattle.std.proofs.Common.{refl}
use Rattle.module_generator.specs.Spelling.{groups, unsigned, signed}
use Rattle.module_generator.specs.Generated.{parameter}
use Rattle.module_generator.proofs.worked.worked_parts.Goals as goal

pub returns : goal.returns
unfolding groups unsigned signed parameter
returns c = record {
  last_of_one = refl;
  first_of_two = refl;
  last_with_sign = refl;
  first_with_sign = refl;
  second_pair = refl;
  first_pair = refl;
}
