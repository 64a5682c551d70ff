use Rattle.std.proofs.Common.{refl}
use Rattle.module_types.proofs.GroupMembers.{orderly-group, orderly-exception, orderly-startup}
use Rattle.module_types.proofs.laws.ranges_law.Goals as goal

pub returns : goal.returns
returns c = record {
  none = refl;
  group = orderly-group;
  exception = orderly-exception;
  startup = orderly-startup;
}
