use Rattle.module_types.proofs.Called.{called-taken, called-interned, builder-member, builder-group, builder-exception, builder-startup, shown}
use Rattle.module_types.proofs.laws.has_trampoline_law.Goals as goal

pub returns : goal.returns
returns c = record {
  taken = called-taken;
  interned = called-interned;
  member = builder-member;
  group = builder-group;
  exception = builder-exception;
  startup = builder-startup;
  shown = shown;
}
