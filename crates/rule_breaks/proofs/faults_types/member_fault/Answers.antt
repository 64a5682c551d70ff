use Rattle.std.proofs.Common.{refl}
use Rattle.rule_breaks.proofs.FirstPast.{none_past}
use Rattle.rule_breaks.proofs.MemberFaults.{names_well}
use Rattle.rule_breaks.proofs.faults_types.member_fault.Goals as goal

pub continuation_fault-requires : goal.continuation_fault-requires
continuation_fault-requires c = λ continues. c.requires (record {
  names = names_well _ (none_past _ _ _ _ refl c.in_default.is c.kind_past.ensures)
      (none_past _ _ _ _ refl c.in_default-supertype_past.is c.supertype_past.ensures);
  continuation = continues;
})
