use Rattle.std.proofs.Common.{◌∙◌, sym}
use Rattle.rule_spec.specs.Lists.{lists_of_module}
use Rattle.rule_spec.specs.TypeRules.{IsDeclaredWell}
use Rattle.form_reader.specs.Views.{sub_type_of}
use Rattle.form_rules.specs.Source.{source_module}
use Rattle.form_rules.proofs.Taking.{taken}
use Rattle.rule_breaks.specs.Faults.{IsDeclaredFault}
use Rattle.rule_breaks.proofs.DeclaredWell.{same}
use Rattle.rule_breaks.proofs.Numbered.{at_given, at_from}
use Rattle.rule_breaks.proofs.MemberFaults.{listed_reached, listed_passed, member_declared}
use Rattle.rule_breaks.proofs.faults_types.fault_of_type.Goals as goal

pub member_fault-requires : goal.member_fault-requires
member_fault-requires c =
    let l = lists_of_module (source_module c.args.source) in
    let at = taken _ _ _ _ _ c.if-branch.true c.in_ok-advance.ensures c.entry.ensures in
    let there = listed_reached l.types _ _ c.entry.result.now c.as_slice-types.result.now _ c.args.entry c.loop-groups.invariant at c.as_slice-types.ensures.value
    c.in-Some.ty.now (sym c.in-Some.ensures) in
    λ is_well. at_given (λ d. ¬ IsDeclaredWell l d) l.types c.args.entry _ (sym there) c.requires
    ((same (source_module c.args.source) c.deref.result.now (c.deref.ensures.value ∙ c.in_ok-functions.ensures) _).0 is_well)

pub returns-in-Some : goal.returns-in-Some
returns-in-Some c =
    let l = lists_of_module (source_module c.args.source) in
    let at = taken _ _ _ _ _ c.if-branch.true c.in_ok-advance.ensures c.entry.ensures in
    let there = listed_reached l.types _ _ c.entry.result.now c.as_slice-types.result.now _ c.args.entry c.loop-groups.invariant at c.as_slice-types.ensures.value
    c.in-Some.ty.now (sym c.in-Some.ensures) in
    at_from (λ d. IsDeclaredFault l d c.member_fault.result) l.types c.args.entry _ (sym there)
    (member_declared (source_module c.args.source) c.deref.result.now (c.deref.ensures.value ∙ c.in_ok-functions.ensures)
    (record { type = sub_type_of c.in-Some.ty.now; index = c.args.entry; group_end = _ }) c.member_fault.result c.member_fault.ensures)

pub loop-groups-preserved : goal.loop-groups-preserved
loop-groups-preserved c =
    let at = taken _ _ _ _ _ c.if-branch.true c.in_ok-advance.ensures c.entry.ensures in
    listed_passed _ _ _ c.entry.result.now c.as_slice-types.result.now _ _ c.loop-groups.invariant at c.as_slice-types.ensures.value (sym c.in_default.ensures)
