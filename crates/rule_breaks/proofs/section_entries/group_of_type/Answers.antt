use Rattle.std.proofs.Common.{◌≡◌, ◌<◌, length, refl, sym, ap, subst, ◌∙◌, arith}
use Rattle.wasm_spec.specs.Module.{types}
use Rattle.form_rules.specs.Source.{source_module}
use Rattle.std.proofs.lemmas.List.{length-map}
use Rattle.form_reader.specs.Input.{Takes}
use Rattle.form_reader.specs.Views.{group_of, sub_type_of}
use Rattle.form_rules.proofs.Taking.{taken}
use Rattle.rule_breaks.proofs.SoughtEntries.{seeks_first, seeks_more, seeks_ended, is_group}
use Rattle.rule_breaks.proofs.section_entries.group_of_type.Goals as goal

pub loop-groups-init : goal.loop-groups-init
loop-groups-init c = seeks_first _ _ _ _ refl c.walk_of-groups.ensures

pub returns-then-left-count-clause-found : goal.returns-then-left-count-clause-found
returns-then-left-count-clause-found c =
    let at = taken _ _ _ _ _ c.if-branch.true c.in_ok-advance.ensures c.entry.ensures in
    let long : length (group_of c.entry.result.now) ≡ length c.as_slice-count.result.now =
    length-map c.entry.result.now.types.items sub_type_of ∙ sym (ap length c.as_slice-count.ensures.value) in
    is_group _ _ _ _ _ _ (group_of c.entry.result.now) c.loop-groups.invariant at
    (subst (λ n. c.loop-groups.left < n) (sym long) c.if-left-count.true)

pub loop-groups-preserved : goal.loop-groups-preserved
loop-groups-preserved c =
    let at = taken _ _ _ _ _ c.if-branch.true c.in_ok-advance.ensures c.entry.ensures in
    let long : length (group_of c.entry.result.now) ≡ length c.as_slice-count.result.now =
    length-map c.entry.result.now.types.items sub_type_of ∙ sym (ap length c.as_slice-count.ensures.value) in
    seeks_more _ _ _ _ _ _ (group_of c.entry.result.now) c.loop-groups.invariant at _ c.in_ok-number.ensures (length c.as_slice-count.result.now) long c.if-left-count.false

pub returns-clause-none : goal.returns-clause-none
returns-clause-none c = λ none. omega (
  arith,
  λ (l : c.args.index < length (types (source_module c.args.source))).
      seeks_ended _ _ _ _ _ c.loop-groups.invariant (subst (Takes _ _ _) c.if-branch.false c.in_ok-advance.ensures).0 l,
)
