use Rattle.std.proofs.Common.{◌≡◌, [], ◌++◌, ◌∙◌, length, sym, ap, arith}
use Rattle.std.proofs.lemmas.Result.{err_from_is_err_and}
use Rattle.std.specs.List.{flat_map}
use Rattle.std.proofs.lemmas.List.{flat_map_more}
use Rattle.std.proofs.lemmas.Bool.{eqb-true, eqb-false}
use Rattle.wasm_spec.specs.Module as plain
use Rattle.form_reader.specs.Input.{sections_of_part}
use Rattle.form_reader.proofs.HeldGroups.{takes_none, takes_sections}
use Rattle.form_reader.proofs.SectionList.{none_pass, then_pass, all_pass, fail_after}
use Rattle.form_reader.proofs.sections.sections.Goals as goal

pub parts-init : goal.parts-init
parts-init g c = record {
  small = omega arith;
  so_far = rw c.new-all.ensures.items (none_pass c.args.start 0 c.args.bytes.now);
  takes = rw c.new-all.ensures.items (takes_none g.T.GroupSink.holds c.args.sink.now);
}

pub part-requires-clause-taking : goal.part-requires-clause-taking
part-requires-clause-taking g c =
    let taken = c.requires.taking in
    (taken.0 ++ plain.groups (flat_map sections_of_part c.parts.all.items), c.parts.invariant.takes taken.0 taken.1)

pub returns-in_err-part-clause-reads : goal.returns-in_err-part-clause-reads
returns-in_err-part-clause-reads g c =
    let p = err_from_is_err_and c.from_residual.result c.from_residual.ensures.1 in
    let some : length c.parts.cursor.rest.now ≡ 0 → ⊥ = eqb-false _ _ (sym c.parts-test.ensures) in
    rw (p.1, p.2) (fail_after c.args.start 0 c.args.bytes.now _ c.parts.place c.parts.next c.parts.cursor.rest.now c.parts.invariant.so_far
    c.in_err-part.field-0.0 c.in_err-part.ensures.reads (omega (arith, some)) (length c.args.bytes.now) (omega arith))

pub overflow_sub-place : goal.overflow_sub-place
overflow_sub-place g c = omega (arith, c.in_ok-part.ensures.reads.1)

pub overflow_add-place : goal.overflow_add-place
overflow_add-place g c = omega (arith, c.in_ok-part.ensures.reads.1, c.parts.invariant.small)

pub parts-smaller : goal.parts-smaller
parts-smaller g c = c.in_ok-part.ensures.reads.1

pub parts-preserved : goal.parts-preserved
parts-preserved g c =
    let more = c.in_ok-part.ensures.reads in
    let all : flat_map sections_of_part c.push.new.self.items ≡ flat_map sections_of_part c.parts.all.items ++ sections_of_part c.in_ok-part.part =
    ap (flat_map sections_of_part) c.in_ok-push.ensures.items ∙ sym (flat_map_more sections_of_part [] c.parts.all.items c.in_ok-part.part) in
    record {
      small = omega (arith, c.parts.invariant.small, more.1);
      so_far = rw all (then_pass c.args.start 0 c.args.bytes.now _ c.parts.place c.parts.next c.parts.cursor.rest.now c.parts.invariant.so_far
          (sections_of_part c.in_ok-part.part) _ c.part.new.next c.part.new.self.rest.now more.0);
      takes = rw all (takes_sections g.T.GroupSink.holds _ _ _ (flat_map sections_of_part c.parts.all.items)
          (sections_of_part c.in_ok-part.part) c.parts.invariant.takes c.in_ok-part.ensures.takes);
    }

pub returns-clause-reads : goal.returns-clause-reads
returns-clause-reads g c = all_pass c.args.start 0 c.args.bytes.now _ c.parts.place c.parts.next c.parts.cursor.rest.now c.parts.invariant.so_far
    (eqb-true _ _ (sym c.parts-test.ensures))
