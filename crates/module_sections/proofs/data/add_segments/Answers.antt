use Rattle.std.proofs.Common.{◌∙◌, List, ◌∷◌, [], length, map, Option, ap, arith}
use Rattle.std.specs.List.{filter_map}
use Rattle.std.proofs.lemmas.List.{map-append}
use Rattle.std.proofs.lemmas.List.Elements.{All-rest, filter_map-append}
use Rattle.wasm_spec.specs.Module.{Segment, segments_of_section}
use Rattle.form_reader.specs.Views.{segment_of}
use Rattle.form_reader.specs.SectionRows.{data_segment}
use Rattle.form_rules.specs.Walk.{walk_left}
use Rattle.form_rules.proofs.Taking.{taken}
use Rattle.replay_spec.specs.Data.{ActiveSegment, active_of_kind}
use Rattle.replay_spec.specs.Held.{held_segment}
use Rattle.memory_images.specs.Views.{active_segment_of}
use Rattle.init_plan.specs.Views.{passive_data_of}
use Rattle.module_sections.specs.Initialisers.{passive_data_from}
use Rattle.module_sections.specs.Segments.{IsDataConvertible}
use Rattle.module_sections.proofs.Filling.{added_more}
use Rattle.module_sections.proofs.DataSteps.{passive_data-cons, same-both}
use Rattle.module_sections.proofs.data.add_segments.Goals as goal

pub loop-segments-preserved : goal.loop-segments-preserved
loop-segments-preserved g c =
    let known = (goal.TypeConvert-dyn g c.args.env.now).knows c.args.env.now.1 in
    let at = taken _ _ _ _ _ c.if-branch.true c.in_ok-advance.ensures c.entry.ensures in
    let s = segment_of c.entry.result.now in
    let so_far = c.loop-segments.invariant in
    let index = c.loop-segments.index in
    let active : Segment → Option ActiveSegment = λ x. active_of_kind x.kind x.bytes in
    let left = walk_left data_segment.read segment_of segments_of_section c.advance.new.self in
    record {
      few = omega (arith, ap length at, so_far.few);
      convertible = All-rest (λ (x : Segment). IsDataConvertible known x.kind) s _ _ at so_far.convertible;
      added = added_more (map active_segment_of c.loop-segments.active.items) (map active_segment_of c.add_segment.new.active.items) _ _ _ _
          c.in_ok-add_segment.ensures.active
          (ap (λ (ss : List Segment). map held_segment (filter_map active ss)) at ∙ ap (map held_segment) (filter_map-append active (s ∷ []) left)
          ∙ map-append held_segment (filter_map active (s ∷ [])) (filter_map active left))
          so_far.added;
      noted = added_more (passive_data_of c.loop-segments.translation) (passive_data_of c.add_segment.new.translation) _ _ _ _ c.in_ok-add_segment.ensures.passive
          (ap (passive_data_from index) at ∙ passive_data-cons index s left) so_far.noted;
      same = same-both c.args.translation.now c.loop-segments.translation c.add_segment.new.translation so_far.same c.add_segment.ensures.same;
    }
