use Rattle.std.proofs.Common.{◌≡◌, ◌<◌, ◌∙◌, length, drop, ap, arith}
use Rattle.std.proofs.lemmas.List.Elements.{All-map}
use Rattle.replay_spec.specs.Elements.{ActiveElements}
use Rattle.table_images.specs.Views.{active_elements_of}
use Rattle.init_plan.specs.Tables.{own_tables}
use Rattle.form_types.proofs.AllOf.{All-from_map}
use Rattle.plan_run.proofs.finished.tables_are_finished.Goals as goal

pub returns : goal.returns
returns c =
    let t = c.args.translation.now in
    let segments = t.table_initialization.segments.items in
    let own : c.split_at.result.1.now ≡ own_tables t = c.split_at.ensures.back ∙ ap (drop t.«module».num_imported_tables) c.as_slice-tables.ensures in
    let own_count = ap length own in
    let count = ap length c.as_slice-tables.ensures in
    let images_count = ap length c.as_slice-images.ensures in (
      λ e. record {
        imports = omega arith;
        counted = record { values = omega arith; images = omega arith };
        images = rw (c.as_slice-images.ensures, own) at ((c.are_short.ensures t.table_initialization.initial_values (omega arith)).0 c.if-not-are_short.false);
        elements = All-map (λ (s : ActiveElements). s.table < length t.«module».tables) active_elements_of segments (rw (count, c.deref.ensures.value) at (c.elements_are_within.ensures.0 e));
      },
      λ f. c.elements_are_within.ensures.1
          (rw (count, c.deref.ensures.value) (All-from_map (λ (s : ActiveElements). s.table < length t.«module».tables) active_elements_of segments f.elements)),
    )
