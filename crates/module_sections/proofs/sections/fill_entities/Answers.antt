use Rattle.std.proofs.Common.{◌∙◌, ℕ, List, length, refl, ap, arith}
use Rattle.std.specs.Prelude.{drop}
use Rattle.std.specs.List.{list_any}
use Rattle.wasm_types.specs.Collected.{heap_is_collected}
use Rattle.wasm_types.specs.declared.table.Table.{Table}
use Rattle.form_rules.specs.Names.{imported_names}
use Rattle.module_sections.specs.Filling.{module_in}
use Rattle.module_sections.specs.Pooled.{with_texts}
use Rattle.module_sections.proofs.GrownPool.{exported-few}
use Rattle.module_sections.proofs.FilledEntities.{pages, memories-filled, tables-looked, globals-looked, tables-filled, globals-filled, imported-within}
use Rattle.module_sections.proofs.sections.fill_entities.Goals as goal

pub convert_imports-requires-clause-few_texts : goal.convert_imports-requires-clause-few_texts
convert_imports-requires-clause-few_texts g c =
    let l = c.args.lists.now in
    omega (arith, ap length c.requires.names, exported-few (module_in l) c.requires.gathered.few)

pub convert_tables-requires-clause-known : goal.convert_tables-requires-clause-known
convert_tables-requires-clause-known g c =
    tables-looked c.args.lists.now c.requires.gathered _ _ c.requires.looks c.as_slice.result.now c.as_slice.ensures.value

pub convert_memories-requires-clause-pages : goal.convert_memories-requires-clause-pages
convert_memories-requires-clause-pages g c = pages c.args.lists.now c.requires.gathered c.as_slice-2.result.now c.as_slice-2.ensures.value

pub convert_globals-requires-clause-known : goal.convert_globals-requires-clause-known
convert_globals-requires-clause-known g c =
    globals-looked c.args.lists.now c.requires.gathered _ _ c.requires.looks c.as_slice-3.result.now c.as_slice-3.ensures.value

pub split_at-requires : goal.split_at-requires
split_at-requires g c =
    let dyn = goal.TypeConvert-dyn g c.args.env.now in
    let within = imported-within c.args.lists.now c.requires.gathered c.as_slice.result.now c.as_slice.ensures.value c.in_ok-entities.field-0
    (dyn.look_up c.args.env.now.1) c.in_ok-entities.ensures in
    omega (arith, within, c.in_ok-initializers.ensures.counts.tables, ap length c.as_slice-4.ensures)

pub returns : goal.returns
returns g c =
    let l = c.args.lists.now in
    let gathered = c.requires.gathered in
    record {
      imports = c.in_ok-initializers.ensures.imports;
      pooled = c.in_ok-initializers.ensures.pooled;
      texts = c.in_ok-initializers.ensures.pool ∙ ap (λ (ts : List (List ℕ)). with_texts ts (imported_names (module_in l))) c.requires.names;
      counts = c.in_ok-initializers.ensures.counts;
      tables = c.in_ok-entities.ensures ∙ tables-filled l gathered _ _ c.requires.looks c.as_slice.result.now c.as_slice.ensures.value;
      memories = c.in_ok-entities-2.ensures ∙ memories-filled l gathered c.as_slice-2.result.now c.as_slice-2.ensures.value;
      globals = c.in_ok-entities-3.ensures ∙ globals-filled l gathered _ _ c.requires.looks c.as_slice-3.result.now c.as_slice-3.ensures.value;
      heap = c.hold_collected-entities.ensures ∙ ap (list_any (λ (table : Table). heap_is_collected table.ref_type.heap_type))
          (c.split_at.ensures.back ∙ ap (drop c.in_ok-initializers.counts.tables) c.as_slice-4.ensures);
      same = refl;
    }
