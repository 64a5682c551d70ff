-- What a plan lists is linear in the bytes of its module, and so is its text.
use Rattle.std.proofs.Common.{◌≡◌, ◌∙◌, ◌≤◌, ◌+◌, ◌*◌, ℕ, Bool, List, length, sum_by, sym, ap, arith, length-append}
use Rattle.std.specs.List.{flat_map}
use Rattle.std.specs.Option.{option_map}
use Rattle.std.proofs.lemmas.List.{length-map}
use Rattle.wasm_spec.specs.Module as plain
use Rattle.type_spec.specs.Interned.{Built}
use Rattle.form_types.specs.Placed.{placed_groups}
use Rattle.replay_spec.specs.Tables.{most_cells}
use Rattle.module_types.specs.Views.{interned_of, span_of}
use Rattle.module_types.proofs.GroupMembers.{few-groups}
use Rattle.module_types.proofs.NamedLists.{well-named}
use Rattle.module_types.proofs.NamingEarlier.{keeps-earlier}
use Rattle.gc_layout.specs.Objects.{object_layout}
use Rattle.init_plan.specs.declared.translation.ModuleTranslation.{ModuleTranslation}
use Rattle.init_plan.specs.Tables.{own_tables, plan_of_tables}
use Rattle.init_plan.specs.Views.{memory_plan_of}
use Rattle.interned_types.specs.Types.{interned_list}
use Rattle.plan_text.specs.declared.plan.Plan.{Plan}
use Rattle.translate.specs.Initialised.{IsInitialised}
use Rattle.translate.specs.Options.{Options, header_size, startup_by, runs}
use Rattle.translate.specs.Planned.{IsPlanned, HoldsTypes}
use Rattle.translate.proofs.Costs.{costs}
use Rattle.plan_laws.specs.Kept.{IsKept}
use Rattle.plan_laws.specs.TextBounds.{TextIsLinear, byte_lines, byte_parts}
use Rattle.plan_laws.specs.TextCosts.{single_lines, lines_of, parts_in, cells_in, names_in, TextAtMost}
use Rattle.plan_laws.proofs.EntryKinds.{kinds-few}
use Rattle.plan_laws.proofs.InternedCount.{interned-count}
use Rattle.plan_laws.proofs.InternedParts.{type_weight, interned-light}
use Rattle.plan_laws.proofs.ListedShares.{entries_in, parts_within, names_within, shares}
use Rattle.plan_laws.proofs.PlanLists as lists
use Rattle.plan_laws.proofs.PlanNames.{names-few}
use Rattle.plan_laws.proofs.PlanOperators.{global-operators, value-operators, offset-operators, place-operators}
use Rattle.plan_laws.proofs.PlanTypes.{types-weigh, module-parts}
use Rattle.plan_laws.proofs.TableCounts.{images-within}

module _ (o : Options) (bytes : List ℕ) (plan : Plan) (kept : IsKept plan) (is : IsPlanned o bytes plan) where
  abbrev m : plain.Module
  m = is.meaning

  abbrev t : ModuleTranslation
  t = plan.translation

  abbrev whole : IsInitialised o.init bytes m t
  whole = is.planned.translation

  abbrev startup : Bool
  startup = runs (startup_by m (memory_plan_of t) (plan_of_tables t))

  abbrev built : Built
  built = interned_list m startup

  abbrev same : HoldsTypes plan.types built
  same = is.planned.types

  -- ---- types

  type-count : length plan.types.types ≤ 2 * length (plain.types m) + length (plain.tags m) + 1
  type-count = omega (arith, ap length same.types, length-map plan.types.types interned_of, interned-count m startup)

  group-count : length plan.types.groups ≤ length plan.types.types
  group-count = omega (
    arith,
    few-groups built (well-named (placed_groups m) (keeps-earlier m is.keeps) (plain.tags m) startup).orderly,
    ap length same.types,
    length-map plan.types.types interned_of,
    ap length same.groups,
    length-map plan.types.groups span_of,
  )

  layout-count : length plan.layouts ≡ length plan.types.types
  layout-count = sym (length-map plan.layouts (option_map object_layout)) ∙ ap length is.planned.layouts ∙ length-map plan.types.types _

  -- ---- lines

  abbrev named : ℕ
  named = length t.debuginfo.name_section.func_names.entries

  lines : lines_of plan ≤ single_lines + byte_lines * (1 + entries_in m) + named
  unfolding entries_in
  lines = omega (
    arith,
    type-count,
    group-count,
    layout-count,
    lists.types o.init bytes m is.keeps t whole,
    lists.imports o.init bytes m is.keeps t whole,
    lists.exports o.init bytes m is.keeps t whole,
    lists.functions o.init bytes m is.keeps t whole,
    lists.signatures o.init bytes m is.keeps t whole,
    lists.known o.init bytes m is.keeps t whole,
    lists.left o.init bytes m is.keeps t whole,
    lists.values o.init bytes m is.keeps t whole,
    lists.table-images o.init bytes m is.keeps t whole,
    lists.elements o.init bytes m is.keeps t whole,
    lists.memory-images o.init bytes m is.keeps t whole,
    lists.data-segments o.init bytes m is.keeps t whole,
    lists.runtime o.init bytes m is.keeps t whole,
    lists.found o.init bytes m is.keeps t whole,
    kinds-few (plain.imports m),
    length-append (plain.imported_of plain.function_import m) (flat_map plain.function_types_of_section m),
    length-append (plain.imported_of plain.memory_import m) (flat_map plain.memories_of_section m),
    length-append (plain.imported_of plain.tag_import m) (flat_map plain.tags_of_section m),
  )

  -- ---- parts, names and cells

  parts : parts_in plan ≤ byte_parts * parts_within m
  unfolding parts_within
  parts = omega (
    arith,
    types-weigh (header_size o.collector) plan.types.types plan.layouts is.planned.layouts,
    ap (sum_by type_weight) same.types,
    interned-light (placed_groups m) (plain.tags m) startup,
    module-parts m,
    global-operators o.init bytes m is.keeps t whole,
    value-operators o.init bytes m is.keeps t whole,
    offset-operators o.init bytes m is.keeps t whole,
    place-operators o.init bytes m is.keeps t whole,
  )

  names : named + names_in plan ≤ names_within m
  unfolding names_within
  names = omega (arith, names-few o.init bytes m t whole kept.names)

  cells : cells_in plan ≤ most_cells * entries_in m
  unfolding entries_in
  cells = omega (
    arith,
    images-within (own_tables t) t.table_initialization.initial_values t.module.table_initialization whole.rest.counts.values whole.rest.counts.images (costs o bytes plan is).cells,
    lists.table-images o.init bytes m is.keeps t whole,
  )

  pub text-is-linear : TextAtMost plan → TextIsLinear bytes plan
  text-is-linear most =
      let all = shares is.read.spelled in
      record {
        lines = omega (arith, all, lines, names);
        parts = omega (arith, all, parts);
        names = omega (arith, all, names);
        cells = omega (arith, all, cells);
        text = omega (arith, all, lines, parts, names, most);
      }
