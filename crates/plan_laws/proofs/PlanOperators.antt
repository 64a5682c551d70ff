-- The operators of a planned translation are no more than those of its module.
use Rattle.std.proofs.Common.{◌≡◌, ◌∙◌, ◌≤◌, ◌+◌, ℕ, Bool, true, false, List, [], ◌∷◌, length, map, Option, Some, None, sum_by, refl, sym, ap, arith}
use Rattle.std.specs.Prelude.{is_none, unwrap_or, if◌then◌else◌}
use Rattle.std.specs.List.{enumerate_from, filter_map, flat_map}
use Rattle.std.specs.Option.{option_map}
use Rattle.std.proofs.lemmas.List.{length-map}
use Rattle.std.proofs.lemmas.List.Sums.{sum_by-cons, sum_by-take-drop}
use Rattle.wasm_spec.specs.Module as plain
use Rattle.wasm_spec.specs.Module.{Expression, TableDef, GlobalDef, Element, ElementItems, ElementKind, PassiveElement, DeclaredElement, ActiveElement}
use Rattle.rule_spec.specs.Rules.{Keeps}
use Rattle.wasm_spec.specs.TypeData.{Reference}
use Rattle.replay_spec.specs.Elements.{ActiveItems, active_by}
use Rattle.replay_spec.specs.Globals.{kept_of}
use Rattle.replay_spec.specs.Values.{const_value}
use Rattle.wasm_index.specs.declared.index.Index.{Index}
use Rattle.wasm_index.specs.declared.spaces.DefinedGlobalSpace.{DefinedGlobalSpace}
use Rattle.wasm_index.specs.declared.spaces.MemorySpace.{MemorySpace}
use Rattle.wasm_index.specs.declared.spaces.RuntimeDataSpace.{RuntimeDataSpace}
use Rattle.wasm_types.specs.ValueViews.{Name}
use Rattle.wasm_convert.specs.declared.operators.ConstOp.{ConstOp}
use Rattle.wasm_convert.specs.Constants.{const_ops_of}
use Rattle.wasm_convert.specs.Conversion.{LookUp}
use Rattle.wasm_convert.specs.Operators.{operator_of, conversion}
use Rattle.wasm_module.specs.declared.table_initialization.TableInitialValue.{TableInitialValue}
use Rattle.wasm_module.specs.declared.table_initialization.TableInitialValue.TheVariants as initial
use Rattle.wasm_module.specs.declared.table_initialization.TableSegment.{TableSegment}
use Rattle.init_plan.specs.declared.translation.MemoryInit.{MemoryInit}
use Rattle.init_plan.specs.declared.translation.MemoryInit.TheVariants as init
use Rattle.init_plan.specs.declared.translation.MemorySegmentOffset.{MemorySegmentOffset}
use Rattle.init_plan.specs.declared.translation.MemorySegmentOffset.TheVariants as offset
use Rattle.init_plan.specs.declared.translation.ModuleTranslation.{ModuleTranslation}
use Rattle.init_plan.specs.Views.{planned_offset_of, planned_segment_of, processed_of}
use Rattle.module_sections.specs.Initialisers.{initialisers, left_initialisers, view_initialiser, first_values, view_first_value, type_in, active_items, view_segment}
use Rattle.interned_types.specs.Types.{look_up_in}
use Rattle.translate.specs.Initialised.{IsInitialised}
use Rattle.translate.specs.Options.{InitOptions}
use Rattle.plan_laws.specs.TextCosts.{value_operators, place_operators, segments_in}
use Rattle.plan_laws.proofs.MemoryCounts.{offset_operators, planned_operators, active-operators}
use Rattle.plan_laws.proofs.ModuleContents.{first_operators, cell_operators, kind_operators, element_operators, segment_operators}
use Rattle.plan_laws.proofs.PlanLists.{few}
use Rattle.plan_laws.proofs.Rest.{HasRest, has-rest}
use Rattle.plan_laws.proofs.SumLaws.{sum-mapped, if_any, sum-kept}
use Rattle.plan_laws.proofs.TableCounts.{left-operators}

-- ---- globals

abbrev Numbered : Type 0
Numbered = ℕ × Expression

abbrev numbered_operators : Numbered → ℕ
numbered_operators g = length g.1

kept-below : (g : Numbered) → if_any numbered_operators (kept_of g) ≤ length g.1
kept-below g = by (is_none (const_value g.1)) where
  by : (kept : Bool) → if_any numbered_operators (if kept then Some g else None) ≤ length g.1
  by true = omega arith
  by false = omega arith

numbered-same : (n : ℕ) (es : List Expression) → sum_by numbered_operators (enumerate_from n es) ≡ sum_by (λ (e : Expression). length e) es
numbered-same n [] = refl
numbered-same n (e ∷ es) = omega (arith, numbered-same (n + 1) es, sum_by-cons numbered_operators (n, e) (enumerate_from (n + 1) es), sum_by-cons (λ (e : Expression). length e) e es)

abbrev Initialiser : Type 0
Initialiser = ℕ × List ConstOp

left-below : (look : LookUp) (gs : List GlobalDef) → sum_by (λ (g : Initialiser). length g.1) (left_initialisers look gs) ≤ sum_by first_operators gs
left-below look gs =
    let as-read : Numbered → Initialiser = λ g. (g.0, const_ops_of look g.1) in
    omega (
      arith,
      sum-mapped as-read (λ g. length g.1) numbered_operators (λ g. sym (length-map g.1 (λ read. (conversion look read).op))) (filter_map kept_of (initialisers gs)),
      sum-kept kept_of numbered_operators numbered_operators kept-below (initialisers gs),
      numbered-same 0 (map (λ (g : GlobalDef). g.init) gs),
      sum-mapped (λ (g : GlobalDef). g.init) (λ (e : Expression). length e) first_operators (λ g. refl) gs,
    )

-- ---- tables

value-same : (v : TableInitialValue) → value_operators v ≡ if_any length (view_first_value v)
value-same initial.Null = refl
value-same (initial.Expr e) = refl

init-same : (look : LookUp) (e : Option Expression) → length (unwrap_or e []) ≡ if_any length (option_map (const_ops_of look) e)
init-same look None = refl
init-same look (Some e) = sym (length-map e (λ read. (conversion look read).op))

cells-same : (look : LookUp) (ts : List TableDef) → sum_by cell_operators ts ≡ sum_by (if_any length) (first_values look ts)
cells-same look ts = sum-mapped (λ (t : TableDef). option_map (const_ops_of look) t.init) (if_any length) cell_operators (λ t. init-same look t.init) ts

-- ---- element segments

abbrev item_offset : ActiveItems (Reference Name) (List ConstOp) → ℕ
item_offset s = length s.offset

active-below : (look : LookUp) (k : ElementKind) (items : ElementItems) → if_any item_offset (active_by (type_in look) (const_ops_of look) k items) ≤ kind_operators k
active-below look PassiveElement items = omega arith
active-below look DeclaredElement items = omega arith
active-below look (ActiveElement table e) items = omega (arith, length-map e (λ read. (conversion look read).op))

offsets-below : (look : LookUp) (es : List Element) → sum_by item_offset (active_items look es) ≤ sum_by element_operators es
offsets-below look es = sum-kept (λ (e : Element). active_by (type_in look) (const_ops_of look) e.kind e.items) item_offset element_operators (λ e. active-below look e.kind e.items) es

-- ---- data segments

place-same : (place : MemorySegmentOffset) → place_operators place ≡ offset_operators (planned_offset_of place)
place-same (offset.Expr e) = sym (length-map e operator_of)
place-same (offset.Static place) = refl

abbrev Planned : Type 0
Planned = Index MemorySpace × MemorySegmentOffset × Index RuntimeDataSpace

places-same : (m : MemoryInit) → sum_by (λ (s : Planned). place_operators s.1) (segments_in m) ≡ sum_by planned_operators (processed_of m)
places-same (init.Unprocessed segments) = refl
places-same (init.Processed segments) = sum-mapped planned_segment_of planned_operators (λ (s : Planned). place_operators s.1) (λ s. place-same s.1) segments.items

-- ---- a planned translation

module _ (i : InitOptions) (bytes : List ℕ) (m : plain.Module) (keeps : Keeps m) (t : ModuleTranslation) (is : IsInitialised i bytes m t) where
  rest : HasRest i bytes m t
  rest = has-rest i bytes m t is

  abbrev Left : Type 0
  Left = Index DefinedGlobalSpace × List ConstOp

  pub global-operators : sum_by (λ (g : Left). length g.1) t.global_initializers.items ≤ sum_by first_operators (flat_map plain.globals_of_section m)
  global-operators = omega (
    arith,
    sum-mapped (view_initialiser (λ e. e)) (λ (g : Initialiser). length g.1) (λ (g : Left). length g.1) (λ g. refl) t.global_initializers.items
        ∙ ap (sum_by (λ (g : Initialiser). length g.1)) rest.globals.left,
    left-below (look_up_in m) (flat_map plain.globals_of_section m),
  )

  pub value-operators : sum_by value_operators t.table_initialization.initial_values ≤ sum_by cell_operators (flat_map plain.tables_of_section m)
  value-operators =
      let old = is.rest.before.table_initialization.initial_values in
      omega (
        arith,
        left-operators old t.table_initialization.initial_values is.rest.left.initialisers,
        sum-mapped view_first_value (if_any length) value_operators value-same old ∙ ap (sum_by (if_any length)) is.rest.translation.sections.elements.first,
        cells-same (look_up_in m) (flat_map plain.tables_of_section m),
      )

  pub offset-operators : sum_by (λ (s : TableSegment). length s.offset) t.table_initialization.segments.items ≤ sum_by element_operators (flat_map plain.elements_of_section m)
  offset-operators =
      let old = is.rest.before.table_initialization.segments.items in
      let f : TableSegment → ℕ = λ s. length s.offset in
      omega (
        arith,
        ap (sum_by f) is.rest.left.segments,
        sum_by-take-drop f old is.rest.left.taken,
        sum-mapped view_segment item_offset f (λ s. refl) old ∙ ap (sum_by item_offset) is.rest.translation.sections.elements.active,
        offsets-below (look_up_in m) (flat_map plain.elements_of_section m),
      )

  pub place-operators : sum_by (λ (s : Planned). place_operators s.1) (segments_in t.memory_init) ≤ sum_by segment_operators (plain.segments m)
  place-operators = omega (arith, places-same t.memory_init, (few i bytes m keeps t is).operators, active-operators m)
