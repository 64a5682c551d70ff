-- The phases of what a plan holds of a module are the module's: no value depends on the heap type
-- of a null.
use Rattle.std.proofs.Common.{◌≡◌, ◌∙◌, ℕ, zero, suc, ◌+◌, List, [], ◌∷◌, ◌++◌, map, Option, None, Some, refl, ap, subst}
use Rattle.std.specs.Prelude.{slice_get, unwrap_or}
use Rattle.std.specs.Option.{option_map}
use Rattle.wasm_spec.specs.Module.{Expression, ElementKind, ActiveElement, ElementItems, Functions, Expressions, Element}
use Rattle.replay_spec.specs.Phases.{Phase, SamePhase}
use Rattle.replay_spec.specs.Values.{Value, number_or_zero, offset_over}
use Rattle.replay_spec.specs.Data.{ActiveSegment, piece_of, segments_phase, memory_sizes, memory_base}
use Rattle.replay_spec.specs.Elements.{DefinedTable, value_or_null, cell_of, item_cells, elements_piece, initial_cell, first_cell, table_sizes, table_base, elements_phase, items_by, active_elements}
use Rattle.replay_spec.specs.Globals.{values_after, ReadEarlier}
use Rattle.replay_spec.specs.Held.{any_nulls, held_segment, held_elements, held_table}
use Rattle.replay_spec.specs.Plan.{MemoryPlan, AgreesOver, phase_by_map, phase_by_list}
use Rattle.replay_spec.specs.Tables.{TablePlan, AgreesOnTables, planned_elements_phase}
use Rattle.replay_spec.proofs.AnyNull.{eval-any, reads-any}

module _ (globals : List Value) (fields : ℕ → ℕ) where
  -- ---- data segments

  pub pieces-held : (active : List ActiveSegment) → map (piece_of (offset_over globals fields)) (map held_segment active) ≡ map (piece_of (offset_over globals fields)) active
  pieces-held [] = refl
  pieces-held (s ∷ ss) = λ i. record { object = s.memory; offset = number_or_zero (eval-any globals fields s.offset i); items = s.bytes } ∷ pieces-held ss i

  pub segments_phase-held : (imported : List (List ℕ)) (defined : List ℕ) (active : List ActiveSegment)
      → segments_phase (offset_over globals fields) imported defined (map held_segment active) ≡ segments_phase (offset_over globals fields) imported defined active
  segments_phase-held imported defined active = λ i. record {
    sizes = memory_sizes imported defined;
    base = memory_base imported;
    pieces = pieces-held active i;
  }

  -- ---- element segments and tables

  cell-held : (e : Expression) → cell_of globals fields (any_nulls e) ≡ cell_of globals fields e
  cell-held e = ap value_or_null (eval-any globals fields e)

  cells-held : (es : List Expression) → map (cell_of globals fields) (map any_nulls es) ≡ map (cell_of globals fields) (map (λ e. e) es)
  cells-held [] = refl
  cells-held (e ∷ es) = λ i. cell-held e i ∷ cells-held es i

  items-held : (items : ElementItems) → item_cells globals fields (items_by (λ type. tt) any_nulls items) ≡ item_cells globals fields (items_by (λ type. tt) (λ e. e) items)
  items-held (Functions indices) = refl
  items-held (Expressions type items) = cells-held items

  pub element_pieces-held : (elements : List Element) → map (elements_piece globals fields) (held_elements elements) ≡ map (elements_piece globals fields) (active_elements elements)
  element_pieces-held [] = refl
  element_pieces-held (e ∷ es) = by e.kind e.items (element_pieces-held es) where
    by : (kind : ElementKind) (items : ElementItems)
        → map (elements_piece globals fields) (held_elements es) ≡ map (elements_piece globals fields) (active_elements es)
        → map (elements_piece globals fields) (held_elements (record { kind = kind; items = items } ∷ es))
        ≡ map (elements_piece globals fields) (active_elements (record { kind = kind; items = items } ∷ es))
    by (ActiveElement table offset) items rest =
        λ i. record { object = unwrap_or table 0; offset = number_or_zero (eval-any globals fields offset i); items = items-held items i } ∷ rest i
    by _ items rest = rest

  initial-held : (e : Option Expression) → initial_cell globals fields (option_map any_nulls e) ≡ initial_cell globals fields e
  initial-held None = refl
  initial-held (Some e) = cell-held e

  pub first-held : (tables : List DefinedTable) (n : ℕ) → first_cell globals fields (slice_get (map held_table tables) n) ≡ first_cell globals fields (slice_get tables n)
  first-held [] n = refl
  first-held (t ∷ ts) zero = initial-held t.initial
  first-held (t ∷ ts) (suc n) = first-held ts n

  pub minimums-held : (tables : List DefinedTable) → map (λ t. t.minimum) (map held_table tables) ≡ map (λ t. t.minimum) tables
  minimums-held [] = refl
  minimums-held (t ∷ ts) = λ i. t.minimum ∷ minimums-held ts i

  pub elements_phase-held : (imported : List (List Value)) (tables : List DefinedTable) (elements : List Element)
      → elements_phase globals fields imported (map held_table tables) (held_elements elements) ≡ elements_phase globals fields imported tables (active_elements elements)
  elements_phase-held imported tables elements = λ i. record {
    sizes = table_sizes imported (minimums-held tables i);
    base = table_base imported (λ n place. first-held tables n i);
    pieces = element_pieces-held elements i;
  }

-- ---- globals

pub values_after-held : (fields : ℕ → ℕ) (known : List Value) (es : List Expression) → values_after fields known (map any_nulls es) ≡ values_after fields known es
values_after-held fields known [] = refl
values_after-held fields known (e ∷ es) =
    ap (λ (c : Value). values_after fields (known ++ c ∷ []) (map any_nulls es)) (ap value_or_null (eval-any known fields e))
    ∙ values_after-held fields (known ++ cell_of known fields e ∷ []) es

pub reads-held : (n : ℕ) (es : List Expression) → ReadEarlier n es → ReadEarlier n (map any_nulls es)
reads-held n [] h = tt
reads-held n (e ∷ es) h = (reads-any n e h.0, reads-held (n + 1) es h.1)

-- ---- a plan that agrees with what it holds of a module agrees with the module

pub agrees-held : (imports : ℕ) (defined : List ℕ) (active : List ActiveSegment) (plan : MemoryPlan)
    → AgreesOver imports defined (map held_segment active) plan → AgreesOver imports defined active plan
agrees-held imports defined active plan h = record {
  by_map = λ globals fields imported count. subst (λ (p : Phase ℕ). SamePhase p (phase_by_map (offset_over globals fields) imported plan))
      (segments_phase-held globals fields imported defined active) (h.by_map globals fields imported count);
  by_list = λ globals fields imported count. subst (λ (p : Phase ℕ). SamePhase p (phase_by_list (offset_over globals fields) imported plan))
      (segments_phase-held globals fields imported defined active) (h.by_list globals fields imported count);
}

pub agrees_on_tables-held : (imports : ℕ) (tables : List DefinedTable) (elements : List Element) (plan : TablePlan)
    → AgreesOnTables imports (map held_table tables) (held_elements elements) plan → AgreesOnTables imports tables (active_elements elements) plan
agrees_on_tables-held imports tables elements plan h = λ globals fields imported count.
    subst (λ (p : Phase Value). SamePhase p (planned_elements_phase globals fields imported plan)) (elements_phase-held globals fields imported tables elements)
    (h globals fields imported count)
