-- The plan with table images leaves what the element segments leave.
use Rattle.std.proofs.lemmas.Grind.{common_steps}
use Rattle.std.proofs.Common.{◌≡◌, ℕ, zero, suc, ◌+◌, ◌-◌, ◌<◌, ◌≤◌, Bool, true, false, List, [], ◌∷◌, length, get_or, map, All, Option, None, Some, refl, sym, ◌∙◌, ap, subst, arith}
use Rattle.std.specs.Prelude.{slice_get, unwrap_or, IsSome}
use Rattle.std.specs.Option.{option_map}
use Rattle.std.proofs.Math.Logic.{⊎_elim}
use Rattle.std.proofs.lemmas.Bool.{false≢true, cases_lt, le-leb, eq-eqb, lt-ltb, le-ltb, cond-true, cond-false}
use Rattle.std.proofs.lemmas.List.{length-map, get_or-append_right, length-append, map-append}
use Rattle.std.proofs.lemmas.List.Elements.{All-head, All-tail, All-get_or}
use Rattle.std.proofs.lemmas.Option.{slice_get-map, slice_get_within, slice_get-get_or, slice_get_past, get_or_from_slice_get, none-some, same_Some, unwrap_or-slice_get}
use Rattle.wasm_spec.specs.Module.{Expression}
use Rattle.replay_spec.specs.Phases.{Piece, fits, item_at, last_item, SamePhase}
use Rattle.replay_spec.specs.Values.{Value, Ref, Func, offset_over}
use Rattle.replay_spec.specs.Elements.{ActiveElements, DefinedTable, value_or_null, cell_of, elements_piece, table_sizes, table_base, initial_cell, first_cell, elements_phase}
use Rattle.replay_spec.specs.Tables.{expression_cell, image_piece, elements_end, initial_function, kept_initial, MayBeTaken, end_on, image_length, IsTableImage, PlannedTable, TablePlan, IsTablePlan, constant_place, reference_of, planned_cell, planned_first, planned_elements_phase, AgreesOnTables}
use Rattle.replay_spec.proofs.Replay.{AllFit, SamePhase-prefix}
use Rattle.replay_spec.proofs.Covering.{CoversAt, Covers, last-cover}
use Rattle.replay_spec.proofs.Constant.{eval-const_value}

-- ---- constants

-- a constant offset is the offset, over any globals
pub offset-constant : (globals : List Value) (fields : ℕ → ℕ) (e : Expression) (n : ℕ) → constant_place e ≡ Some n → offset_over globals fields e ≡ n
offset-constant globals fields e n h = grind (arith, none-some, eval-const_value)

-- ---- cells of items

module _ (globals : List Value) (fields : ℕ → ℕ) where
  expression-cell : (e : Expression) → IsSome (expression_cell e) → cell_of globals fields e ≡ reference_of (unwrap_or (expression_cell e) None)
  expression-cell e h1 = grind (arith, false≢true)

  function-cells : (indices : List ℕ) → map (λ k. Ref (Func k)) indices ≡ map reference_of (map Some indices)
  function-cells [] = refl
  function-cells (k ∷ ks) = ap (λ xs. Ref (Func k) ∷ xs) (function-cells ks)

  value-cells : (items : List Expression) → All (λ e. IsSome (expression_cell e)) items
      → map (cell_of globals fields) items ≡ map reference_of (map (λ e. unwrap_or (expression_cell e) None) items)
  value-cells [] all = refl
  value-cells (e ∷ es) all = grind (arith, expression-cell, All-head, All-tail, (value-cells es (All-tail (λ e. IsSome (expression_cell e)) e es all)))

  -- ---- pieces whose items are mapped

  mapped-unwrap : (o : Option (Option ℕ)) (d : Option ℕ) → unwrap_or (option_map reference_of o) (reference_of d) ≡ reference_of (unwrap_or o d)
  mapped-unwrap o d = grind (arith, common_steps)

  module _ (lazy : Bool) (imports : ℕ) (tables : List DefinedTable) where
    same-offset : (s : ActiveElements) → MayBeTaken lazy imports tables s → offset_over globals fields s.offset ≡ unwrap_or (constant_place s.offset) 0
    same-offset s h = offset-constant globals fields s.offset h.place h.constant ∙ sym (ap (λ o. unwrap_or o 0) h.constant)

    mapped-item : (object place : ℕ) (s : ActiveElements) → MayBeTaken lazy imports tables s
        → item_at object place (elements_piece globals fields s) ≡ option_map reference_of (item_at object place (image_piece s))
    mapped-item object place s h = grind (arith, slice_get-map, same-offset, function-cells, value-cells)

    -- the cells that segments in images leave are those of the image
    taken-cells : (taken : List ActiveElements) → All (MayBeTaken lazy imports tables) taken → (object place : ℕ) (d : Option ℕ)
        → last_item object place (reference_of d) (map (elements_piece globals fields) taken) ≡ reference_of (last_item object place d (map image_piece taken))
    taken-cells [] all object place d = refl
    taken-cells (s ∷ ss) all object place d = grind (arith, mapped-item, All-head, mapped-unwrap, All-tail, (taken-cells ss (All-tail (MayBeTaken lazy imports tables) s ss all) object place (unwrap_or (item_at object place (image_piece s)) d)))

-- ---- segments in images fit

sizes-table : (imported : List (List Value)) (tables : List DefinedTable) (i : ℕ) (t : DefinedTable) → length imported ≤ i
    → slice_get tables (i - length imported) ≡ Some t → table_sizes imported (map (λ t. t.minimum) tables) i ≡ t.minimum
sizes-table imported tables i t defined at =
    get_or-append_right (map length imported) (map (λ t. t.minimum) tables) (length imported) i 0 (length-map imported length) defined
    ∙ get_or_from_slice_get (map (λ t. t.minimum) tables) (i - length imported) t.minimum 0
    (slice_get-map (λ (t : DefinedTable). t.minimum) tables (i - length imported) ∙ ap (option_map (λ (t : DefinedTable). t.minimum)) at)

module _ (globals : List Value) (fields : ℕ → ℕ) (lazy : Bool) (imports : ℕ) (tables : List DefinedTable) (imported : List (List Value)) (count : length imported ≡ imports) where
  fits-taken : (s : ActiveElements) → MayBeTaken lazy imports tables s → fits (table_sizes imported (map (λ t. t.minimum) tables)) (elements_piece globals fields s) ≡ true
  fits-taken s h = grind (arith, offset-constant, sizes-table, length-map, le-leb)

  pub fit-taken : (taken : List ActiveElements) → All (MayBeTaken lazy imports tables) taken
      → AllFit (table_sizes imported (map (λ t. t.minimum) tables)) (map (elements_piece globals fields) taken)
  fit-taken [] all = tt
  fit-taken (s ∷ ss) all = grind (arith, fits-taken, All-head, All-tail, (fit-taken ss (All-tail (MayBeTaken lazy imports tables) s ss all)))

-- ---- what segments in images leave

-- what holds of each element of a list holds of the one at a position
All-at : {X : Type 0} (P : X → Type 0) (xs : List X) (i : ℕ) (x : X) → All P xs → slice_get xs i ≡ Some x → P x
All-at P xs i x all at = subst P (get_or_from_slice_get xs i x x at) (All-get_or P xs i x (slice_get_within xs i x at) all)

-- a piece that is made of an element of a list covers a position
record CoversFrom {X A : Type 0} (f : X → Piece A) (xs : List X) (object place : ℕ) : Type 0 where
  pub index : ℕ
  pub element : X
  pub stands : slice_get xs index ≡ Some element
  pub covers : CoversAt object place (f element)

covers-from : {X A : Type 0} (f : X → Piece A) (xs : List X) (object place : ℕ) → Covers object place (map f xs) → CoversFrom f xs object place
covers-from f xs object place h1 = grind (arith, none-some, slice_get-map, same_Some)

below-end : (taken : List ActiveElements) (i : ℕ) (s : ActiveElements) (m : ℕ) → slice_get taken i ≡ Some s → s.table ≡ m → elements_end s ≤ end_on m taken
below-end [] i s m at on = absurd (none-some s at)
below-end (x ∷ xs) zero s m at on = grind (arith, same_Some, eq-eqb)
below-end (x ∷ xs) (suc i) s m at on = grind (arith, (below-end xs i s m at on))

past-end : (taken : List ActiveElements) (m place : ℕ) → end_on m taken ≤ place → last_item m place None (map image_piece taken) ≡ None
past-end taken m place le = grind (arith, (covers-from image_piece taken m place), (below-end taken), (last-cover m place None (map image_piece taken)))

-- ---- tables that keep no initialiser

-- the segments leave nothing past the end of an image
pub past-image : (lazy : Bool) (taken : List ActiveElements) (m place : ℕ) (t : DefinedTable) → kept_initial lazy t ≡ None → place < t.minimum
    → image_length lazy taken m t ≤ place → last_item m place (initial_function t.initial) (map image_piece taken) ≡ None
past-image lazy taken m place t keeps within le = grind (arith, cond-true, cond-false, past-end)

module _ (globals : List Value) (fields : ℕ → ℕ) (lazy : Bool) (imports : ℕ) (tables : List DefinedTable) (taken : List ActiveElements) (all : All (MayBeTaken lazy imports tables) taken) where
  -- what a segment in the image of a table says about the table
  begins-on : (m place : ℕ) (t : DefinedTable) → slice_get tables (m - imports) ≡ Some t → Covers m place (map (elements_piece globals fields) taken)
      → kept_initial lazy t ≡ None
  begins-on m place t at c =
      let f = covers-from (elements_piece globals fields) taken m place c in
      let h = All-at (MayBeTaken lazy imports tables) taken f.index f.element all f.stands in
      let on : f.element.table ≡ m = f.covers.on in
      let same : h.table ≡ t = same_Some h.table t (sym h.is_table ∙ ap (λ k. slice_get tables (k - imports)) on ∙ at) in
      ap (kept_initial lazy) (sym same) ∙ h.keeps_none

  imported-stays : (m place : ℕ) (d : Value) → m < imports → last_item m place d (map (elements_piece globals fields) taken) ≡ d
  imported-stays m place d lt = ⊎_elim (λ e. e)
      (λ (c : Covers m place (map (elements_piece globals fields) taken)).
      let f = covers-from (elements_piece globals fields) taken m place c in
      let h = All-at (MayBeTaken lazy imports tables) taken f.index f.element all f.stands in
      let on : f.element.table ≡ m = f.covers.on in
      let defined = h.defined in
      absurd (omega arith))
      (last-cover m place d (map (elements_piece globals fields) taken))

  first-image : (t : DefinedTable) → kept_initial lazy t ≡ None → initial_cell globals fields t.initial ≡ reference_of (initial_function t.initial)
  first-image t keeps = grind (arith)

  image-same : (m place : ℕ) (t : DefinedTable) (image : List (Option ℕ)) → kept_initial lazy t ≡ None → place < t.minimum → IsTableImage lazy taken m t image
      → last_item m place (initial_cell globals fields t.initial) (map (elements_piece globals fields) taken) ≡ reference_of (unwrap_or (slice_get image place) None)
  image-same m place t image keeps within h = grind (arith, (first-image t keeps), (taken-cells globals fields lazy imports tables taken all m place (initial_function t.initial)), (past-image lazy taken m place t keeps within), (slice_get_past image place), (cases_lt place (length image)))

  table-same : (m place : ℕ) (t : DefinedTable) → slice_get tables (m - imports) ≡ Some t → place < t.minimum → (o : Option Expression) → o ≡ kept_initial lazy t
      → (image : List (Option ℕ)) → IsTableImage lazy taken m t image
      → last_item m place (initial_cell globals fields t.initial) (map (elements_piece globals fields) taken) ≡ planned_cell globals fields o image place
  table-same m place t h1 h2 o h3 image h4 = grind (arith, image-same, none-some, begins-on, last-cover)

-- ---- the plan

abbrev minimums : List DefinedTable → List ℕ
minimums tables = map (λ t. t.minimum) tables

abbrev first_base : List Value → (ℕ → ℕ) → List (List Value) → List DefinedTable → ℕ → ℕ → Value
first_base globals fields imported tables = table_base imported (λ i place. first_cell globals fields (slice_get tables i))

abbrev planned_base : List Value → (ℕ → ℕ) → List (List Value) → TablePlan → ℕ → ℕ → Value
planned_base globals fields imported plan = table_base imported (λ i place. planned_first globals fields (slice_get plan.tables i) place)

module _ (globals : List Value) (fields : ℕ → ℕ) (lazy : Bool) (imports : ℕ) (tables : List DefinedTable) (active : List ActiveElements) (plan : TablePlan)
    (h : IsTablePlan lazy imports tables active plan) (imported : List (List Value)) (count : length imported ≡ imports) where
  defined-same : (m place : ℕ) → imports ≤ m → m < imports + length tables → place < table_sizes imported (minimums tables) m
      → last_item m place (first_cell globals fields (slice_get tables (m - imports))) (map (elements_piece globals fields) h.taken)
      ≡ planned_first globals fields (slice_get plan.tables (m - imports)) place
  defined-same m place low high within = found (slice_get tables (m - imports)) refl (slice_get plan.tables (m - imports)) refl where
    lengths : length plan.tables ≡ length tables
    lengths = sym (length-map plan.tables (λ (t : PlannedTable). t.minimum)) ∙ ap length h.minimums ∙ length-map tables (λ (t : DefinedTable). t.minimum)

    back : imports + (m - imports) ≡ m
    back = omega arith

    found : (o : Option DefinedTable) → slice_get tables (m - imports) ≡ o → (p : Option PlannedTable) → slice_get plan.tables (m - imports) ≡ p
        → last_item m place (first_cell globals fields (slice_get tables (m - imports))) (map (elements_piece globals fields) h.taken)
        ≡ planned_first globals fields (slice_get plan.tables (m - imports)) place
    found None e p f = absurd (none-some (get_or tables (m - imports) (record { minimum = 0; functions = false; initial = None }))
        (sym e ∙ slice_get-get_or tables (m - imports) (record { minimum = 0; functions = false; initial = None }) (omega arith)))
    found (Some t) e None f = absurd (none-some (get_or plan.tables (m - imports) (record { minimum = 0; initial = None; image = [] }))
        (sym f ∙ slice_get-get_or plan.tables (m - imports) (record { minimum = 0; initial = None; image = [] }) (let n = lengths in omega arith)))
    found (Some t) e (Some planned) f =
        let size = sizes-table imported tables m t (rw count low) (rw count e) in
        let image : IsTableImage lazy h.taken m t planned.image = rw back at (h.images (m - imports) t planned e f) in
        let kept : planned.initial ≡ kept_initial lazy t = same_Some planned.initial (kept_initial lazy t)
        (sym (slice_get-map (λ (p : PlannedTable). p.initial) plan.tables (m - imports) ∙ ap (option_map (λ (p : PlannedTable). p.initial)) f)
        ∙ ap (λ xs. slice_get xs (m - imports)) h.initials ∙ slice_get-map (kept_initial lazy) tables (m - imports) ∙ ap (option_map (kept_initial lazy)) e) in
        rw (e, f) (table-same globals fields lazy imports tables h.taken h.prefix.takes m place t e (omega (arith, size)) planned.initial kept planned.image image)

  none-past : (m : ℕ) → imports + length tables ≤ m → table_sizes imported (minimums tables) m ≡ 0
  none-past m le = grind (arith, common_steps, length-append, length-map, slice_get_past, unwrap_or-slice_get)

  same-cells : (m place : ℕ) → place < table_sizes imported (minimums tables) m
      → last_item m place (first_base globals fields imported tables m place) (map (elements_piece globals fields) h.taken) ≡ planned_base globals fields imported plan m place
  same-cells m place within = grind (arith, (lt-ltb m (length imported)), (imported-stays globals fields lazy imports tables h.taken h.prefix.takes m place (value_or_null (slice_get (unwrap_or (slice_get imported m) []) place))), (le-ltb m (length imported)), (defined-same m place), (none-past m), (cases_lt m (imports + length tables)), (cases_lt m imports))

  agrees-over : SamePhase (elements_phase globals fields imported tables active) (planned_elements_phase globals fields imported plan)
  agrees-over = grind (arith, (map-append (elements_piece globals fields) h.taken plan.segments), (SamePhase-prefix (table_sizes imported (minimums tables)) (first_base globals fields imported tables) (planned_base globals fields imported plan) (map (elements_piece globals fields) h.taken) [] (map (elements_piece globals fields) plan.segments) (fit-taken globals fields lazy imports tables imported count h.taken h.prefix.takes) tt same-cells), (fit-taken globals fields lazy imports tables imported count h.taken h.prefix.takes), same-cells)

pub tables-agree : (lazy : Bool) (imports : ℕ) (tables : List DefinedTable) (active : List ActiveElements) (plan : TablePlan)
    → IsTablePlan lazy imports tables active plan → AgreesOnTables imports tables active plan
tables-agree lazy imports tables active plan h = λ globals fields imported count. agrees-over globals fields lazy imports tables active plan h imported count
