-- Tables as they begin hold what their phase begins with.
use Rattle.std.proofs.Common.{◌≡◌, ℕ, zero, suc, ◌+◌, ◌<◌, ◌≤◌, List, [], ◌∷◌, ◌++◌, length, map, Option, None, Some, refl, arith}
use Rattle.std.specs.Prelude.{slice_get, unwrap_or, All}
use Rattle.std.proofs.lemmas.Bool.{lt-ltb, le-ltb, cond-true, cond-false}
use Rattle.std.proofs.lemmas.List.{length-map, length-append, length-replicate, get_or_append_left}
use Rattle.std.proofs.lemmas.Option.{slice_get-map, slice_get-get_or, get_or_from_slice_get}
use Rattle.wasm_spec.specs.Module.{Expression}
use Rattle.replay_spec.specs.Elements.{cell_of, table_sizes, table_base}
use Rattle.replay_spec.specs.Tables.{PlannedTable, TablePlan, reference_of, planned_cell, planned_first, planned_elements_phase}
use Rattle.replay_spec.specs.Values as plain
use Rattle.plan_run.specs.Lays.{Hold}
use Rattle.plan_run.specs.Tables.{image_cells, cells_from, first_cells}
use Rattle.plan_run.proofs.Lists.{get-replicate, get-append-low, get-append-high, all-at, each-half}

-- ---- one table

image-at : (minimum : ℕ) (image : List (Option ℕ)) (place : ℕ) → place < minimum
    → slice_get (image_cells minimum image) place ≡ Some (reference_of (unwrap_or (slice_get image place) None))
image-at minimum [] place l = grind (arith, get-replicate)
image-at zero (c ∷ cs) place l = absurd (omega arith)
image-at (suc minimum) (c ∷ cs) zero l = refl
image-at (suc minimum) (c ∷ cs) (suc place) l = grind (arith, (image-at minimum cs place (omega arith)))

module _ (globals : List plain.Value) (fields : ℕ → ℕ) where
  length-cells : (minimum : ℕ) (initial : Option Expression) (image : List (Option ℕ)) → length image ≤ minimum → length (cells_from globals fields minimum initial image) ≡ minimum
  length-cells minimum initial image l = grind (arith, length-append, length-map, length-replicate)

  cell-at : (minimum : ℕ) (initial : Option Expression) (image : List (Option ℕ)) (place : ℕ) → place < minimum
      → slice_get (cells_from globals fields minimum initial image) place ≡ Some (planned_cell globals fields initial image place)
  cell-at minimum None image place l = image-at minimum image place l
  cell-at minimum (Some e) image place l = get-replicate (cell_of globals fields e) minimum place l

  -- ---- all

  module _ (imported objects : List (List plain.Value)) (plan : TablePlan) (are : objects ≡ imported ++ map (first_cells globals fields) plan.tables)
      (short : All (λ table. length table.image ≤ table.minimum) plan.tables) where
    abbrev size_at : ℕ → ℕ
    size_at i = table_sizes imported (map (λ t. t.minimum) plan.tables) i

    abbrev base_at : ℕ → ℕ → plain.Value
    base_at i place = table_base imported (λ i place. planned_first globals fields (slice_get plan.tables i) place) i place

    abbrev lengths : List ℕ
    lengths = map length imported

    abbrev minimums : List ℕ
    minimums = map (λ t. t.minimum) plan.tables

    low-at : (i : ℕ) (object : List plain.Value) → i < length imported → slice_get objects i ≡ Some object → slice_get imported i ≡ Some object
    low-at i object low at = grind (arith, get-append-low)

    low-size : (i : ℕ) (object : List plain.Value) → i < length imported → slice_get objects i ≡ Some object → length object ≡ size_at i
    low-size i object low at =
        grind (arith, low-at i object low at, length-map, get_or_append_left lengths minimums 0 i, get_or_from_slice_get lengths i (length object) 0, slice_get-map length imported i)

    low-item : (i place : ℕ) (object : List plain.Value) → i < length imported → slice_get objects i ≡ Some object → place < size_at i
        → slice_get object place ≡ Some (base_at i place)
    low-item i place object low at l =
        grind (arith, low-size i object low at, low-at i object low at, slice_get-get_or object place (plain.Ref plain.Null), lt-ltb, cond-true)

    high-at : (j : ℕ) (object : List plain.Value) → slice_get objects (length imported + j) ≡ Some object
        → (t : PlannedTable) × (slice_get plan.tables j ≡ Some t) × (object ≡ first_cells globals fields t)
    high-at j object at = grind (arith, get-append-high, slice_get-map)

    high-size : (j : ℕ) (object : List plain.Value) → slice_get objects (length imported + j) ≡ Some object → length object ≡ size_at (length imported + j)
    high-size j object at =
        let found = high-at j object at in
        let t : PlannedTable = found.0 in
        let image = all-at (λ (x : PlannedTable). length x.image ≤ x.minimum) plan.tables j t short found.1 in
        let high = get-append-high lengths minimums j in
        let mapped = slice_get-map (λ (x : PlannedTable). x.minimum) plan.tables j in
        grind (arith, length-cells t.minimum t.initial t.image image, length-map imported length, get_or_from_slice_get (lengths ++ minimums) (length lengths + j) t.minimum 0)

    high-item : (j place : ℕ) (object : List plain.Value) → slice_get objects (length imported + j) ≡ Some object → place < size_at (length imported + j)
        → slice_get object place ≡ Some (base_at (length imported + j) place)
    high-item j place object at l =
        let found = high-at j object at in
        let t : PlannedTable = found.0 in
        let image = all-at (λ (x : PlannedTable). length x.image ≤ x.minimum) plan.tables j t short found.1 in
        grind (arith, high-size j object at, length-cells t.minimum t.initial t.image image, cell-at t.minimum t.initial t.image place, le-ltb, cond-false)

    pub tables-hold : Hold (planned_elements_phase globals fields imported plan).sizes (planned_elements_phase globals fields imported plan).base objects
    tables-hold = record {
      sizes = each-half objects (length imported) (λ i object. length object ≡ size_at i) low-size high-size;
      items = λ i place object at. each-half objects (length imported) (λ i object. (place : ℕ) → place < size_at i → slice_get object place ≡ Some (base_at i place))
          (λ i object low at place. low-item i place object low at) (λ j object at place. high-item j place object at) i object at place;
    }
