-- The tables of a plan have no more operators and cells than their first values and images allow.
use Rattle.std.proofs.Common.{◌≡◌, ◌≤◌, ◌*◌, ℕ, suc, List, [], ◌∷◌, length, map, get_or, sum_by, refl, arith}
use Rattle.std.specs.Prelude.{All}
use Rattle.std.proofs.lemmas.List.{length-map}
use Rattle.std.proofs.lemmas.List.Elements.{All-head, All-tail}
use Rattle.std.proofs.lemmas.List.Sums.{sum_by-cons}
use Rattle.std.specs.Global.{Vec}
use Rattle.wasm_index.specs.declared.index.Index.{Index}
use Rattle.wasm_index.specs.declared.spaces.FuncSpace.{FuncSpace}
use Rattle.wasm_types.specs.declared.table.Table.{Table}
use Rattle.wasm_convert.specs.declared.operators.ConstOp.{ConstOp}
use Rattle.wasm_module.specs.declared.table_initialization.TableInitialValue.{TableInitialValue}
use Rattle.wasm_module.specs.declared.table_initialization.TableInitialValue.TheVariants as initial
use Rattle.replay_spec.specs.Tables.{PlannedTable, most_cells}
use Rattle.table_images.specs.Left.{StandStill}
use Rattle.table_images.specs.Steps.{images_of}
use Rattle.table_images.specs.Views.{cell_of, initial_of, planned_tables_of}
use Rattle.plan_laws.specs.TextCosts.{value_operators}

-- ---- first values that remain

abbrev value_at : List TableInitialValue → ℕ → TableInitialValue
value_at vs i = get_or vs i initial.Null

-- the same values, one after the first
later : (v w : TableInitialValue) (vs ws : List TableInitialValue) → StandStill (v ∷ vs) (w ∷ ws) → StandStill vs ws
later v w vs ws still i e is = still (suc i) e is

later-none : (w : TableInitialValue) (ws : List TableInitialValue) → StandStill [] (w ∷ ws) → StandStill [] ws
later-none w ws still i e is = still (suc i) e is

null-not : (e : List ConstOp) → initial.Null ≡ initial.Expr e → ⊥
null-not e is = absurd cc

first-same : (v w : TableInitialValue) → ((e : List ConstOp) → w ≡ initial.Expr e → v ≡ initial.Expr e) → value_operators w ≤ value_operators v
first-same v initial.Null same = omega arith
first-same v (initial.Expr e) same = let is = same e refl in rw is (omega arith)

pub left-operators : (old new : List TableInitialValue) → StandStill old new → sum_by value_operators new ≤ sum_by value_operators old
left-operators old [] still = omega arith
left-operators [] (w ∷ ws) still =
    omega (arith, first-same initial.Null w (λ e is. still 0 e is), left-operators [] ws (later-none w ws still), sum_by-cons value_operators w ws)
left-operators (v ∷ vs) (w ∷ ws) still =
    omega (arith, first-same v w (λ e is. still 0 e is), left-operators vs ws (later v w vs ws still), sum_by-cons value_operators v vs, sum_by-cons value_operators w ws)

-- ---- images

abbrev Image : Type 0
Image = Vec (Index FuncSpace)

abbrev image_cells : Image → ℕ
image_cells image = length image.items

pub images-within : (ts : List Table) (vs : List TableInitialValue) (images : List Image) → length ts ≡ length vs → length images ≡ length vs
    → All (λ (table : PlannedTable). length table.image ≤ most_cells) (planned_tables_of ts vs (images_of images))
    → sum_by image_cells images ≤ most_cells * length images
images-within ts vs [] a b all = omega arith
images-within [] (v ∷ vs) (image ∷ images) a b all = absurd (omega (arith, a))
images-within ts [] (image ∷ images) a b all = absurd (omega (arith, b))
images-within (t ∷ ts) (v ∷ vs) (image ∷ images) a b all =
    let table : PlannedTable = record { minimum = t.limits.min; initial = initial_of v; image = map cell_of image.items } in
    let P : PlannedTable → Type 0 = λ (table : PlannedTable). length table.image ≤ most_cells in
    let rest = planned_tables_of ts vs (images_of images) in
    let one : length (map cell_of image.items) ≤ most_cells = All-head P table rest all in
    let others = images-within ts vs images (omega (arith, a)) (omega (arith, b)) (All-tail P table rest all) in
    omega (arith, one, others, length-map image.items cell_of, sum_by-cons image_cells image images)
