-- Tables, initial values and images, with equal positions.
use Rattle.std.proofs.Common.{◌≡◌, ℕ, zero, suc, ◌+◌, ◌<◌, List, [], ◌∷◌, ◌++◌, length, get_or, set, map, take, drop, replicate, Option, Some, refl, sym, ◌∙◌, ap, subst, arith, Bool, true, false}
use Rattle.std.specs.Prelude.{slice_get}
use Rattle.std.specs.Global.{Vec}
use Rattle.std.proofs.lemmas.Bool.{cond-true}
use Rattle.std.proofs.lemmas.List.{length-map, length-take-le, map-append, get_or-drop, drop-set-lt, take_more_set}
use Rattle.std.proofs.lemmas.Grind.{drop_more_same}
use Rattle.std.proofs.lemmas.List.Elements.{All-head, All-tail}
use Rattle.std.proofs.lemmas.Option.{none-some, same_Some}
use Rattle.wasm_index.specs.declared.index.Index.{Index}
use Rattle.wasm_index.specs.declared.spaces.FuncSpace.{FuncSpace}
use Rattle.wasm_types.specs.declared.table.Table.{Table}
use Rattle.wasm_module.specs.declared.table_initialization.TableInitialValue.{TableInitialValue}
use Rattle.replay_spec.specs.Elements.{DefinedTable}
use Rattle.replay_spec.specs.Tables.{initial_function, is_imaged_from_start, kept_initial, PlannedTable}
use Rattle.table_images.specs.Steps.{IsCell, TablesHoldFunctions, first_image, images_of}
use Rattle.table_images.specs.Views.{image_of, initial_of, defined_table_of, defined_tables_of, planned_tables_of}

pub defined-at : (ts : List Table) (vs : List TableInitialValue) (i : ℕ) (t : Table) (v : TableInitialValue) → slice_get ts i ≡ Some t → slice_get vs i ≡ Some v
    → slice_get (defined_tables_of ts vs) i ≡ Some (defined_table_of t v)
defined-at [] vs i t v at is = absurd (none-some t at)
defined-at (x ∷ ts) [] i t v at is = absurd (none-some v is)
defined-at (x ∷ ts) (y ∷ vs) zero t v at is = grind arith
defined-at (x ∷ ts) (y ∷ vs) (suc i) t v at is = defined-at ts vs i t v at is

-- the parts of a defined table
pub record MadeOf (ts : List Table) (vs : List TableInitialValue) (i : ℕ) (d : DefinedTable) : Type 0 where
  pub table : Table
  pub value : TableInitialValue
  pub is_table : slice_get ts i ≡ Some table
  pub is_value : slice_get vs i ≡ Some value
  pub made : d ≡ defined_table_of table value

pub made-of : (ts : List Table) (vs : List TableInitialValue) (i : ℕ) (d : DefinedTable) → slice_get (defined_tables_of ts vs) i ≡ Some d → MadeOf ts vs i d
made-of [] vs i d at = absurd (none-some d at)
made-of (t ∷ ts) [] i d at = absurd (none-some d at)
made-of (t ∷ ts) (v ∷ vs) zero d at = record { table = t; value = v; is_table = refl; is_value = refl; made = sym (same_Some (defined_table_of t v) d at) }
made-of (t ∷ ts) (v ∷ vs) (suc i) d at = let m = made-of ts vs i d at in record { table = m.table; value = m.value; is_table = m.is_table; is_value = m.is_value; made = m.made }

pub length-defined : (ts : List Table) (vs : List TableInitialValue) → length ts ≡ length vs → length (defined_tables_of ts vs) ≡ length vs
length-defined [] [] e = refl
length-defined [] (v ∷ vs) e = absurd (omega arith)
length-defined (t ∷ ts) [] e = refl
length-defined (t ∷ ts) (v ∷ vs) e = ap suc (length-defined ts vs (omega arith))

pub defined-more : (ts : List Table) (vs : List TableInitialValue) (i : ℕ) (t : Table) (v : TableInitialValue) → i < length ts → i < length vs
    → defined_tables_of (take (i + 1) ts) (take (i + 1) vs) ≡ defined_tables_of (take i ts) (take i vs) ++ defined_table_of (get_or ts i t) (get_or vs i v) ∷ []
defined-more [] vs i t v l m = absurd (omega arith)
defined-more (x ∷ ts) [] i t v l m = absurd (omega arith)
defined-more (x ∷ ts) (y ∷ vs) zero t v l m = refl
defined-more (x ∷ ts) (y ∷ vs) (suc i) t v l m = grind (arith, defined-more ts vs i t v)

-- ---- the plan

pub planned-minimums : (ts : List Table) (vs ws : List TableInitialValue) (images : List (List (Option ℕ))) → length ts ≡ length vs → length ws ≡ length vs → length images ≡ length vs
    → map (λ (p : PlannedTable). p.minimum) (planned_tables_of ts ws images) ≡ map (λ (d : DefinedTable). d.minimum) (defined_tables_of ts vs)
planned-minimums [] vs ws images a b c = refl
planned-minimums (t ∷ ts) [] ws images a b c = absurd (omega arith)
planned-minimums (t ∷ ts) (v ∷ vs) [] images a b c = absurd (omega arith)
planned-minimums (t ∷ ts) (v ∷ vs) (w ∷ ws) [] a b c = absurd (omega arith)
planned-minimums (t ∷ ts) (v ∷ vs) (w ∷ ws) (x ∷ xs) a b c = ap (λ ns. t.limits.min ∷ ns) (planned-minimums ts vs ws xs (omega arith) (omega arith) (omega arith))

pub planned-initials : (ts : List Table) (ws : List TableInitialValue) (images : List (List (Option ℕ))) → length ts ≡ length ws → length images ≡ length ws
    → map (λ (p : PlannedTable). p.initial) (planned_tables_of ts ws images) ≡ map initial_of ws
planned-initials [] [] images a c = refl
planned-initials [] (w ∷ ws) images a c = absurd (omega arith)
planned-initials (t ∷ ts) [] images a c = absurd (omega arith)
planned-initials (t ∷ ts) (w ∷ ws) [] a c = absurd (omega arith)
planned-initials (t ∷ ts) (w ∷ ws) (x ∷ xs) a c = ap (λ es. initial_of w ∷ es) (planned-initials ts ws xs (omega arith) (omega arith))

pub planned-image : (ts : List Table) (ws : List TableInitialValue) (images : List (List (Option ℕ))) (i : ℕ) (p : PlannedTable)
    → slice_get (planned_tables_of ts ws images) i ≡ Some p → slice_get images i ≡ Some p.image
planned-image [] ws images i p at = absurd (none-some p at)
planned-image (t ∷ ts) [] images i p at = absurd (none-some p at)
planned-image (t ∷ ts) (w ∷ ws) [] i p at = absurd (none-some p at)
planned-image (t ∷ ts) (w ∷ ws) (x ∷ xs) zero p at = ap Some (ap (λ (q : PlannedTable). q.image) (same_Some _ p at))
planned-image (t ∷ ts) (w ∷ ws) (x ∷ xs) (suc i) p at = planned-image ts ws xs i p at

-- where no image is wanted, initialisers stay
pub kept-unwanted : (ts : List Table) (vs : List TableInitialValue) → length ts ≡ length vs → map initial_of vs ≡ map (kept_initial false) (defined_tables_of ts vs)
kept-unwanted [] [] e = refl
kept-unwanted [] (v ∷ vs) e = absurd (omega arith)
kept-unwanted (t ∷ ts) [] e = absurd (omega arith)
kept-unwanted (t ∷ ts) (v ∷ vs) e = ap (λ es. initial_of v ∷ es) (kept-unwanted ts vs (omega arith))

-- ---- before any segment

pub holds-at : (ts : List Table) (vs : List TableInitialValue) (i : ℕ) (v : TableInitialValue) → length ts ≡ length vs → i < length vs → v ≡ get_or vs i v
    → TablesHoldFunctions (defined_tables_of ts vs) → IsCell (initial_function (initial_of v))
holds-at [] vs i v e l is h = absurd (omega arith)
holds-at (t ∷ ts) [] i v e l is h = absurd (omega arith)
holds-at (t ∷ ts) (w ∷ vs) zero v e l is h = subst (λ x. IsCell (initial_function (initial_of x))) (sym is) (All-head (λ (d : DefinedTable). IsCell (initial_function d.initial)) (defined_table_of t w) (defined_tables_of ts vs) h)
holds-at (t ∷ ts) (w ∷ vs) (suc i) v e l is h = holds-at ts vs i v (omega arith) (omega arith) is (All-tail (λ (d : DefinedTable). IsCell (initial_function d.initial)) (defined_table_of t w) (defined_tables_of ts vs) h)

pub first-count : (lazy : Bool) (ts : List Table) (vs : List TableInitialValue) (i : ℕ) (images : List (Vec (Index FuncSpace))) → length ts ≡ length vs → i < length vs
    → images_of images ≡ map (first_image lazy) (defined_tables_of (take i ts) (take i vs)) → length images ≡ i
first-count lazy ts vs i images e l is = grind (arith, length-map, length-defined, length-take-le)

pub first-length : (lazy : Bool) (ts : List Table) (vs : List TableInitialValue) (images : List (Vec (Index FuncSpace))) → length ts ≡ length vs
    → images_of images ≡ map (first_image lazy) (defined_tables_of ts vs) → length images ≡ length vs
first-length lazy ts vs images e is = grind (arith, length-map, length-defined)

pub first-imaged : (lazy : Bool) (d : DefinedTable) (xs : List (Option ℕ)) → lazy ≡ true → true ≡ is_imaged_from_start true d → xs ≡ replicate d.minimum (initial_function d.initial)
    → xs ≡ first_image lazy d
first-imaged lazy d xs e f g = grind (arith, cond-true)

pub first-step : (lazy : Bool) (ts : List Table) (vs : List TableInitialValue) (i : ℕ) (t : Table) (v : TableInitialValue) (images new : List (Vec (Index FuncSpace))) (image : Vec (Index FuncSpace))
    → i < length ts → i < length vs → v ≡ get_or vs i v → new ≡ images ++ image ∷ []
    → images_of images ≡ map (first_image lazy) (defined_tables_of (take i ts) (take i vs))
    → image_of image.items ≡ first_image lazy (defined_table_of (get_or ts i t) v)
    → images_of new ≡ map (first_image lazy) (defined_tables_of (take (i + 1) ts) (take (i + 1) vs))
first-step lazy ts vs i t v images new image l m is pushed before here = grind (arith, map-append, defined-more ts vs i t v l m)

-- ---- initialisers that are dropped

same-rest : (xs ys : List TableInitialValue) (i : ℕ) (d : TableInitialValue) → drop i xs ≡ drop i ys → get_or xs i d ≡ get_or ys i d
same-rest xs ys i d e = grind (arith, get_or-drop i xs 0 d, get_or-drop i ys 0 d)

pub rest-step : (vs ws : List TableInitialValue) (i : ℕ) (x : TableInitialValue) → drop i ws ≡ drop i vs → drop (i + 1) (set ws i x) ≡ drop (i + 1) vs
rest-step vs ws i x e = drop-set-lt (i + 1) ws i x (omega arith) ∙ drop_more_same ws vs i e

pub done-step : (ts : List Table) (vs ws : List TableInitialValue) (i : ℕ) (t : Table) (v x : TableInitialValue) → i < length ts → i < length vs → i < length ws
    → drop i ws ≡ drop i vs → map initial_of (take i ws) ≡ map (kept_initial true) (defined_tables_of (take i ts) (take i vs))
    → initial_of x ≡ kept_initial true (defined_table_of (get_or ts i t) (get_or ws i v))
    → map initial_of (take (i + 1) (set ws i x)) ≡ map (kept_initial true) (defined_tables_of (take (i + 1) ts) (take (i + 1) vs))
done-step ts vs ws i t v x l m n rest before here = grind (arith, take_more_set, map-append, same-rest ws vs i v rest, defined-more ts vs i t v l m)
