-- How the tables of a plan begin is determined by the module: the initial values that are left, the
-- segments that are left, and the images.
use Rattle.std.proofs.Common.{◌≡◌, ◌∙◌, ℕ, zero, suc, ◌+◌, ◌<◌, true, false, Bool, List, [], ◌∷◌, length, get_or, drop, map, Option, None, Some, refl, sym, ap, subst, arith, length-drop}
use Rattle.std.specs.Prelude.{slice_get, ◌==◌, unwrap_or}
use Rattle.std.proofs.lemmas.List.{length-map}
use Rattle.std.proofs.lemmas.Option.{slice_get-get_or, slice_get_within, none-some}
use Rattle.std.proofs.lemmas.Bool.{eqb-true}
use Rattle.wasm_index.specs.declared.index.Index.{Index}
use Rattle.wasm_index.specs.declared.spaces.FuncSpace.{FuncSpace}
use Rattle.wasm_index.specs.Index.{number_of, index_of}
use Rattle.wasm_types.specs.declared.table.Table.{Table}
use Rattle.wasm_types.specs.ViewsTell.{Back, all_back}
use Rattle.wasm_convert.specs.declared.operators.ConstOp.{ConstOp}
use Rattle.wasm_module.specs.declared.table_initialization.TableInitialValue.{TableInitialValue}
use Rattle.wasm_module.specs.declared.table_initialization.TableInitialValue.TheVariants as initial
use Rattle.replay_spec.specs.Elements.{ActiveElements, DefinedTable}
use Rattle.replay_spec.specs.Tables.{TablePlan, PlannedTable, IsTablePlan, IsTableImage}
use Rattle.replay_spec.proofs.One.{same-list}
use Rattle.replay_spec.proofs.Taken.{one-prefix}
use Rattle.table_images.specs.Views.{cell_of, image_of, initial_of, planned_tables_of}

-- ---- lists

pub cons-same : {A : Type 0} (x y : A) (xs ys : List A) → x ∷ xs ≡ y ∷ ys → (x ≡ y) × (xs ≡ ys)
cons-same x y xs ys e = (cc, cc)

-- what is left of a list is told by its length
pub same-drop : {A : Type 0} (xs : List A) (n k : ℕ) → length (drop n xs) ≡ length (drop k xs) → drop n xs ≡ drop k xs
same-drop [] zero zero e = refl
same-drop [] zero (suc k) e = refl
same-drop [] (suc n) zero e = refl
same-drop [] (suc n) (suc k) e = refl
same-drop (x ∷ xs) zero zero e = refl
same-drop (x ∷ xs) zero (suc k) e = absurd (omega (arith, e, length-drop k xs))
same-drop (x ∷ xs) (suc n) zero e = absurd (omega (arith, e, length-drop n xs))
same-drop (x ∷ xs) (suc n) (suc k) e = same-drop xs n k e

pub map-drop : {A B : Type 0} (view : A → B) (n : ℕ) (xs : List A) → map view (drop n xs) ≡ drop n (map view xs)
map-drop view zero xs = refl
map-drop view (suc n) [] = refl
map-drop view (suc n) (x ∷ xs) = map-drop view n xs

-- both are what is left of lists with one view, and are as long
pub same-left : {A B : Type 0} (view : A → B) (xs ys olds others : List A) (n k : ℕ) → xs ≡ drop n olds → ys ≡ drop k others → map view olds ≡ map view others
    → length xs ≡ length ys → map view xs ≡ map view ys
same-left view xs ys olds others n k x y same long =
    let first : map view xs ≡ drop n (map view olds) = ap (map view) x ∙ map-drop view n olds in
    let other : map view ys ≡ drop k (map view olds) = ap (map view) y ∙ map-drop view k others ∙ ap (drop k) (sym same) in
    first ∙ same-drop (map view olds) n k
    (ap length (sym first) ∙ length-map xs view ∙ long ∙ sym (length-map ys view) ∙ ap length other) ∙ sym other

-- ---- initial values

value-same : (x y : TableInitialValue) (at : TableInitialValue) → ((e : List ConstOp) → x ≡ initial.Expr e → at ≡ initial.Expr e)
    → ((e : List ConstOp) → y ≡ initial.Expr e → at ≡ initial.Expr e) → initial_of x ≡ initial_of y → x ≡ y
value-same initial.Null initial.Null at left right same = refl
value-same initial.Null (initial.Expr f) at left right same = absurd cc
value-same (initial.Expr e) initial.Null at left right same = absurd cc
value-same (initial.Expr e) (initial.Expr f) at left right same = sym (left e refl) ∙ right f refl

-- initialisers that are left stand where they stood, so that which are left tells what they are
pub values-same : (at : ℕ → TableInitialValue) (xs ys : List TableInitialValue)
    → ((i : ℕ) (e : List ConstOp) → get_or xs i initial.Null ≡ initial.Expr e → at i ≡ initial.Expr e)
    → ((i : ℕ) (e : List ConstOp) → get_or ys i initial.Null ≡ initial.Expr e → at i ≡ initial.Expr e) → map initial_of xs ≡ map initial_of ys → xs ≡ ys
values-same at [] [] left right same = refl
values-same at [] (y ∷ ys) left right same = absurd cc
values-same at (x ∷ xs) [] left right same = absurd cc
values-same at (x ∷ xs) (y ∷ ys) left right same =
    let parts = cons-same (initial_of x) (initial_of y) (map initial_of xs) (map initial_of ys) same in
    let head : x ≡ y = value-same x y (at 0) (left 0) (right 0) parts.0 in
    let tail : xs ≡ ys = values-same (λ i. at (suc i)) xs ys (λ i. left (suc i)) (λ i. right (suc i)) parts.1 in
    rw (head, tail) refl

-- ---- images

pub some-same : {A : Type 0} (x y : A) → Some x ≡ Some y → x ≡ y
some-same x y e = cc

module _ (lazy : Bool) (taken : List ActiveElements) (table : ℕ) (t : DefinedTable) where
  one-image : (x y : List (Option ℕ)) → IsTableImage lazy taken table t x → IsTableImage lazy taken table t y → x ≡ y
  one-image x y a b =
      let long : length x ≡ length y = a.reach ∙ sym b.reach in
      same-list None x y long (λ i l. some-same _ _
      (sym (slice_get-get_or x i None l) ∙ a.cells i l ∙ sym (b.cells i (omega arith)) ∙ slice_get-get_or y i None (omega arith)))

module _ (lazy : Bool) (imports : ℕ) (tables : List DefinedTable) (active : List ActiveElements) (s t : TablePlan) (a : IsTablePlan lazy imports tables active s)
    (b : IsTablePlan lazy imports tables active t) where
  taken-same : a.taken ≡ b.taken
  taken-same = one-prefix lazy imports tables active a.taken s.segments b.taken t.segments a.prefix b.prefix

  longs : length s.tables ≡ length tables
  longs = sym (length-map s.tables (λ x. x.minimum)) ∙ ap length a.minimums ∙ length-map tables (λ x. x.minimum)

  longt : length t.tables ≡ length tables
  longt = sym (length-map t.tables (λ x. x.minimum)) ∙ ap length b.minimums ∙ length-map tables (λ x. x.minimum)

  -- the tables that are planned have the same images
  pub images-at : (i : ℕ) (x y : PlannedTable) → slice_get s.tables i ≡ Some x → slice_get t.tables i ≡ Some y → x.image ≡ y.image
  images-at i x y here there = by (get_or_some tables i (omega (arith, longs, slice_get_within s.tables i x here))) where
    get_or_some : (ds : List DefinedTable) (i : ℕ) → i < length ds → (d : DefinedTable) × (slice_get ds i ≡ Some d)
    get_or_some [] i lt = absurd (omega arith)
    get_or_some (d ∷ ds) i lt = (_, slice_get-get_or (d ∷ ds) i d lt)

    by : (d : DefinedTable) × (slice_get tables i ≡ Some d) → x.image ≡ y.image
    by (d, at) = one-image lazy b.taken (imports + i) d x.image y.image
        (subst (λ (k : List ActiveElements). IsTableImage lazy k (imports + i) d x.image) taken-same (a.images i d x at here)) (b.images i d y at there)

-- ---- the images of a translation

-- a planned table stands where its parts stand
planned-at : (ts : List Table) (vs : List TableInitialValue) (images : List (List (Option ℕ))) (i : ℕ) (image : List (Option ℕ)) → length ts ≡ length vs
    → length images ≡ length vs → slice_get images i ≡ Some image → (p : PlannedTable) × (slice_get (planned_tables_of ts vs images) i ≡ Some p) × (p.image ≡ image)
planned-at [] [] [] i image a c at = absurd (none-some image at)
planned-at [] [] (x ∷ xs) i image a c at = absurd (omega arith)
planned-at [] (v ∷ vs) images i image a c at = absurd (omega arith)
planned-at (t ∷ ts) [] images i image a c at = absurd (omega arith)
planned-at (t ∷ ts) (v ∷ vs) [] i image a c at = absurd (none-some image at)
planned-at (t ∷ ts) (v ∷ vs) (x ∷ xs) zero image a c at = (_, refl, some-same x image at)
planned-at (t ∷ ts) (v ∷ vs) (x ∷ xs) (suc i) image a c at = planned-at ts vs xs i image (omega arith) (omega arith) at

-- cells are had back: the reserved index stands for null
abbrev cell_from : Option ℕ → Index FuncSpace
cell_from o = index_of (unwrap_or o 4294967295)

cell-from-is : (x : Index FuncSpace) (b : Bool) → (number_of x == 4294967295) ≡ b → cell_from (cell_of x) ≡ x
cell-from-is x true is = rw is (ap index_of (sym (eqb-true (number_of x) 4294967295 is)))
cell-from-is x false is = rw is refl

pub image-back : Back image_of
image-back = all_back (record { back = cell_from; is = λ x. cell-from-is x (number_of x == 4294967295) refl })

-- ---- both

module _ (ts : List Table) (vs ws : List TableInitialValue) (xs ys : List (List (Option ℕ))) (a : length ts ≡ length vs) (b : length ts ≡ length ws)
    (c : length xs ≡ length vs) (d : length ys ≡ length ws)
    (same : (i : ℕ) (x y : PlannedTable) → slice_get (planned_tables_of ts vs xs) i ≡ Some x → slice_get (planned_tables_of ts ws ys) i ≡ Some y → x.image ≡ y.image) where
  pub images-same : xs ≡ ys
  images-same = same-list [] xs ys (omega arith) (λ i l. (
      let x = planned-at ts vs xs i (get_or xs i []) a c (slice_get-get_or xs i [] l) in
      let y = planned-at ts ws ys i (get_or ys i []) b d (slice_get-get_or ys i [] (omega arith)) in
      sym x.2 ∙ same i x.0 y.0 x.1 y.1 ∙ y.2))
