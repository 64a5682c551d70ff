-- Cells that are written to a table.
use Rattle.std.proofs.Common.{◌≡◌, ℕ, zero, suc, ◌+◌, ◌≤◌, List, ◌∷◌, ◌++◌, length, map, take, drop, Option, Some, sym, ◌∙◌, arith}
use Rattle.std.specs.Prelude.{slice_get, All}
use Rattle.std.specs.Global.{Vec}
use Rattle.std.specs.Vec.{with_items}
use borrow.Rule.Slice.PartMut.{post_of}
use Rattle.std.proofs.lemmas.List.{length-map, map-append, take-map, drop-map, drop-drop, with_items_is}
use Rattle.std.proofs.lemmas.List.Elements.{All-take, All-drop, All-append}
use Rattle.std.proofs.lemmas.Option.{same_Some, slice_get-map}
use Rattle.wasm_index.specs.declared.index.Index.{Index}
use Rattle.wasm_index.specs.declared.spaces.FuncSpace.{FuncSpace}
use Rattle.init_plan.specs.declared.translation.ModuleTranslation.{ModuleTranslation}
use Rattle.init_plan.specs.Tables.{own_tables, plan_of_tables}
use Rattle.table_images.specs.Steps.{images_of}
use Rattle.plan_run.proofs.Lists.{get-drop, all-at}
use Rattle.wasm_types.specs.declared.table.Table.{Table}
use Rattle.wasm_module.specs.declared.table_initialization.TableInitialValue.{TableInitialValue}
use Rattle.replay_spec.specs.Tables.{PlannedTable}
use Rattle.table_images.specs.Views.{cell_of, image_of, initial_of, planned_tables_of}
use Rattle.paged_memory.specs.Writing.{written}
use Rattle.plan_run.proofs.Writing.{length-written}

-- ---- lists

pub map-written : {A B : Type 0} (f : A → B) (at : ℕ) (items old : List A) → map f (written at items old) ≡ written at (map f items) (map f old)
map-written f at items old = grind (arith, map-append, take-map, drop-map, length-map)

pub all-written : {A : Type 0} (P : A → Type 0) (at : ℕ) (items old : List A) → All P items → All P old → All P (written at items old)
all-written P at items old new all =
    All-append P (take at old) (items ++ drop (at + length items) old) (All-take P at old all)
    (All-append P items (drop (at + length items) old) new (All-drop P (at + length items) old all))

-- what a table holds once a part of it is written
pub part-written : {A : Type 0} (v : Vec A) (xs part items : List A) (at n : ℕ) → xs ≡ v.items → part ≡ items → n ≡ length items → v.len ≡ length v.items
    → at + length items ≤ length v.items → (with_items v (take at xs ++ (part ++ post_of at n xs))).items ≡ written at items v.items
part-written v xs part items at n old new count len l = grind (arith, drop-drop, length-written, with_items_is)

-- ---- planned tables

pub planned-at : (ts : List Table) (vs : List TableInitialValue) (images : List (List (Option ℕ))) (i : ℕ) (t : Table) (v : TableInitialValue) (image : List (Option ℕ))
    → slice_get ts i ≡ Some t → slice_get vs i ≡ Some v → slice_get images i ≡ Some image
    → slice_get (planned_tables_of ts vs images) i ≡ Some (record { minimum = t.limits.min; initial = initial_of v; image = image })
planned-at (x ∷ ts) (y ∷ vs) (z ∷ images) zero t v image a b c = grind arith
planned-at (x ∷ ts) (y ∷ vs) (z ∷ images) (suc i) t v image a b c = planned-at ts vs images i t v image a b c
planned-at _ _ _ _ t v image a b c = grind arith

module _ (t : ModuleTranslation) (number : ℕ) (d : Table) (value : TableInitialValue) (image : Vec (Index FuncSpace))
    (table_at : slice_get t.module.tables (t.module.num_imported_tables + number) ≡ Some d) (value_at : slice_get t.table_initialization.initial_values number ≡ Some value)
    (image_at : slice_get t.module.table_initialization number ≡ Some image) where
  abbrev its : PlannedTable
  its = record { minimum = d.limits.min; initial = initial_of value; image = image_of image.items }

  is-planned : slice_get (plan_of_tables t).tables number ≡ Some its
  is-planned =
      planned-at (own_tables t) t.table_initialization.initial_values (images_of t.module.table_initialization) number d value (image_of image.items)
      (grind (arith, get-drop)) value_at (grind (arith, slice_get-map))

  -- what is planned of a table, by its type, initial value and image
  pub planned-is : (planned : PlannedTable) → slice_get (plan_of_tables t).tables number ≡ Some planned → planned ≡ its
  planned-is planned at = same_Some planned its (sym at ∙ is-planned)

  -- an image is not longer than its table
  pub image-short : All (λ table. length table.image ≤ table.minimum) (plan_of_tables t).tables → length image.items ≤ d.limits.min
  image-short short =
      let l : length (image_of image.items) ≤ d.limits.min = all-at (λ (x : PlannedTable). length x.image ≤ x.minimum) (plan_of_tables t).tables number its short is-planned in
      omega (arith, l, length-map image.items cell_of)
