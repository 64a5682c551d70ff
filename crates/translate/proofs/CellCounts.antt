-- No image of a table has more cells than the largest.
use Rattle.std.proofs.Common.{◌≡◌, ◌≤◌, ◌<◌, ◌+◌, ◌==◌, ◌&&◌, ℕ, Bool, true, false, List, [], ◌∷◌, length, map, max, All, Option, Some, None, is_some, slice_get, get_or, unwrap_or, if◌then◌else◌, nat_le, IsTrue, refl, sym, ap, subst, arith, ◌∙◌}
use Rattle.std.proofs.lemmas.Bool.Decides.{nat_tests}
use Rattle.std.proofs.lemmas.List.{length-map}
use Rattle.std.proofs.lemmas.Option.{slice_get-get_or}
use Rattle.replay_spec.specs.Elements.{ActiveElements, DefinedTable}
use Rattle.replay_spec.specs.Tables.{most_cells, constant_place, elements_end, image_cells, initial_function, is_imaged_from_start, MayBeTaken, end_on, image_length, PlannedTable, TablePlan, IsTablePlan}
use Rattle.replay_spec.proofs.Placed.{all-head, all-tail}

module _ (lazy : Bool) (imports : ℕ) (tables : List DefinedTable) where
  taken-small : (s : ActiveElements) → MayBeTaken lazy imports tables s → elements_end s ≤ most_cells
  taken-small s may = omega (arith, may.small, ap (λ (o : Option ℕ). unwrap_or o 0) may.constant)

  end-small : (table : ℕ) (taken : List ActiveElements) → All (MayBeTaken lazy imports tables) taken → end_on table taken ≤ most_cells
  end-small table [] all = omega arith
  end-small table (s ∷ ss) all =
      by (s.table == table) (taken-small s (all-head (MayBeTaken lazy imports tables) s ss all))
      (end-small table ss (all-tail (MayBeTaken lazy imports tables) s ss all)) where
        by : (here : Bool) → elements_end s ≤ most_cells → end_on table ss ≤ most_cells
            → (if here then max (elements_end s) (end_on table ss) else end_on table ss) ≤ most_cells
        by true one others = omega (arith, one, others)
        by false one others = others

  whole-small : (wanted some : Bool) (minimum reached : ℕ) → reached ≤ most_cells
      → (if (wanted && some && nat_le minimum most_cells) then minimum else reached) ≤ most_cells
  whole-small true true minimum reached small = grind (arith, nat_tests)
  whole-small true false minimum reached small = small
  whole-small false some minimum reached small = small

  image-small : (table : ℕ) (t : DefinedTable) (taken : List ActiveElements) → All (MayBeTaken lazy imports tables) taken
      → image_length lazy taken table t ≤ most_cells
  image-small table t taken all =
      whole-small lazy (is_some (initial_function t.initial)) t.minimum (end_on table taken) (end-small table taken all)

  pub cells-small : (active : List ActiveElements) (plan : TablePlan) → IsTablePlan lazy imports tables active plan
      → All (λ (table : PlannedTable). length table.image ≤ most_cells) plan.tables
  cells-small active plan is k d lt =
      let long : length plan.tables ≡ length tables =
      sym (length-map plan.tables (λ (t : PlannedTable). t.minimum)) ∙ ap length is.minimums ∙ length-map tables (λ (t : DefinedTable). t.minimum) in
      let at : slice_get plan.tables k ≡ Some (get_or plan.tables k d) = slice_get-get_or plan.tables k d lt in
      let none : DefinedTable = record { minimum = 0; functions = false; initial = None } in
      let t : DefinedTable = get_or tables k none in
      let there : slice_get tables k ≡ Some t = slice_get-get_or tables k none (omega (arith, lt, long)) in
      let image = is.images k t (get_or plan.tables k d) there at in
      let small = image-small (imports + k) t is.taken is.prefix.takes in
      omega (arith, image.reach, small)
