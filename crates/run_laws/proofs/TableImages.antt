-- What a plan of tables says of its images and of its segments.
use Rattle.std.proofs.Common.{◌≡◌, ℕ, ◌+◌, ◌-◌, ◌≤◌, Bool, List, [], ◌∷◌, length, get_or, Some, sym, ◌∙◌, ap, subst, arith}
use Rattle.std.specs.Prelude.{slice_get, All, unwrap_or}
use Rattle.std.specs.Option.{option_map}
use Rattle.std.proofs.lemmas.Bool.{cases_Bool}
use Rattle.std.proofs.lemmas.List.{length-map}
use Rattle.std.proofs.lemmas.List.Elements.{All-head, All-tail}
use Rattle.std.proofs.lemmas.Option.{slice_get-map, slice_get-get_or, same_Some}
use Rattle.std.proofs.lemmas.Bool.Decides.{nat_tests}
use Rattle.replay_spec.specs.Elements.{ActiveElements, DefinedTable}
use Rattle.replay_spec.specs.Tables.{constant_place, elements_end, is_imaged_from_start, MayBeTaken, end_on, image_length, PlannedTable, TablePlan, IsTablePlan}
use Rattle.plan_run.proofs.Lists.{some-at}
use Rattle.form_types.proofs.AllOf.{All-joined}

module _ (lazy : Bool) (imports : ℕ) (tables : List DefinedTable) where
  -- what an image may hold ends within its table
  end-within : (s : ActiveElements) (m : ℕ) (t : DefinedTable) → MayBeTaken lazy imports tables s → s.table ≡ m → slice_get tables (m - imports) ≡ Some t
      → elements_end s ≤ t.minimum
  end-within s m t may on at =
      let there : slice_get tables (m - imports) ≡ Some may.table = ap (λ n. slice_get tables (n - imports)) (sym on) ∙ may.is_table in
      let same : may.table ≡ t = same_Some may.table t (sym there ∙ at) in
      let minimum : may.table.minimum ≡ t.minimum = ap (λ (x : DefinedTable). x.minimum) same in
      let place : unwrap_or (constant_place s.offset) 0 ≡ may.place = ap (λ o. unwrap_or o 0) may.constant in
      omega (arith, may.within, minimum, place)

  ends-within : (taken : List ActiveElements) → All (MayBeTaken lazy imports tables) taken → (m : ℕ) (t : DefinedTable)
      → slice_get tables (m - imports) ≡ Some t → end_on m taken ≤ t.minimum
  ends-within [] all m t at = omega arith
  ends-within (s ∷ ss) all m t at =
      let rest = ends-within ss (All-tail (MayBeTaken lazy imports tables) s ss all) m t at in
      let here : s.table ≡ m → elements_end s ≤ t.minimum = (λ e. end-within s m t (All-head (MayBeTaken lazy imports tables) s ss all) e at) in
      grind (arith, nat_tests)

  length-within : (taken : List ActiveElements) → All (MayBeTaken lazy imports tables) taken → (m : ℕ) (t : DefinedTable)
      → slice_get tables (m - imports) ≡ Some t → image_length lazy taken m t ≤ t.minimum
  length-within taken all m t at =
      let ends = ends-within taken all m t at in
      let lent = cases_Bool (is_imaged_from_start lazy t) in
      grind arith

  module _ (active : List ActiveElements) (plan : TablePlan) (is : IsTablePlan lazy imports tables active plan) where
    -- an image is no longer than the minimum of its table
    pub images-short : All (λ p. length p.image ≤ p.minimum) plan.tables
    images-short k d lt =
        let planned : PlannedTable = get_or plan.tables k d in
        let at : slice_get plan.tables k ≡ Some planned = slice_get-get_or plan.tables k d lt in
        let long = ap length is.minimums in
        let some = some-at tables k (omega (arith, lt, long, length-map plan.tables (λ (p : PlannedTable). p.minimum), length-map tables (λ (t : DefinedTable). t.minimum))) in
        let t : DefinedTable = some.0 in
        let minimum : planned.minimum ≡ t.minimum = same_Some planned.minimum t.minimum
        (sym (slice_get-map (λ (p : PlannedTable). p.minimum) plan.tables k ∙ ap (option_map (λ (p : PlannedTable). p.minimum)) at)
        ∙ ap (λ (ns : List ℕ). slice_get ns k) is.minimums
        ∙ slice_get-map (λ (x : DefinedTable). x.minimum) tables k ∙ ap (option_map (λ (x : DefinedTable). x.minimum)) some.1) in
        let reach = (is.images k t planned some.1 at).reach in
        let there : imports + k - imports ≡ k = omega arith in
        let within = length-within is.taken is.prefix.takes (imports + k) t (ap (slice_get tables) there ∙ some.1) in
        omega (arith, minimum, reach, within)

    -- what is kept is among the segments
    pub kept-are : (P : ActiveElements → Type 0) → All P active → All P plan.segments
    kept-are P all = ((All-joined P is.taken plan.segments).0 (subst (All P) is.prefix.parts all)).1
