-- The worked examples of table images.
use Rattle.std.proofs.lemmas.Grind.{common_steps}
use Rattle.std.proofs.Common.{◌≡◌, ℕ, zero, suc, ◌+◌, true, List, [], ◌∷◌, All, None, Some, refl, arith}
use Rattle.std.specs.Prelude.{slice_get}
use Rattle.std.proofs.lemmas.Bool.{false≢true}
use Rattle.std.proofs.lemmas.Option.{none-some, same_Some}
use Rattle.replay_spec.specs.Elements.{ActiveElements, DefinedTable}
use Rattle.replay_spec.specs.Tables.{AreCells, MayBeTaken, TakesPrefix, IsTableImage, IsTablePlan, PlannedTable}
use Rattle.replay_spec.specs.WorkedTables.{four_cells, three_cells, from_a_global, imaged}

three : AreCells three_cells.items
three = grind (arith, common_steps)

taken : All (MayBeTaken true 0 (four_cells ∷ [])) (three_cells ∷ [])
taken zero d l = record {
  lazy_tables = refl;
  table = four_cells;
  defined = omega arith;
  is_table = refl;
  functions = refl;
  keeps_none = refl;
  place = 1;
  constant = refl;
  items = three;
  within = omega arith;
  small = omega arith;
}
taken (suc k) d l = absurd (omega arith)

no-more : (s : ActiveElements) (rest : List ActiveElements) → [] ≡ s ∷ rest → MayBeTaken true 0 (four_cells ∷ []) s → ⊥
no-more s rest e h = cc

images : (i : ℕ) (t : DefinedTable) (planned : PlannedTable) → slice_get (four_cells ∷ []) i ≡ Some t
    → slice_get (imaged (None ∷ Some 0 ∷ None ∷ Some 0 ∷ [])).tables i ≡ Some planned → IsTableImage true (three_cells ∷ []) (0 + i) t planned.image
images i t planned h1 h2 = grind (arith, same_Some, none-some)

pub imaged-plan : IsTablePlan true 0 (four_cells ∷ []) (three_cells ∷ []) (imaged (None ∷ Some 0 ∷ None ∷ Some 0 ∷ []))
imaged-plan = record {
  taken = three_cells ∷ [];
  prefix = record { parts = refl; takes = taken; longest = no-more };
  minimums = refl;
  initials = refl;
  images = images;
}

stops : (s : ActiveElements) (rest : List ActiveElements) → from_a_global ∷ three_cells ∷ [] ≡ s ∷ rest → MayBeTaken true 0 (four_cells ∷ []) s → ⊥
stops s rest e h = grind (arith, false≢true)

pub longest-prefix : TakesPrefix true 0 (four_cells ∷ []) (three_cells ∷ from_a_global ∷ three_cells ∷ []) (three_cells ∷ []) (from_a_global ∷ three_cells ∷ [])
longest-prefix = record { parts = refl; takes = taken; longest = stops }
