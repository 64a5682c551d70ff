-- The distinct groups.
use Rattle.std.specs.Prelude.{◌≡◌, ◌≤◌, ℕ, ◌+◌, List, [], ◌∷◌, length, map}
use Rattle.form_reader.specs.Views.{group_of}
use Rattle.form_types.specs.Types.{NamedGroup, types_by_id, group_numbers}
use Rattle.form_types.specs.declared.distinct.Distinct.{Distinct}

-- the first id of each group and the id after its last member, where the first member of the first has an id
abbrev pub spans : ℕ → List NamedGroup → List (ℕ × ℕ)
spans first [] = []
spans first (g ∷ gs) = (first, first + length g) ∷ spans (first + length g) gs

-- these groups are kept, with the number of the group of each id, and the ids of each group
pub record KeepsGroups (d : Distinct) (groups : List NamedGroup) : Type 0 where
  pub groups_are : map group_of d.groups.items ≡ groups
  pub numbers_are : d.numbers.items ≡ group_numbers 0 groups
  pub spans_are : d.spans.items ≡ spans 0 groups
  pub next_is : d.next ≡ length (types_by_id groups)
  pub few : length groups ≤ d.next
