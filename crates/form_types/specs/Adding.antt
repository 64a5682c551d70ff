-- A group is numbered.
use Rattle.std.specs.Prelude.{◌≡◌, ℕ, ◌^◌, ◌<◌, ◌++◌, ◌∷◌, [], map, length, Option, Some, None, cond}
use Rattle.std.specs.List.{range_with_len}
use Rattle.wasm_spec.specs.TypeData.{map_group}
use Rattle.form_reader.specs.Views.{group_of}
use Rattle.form_types.specs.declared.canonical.CanonicalGroup.{CanonicalGroup}
use Rattle.form_types.specs.declared.numbering.Numbering.{Numbering}
use Rattle.form_types.specs.contracts.canonical.CanonicalGroupPartialEq.TheImpl as group
use Rattle.form_types.specs.Types.{NamedGroup}
use Rattle.form_types.specs.EarlierTypes.{ids_of}
use Rattle.form_types.specs.Placed.{placed, named_index}
use Rattle.form_types.specs.Keys.{key_of}
use Rattle.form_types.specs.Distinct.{KeepsGroups}
use Rattle.form_types.specs.Finding.{FirstIds, first_of, next_key}

-- each first id is below 2 ^ 30
abbrev pub HasFewIds : FirstIds → Type 0
HasFewIds ids = (key : CanonicalGroup) (first : ℕ) → first_of ids key ≡ Some first → first < 2 ^ 30

-- an equal group was read
pub record AddsMet (old new : Numbering) (g : NamedGroup) (first : ℕ) : Type 0 where
  pub ids : ids_of new.declared.items ≡ ids_of old.declared.items ++ range_with_len first (length g)
  pub listed : KeepsGroups new.distinct (map group_of old.distinct.groups.items)
  pub met : (q : CanonicalGroup) → first_of new.first_ids q ≡ first_of old.first_ids q

-- the group is new, and its references to its own members become ids too
pub record AddsNew (old new : Numbering) (g : NamedGroup) (key : CanonicalGroup) : Type 0 where
  pub ids : ids_of new.declared.items ≡ ids_of old.declared.items ++ range_with_len old.distinct.next (length g)
  pub listed : KeepsGroups new.distinct (map group_of old.distinct.groups.items
      ++ map_group (named_index (ids_of new.declared.items)) (named_index (ids_of new.declared.items)) g ∷ [])
  pub met : (q : CanonicalGroup) → first_of new.first_ids q ≡ cond (group.ghosts.eq key q) (Some old.distinct.next) (first_of old.first_ids q)

abbrev pub AddsBy : Numbering → Numbering → NamedGroup → CanonicalGroup → Option ℕ → Type 0
AddsBy old new g key (Some first) = AddsMet old new g first
AddsBy old new g key None = AddsNew old new g key

pub record AddsGroup (old new : Numbering) (g : NamedGroup) : Type 0 where
  pub key : CanonicalGroup
  pub key_is : key_of key ≡ next_key (ids_of old.declared.items) (placed g)
  pub adds : AddsBy old new g key (first_of old.first_ids key)
