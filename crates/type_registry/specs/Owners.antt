-- The owner of each index, and which indices have no owner.
use Rattle.std.specs.Prelude.{ℕ, ◌+◌, List, [], ◌∷◌, set, slice_get, Option, Some, None, option_and_then}
use Rattle.type_registry.specs.declared.owners.Owner.{Owner}

abbrev pub owner_at : List (Option Owner) → ℕ → Option Owner
owner_at os n = option_and_then (λ (o : Option Owner). o) (slice_get os n)

abbrev pub free_count : Option Owner → ℕ
free_count None = 1
free_count (Some o) = 0

-- some indices have no owner any more
abbrev pub emptied : List (Option Owner) → List ℕ → List (Option Owner)
emptied os [] = os
emptied os (n ∷ ns) = emptied (set os n None) ns

-- the members of a group have its indices, from a position on
abbrev pub owned_by : ℕ → ℕ → List (Option Owner) → List ℕ → List (Option Owner)
owned_by first place os [] = os
owned_by first place os (n ∷ ns) = owned_by first (place + 1) (set os n (Some (record { first = first; place = place }))) ns
