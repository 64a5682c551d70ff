-- Regions that remain for an iterator to return.
use Rattle.std.specs.Prelude.{ℕ, ◌≤◌, List, [], ◌∷◌, ⊤}
use Rattle.vm_offsets.specs.Context.{Placed}
use Rattle.vm_offsets.specs.declared.part.ContextPart.{ContextPart}

-- a part as an entry without elements
abbrev pub part_entry : ContextPart → Placed
part_entry part = record { description = part.description.now; begin = part.begin; stride = 0; count = 0 }

-- no part begins after the one before it, and the first does not begin after `end`
abbrev pub Falls : ℕ → List ContextPart → Type 0
Falls end [] = ⊤
Falls end (part ∷ parts) = (part.begin ≤ end) × Falls part.begin parts

-- the description and the first byte
abbrev pub part_label : ContextPart → List ℕ × ℕ
part_label part = (part.description.now, part.begin)

abbrev pub entry_label : Placed → List ℕ × ℕ
entry_label placed = (placed.description, placed.begin)
