-- The regions of a context, which describe each of its bytes.
use Rattle.std.specs.Prelude.{ℕ, ◌-◌, List, [], ◌∷◌, reverse, codes}
use Rattle.vm_offsets.specs.declared.fields.VMOffsetsFields.{VMOffsetsFields}
use Rattle.vm_offsets.specs.Context.{Placed, context_entries, context_size}

-- the description and the size of each entry's region, from the last one back: a region reaches
-- from the start of its entry to the start of the next one, which is `end` here
abbrev pub regions_back : ℕ → List Placed → List (List ℕ × ℕ)
regions_back end [] = []
regions_back end (placed ∷ before) = (placed.description, end - placed.begin) ∷ regions_back placed.begin before

-- the part that every module has
abbrev pub static_part : Placed
static_part = record { description = codes "static vmctx data"; begin = 0; stride = 0; count = 0 }

-- the regions of a context, the last one first
abbrev pub context_regions : {P : Type 0} → ℕ → VMOffsetsFields P → List (List ℕ × ℕ)
context_regions pointer c =
    regions_back (context_size pointer c) (reverse (static_part ∷ context_entries pointer c))
