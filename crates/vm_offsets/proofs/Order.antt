-- Entries are in order, and regions add up.
use Rattle.std.proofs.Common.{ℕ, ◌+◌, ◌*◌, ◌≤◌, List, [], ◌∷◌, arith}
use Rattle.std.specs.Prelude.{All, AllPairs}
use Rattle.std.specs.Int.{next_multiple_of}
use Rattle.std.proofs.lemmas.List.Elements.{All-cons}
use Rattle.std.proofs.lemmas.List.Kept.{AllPairs-cons}
use Rattle.vm_structs.specs.Fields.{end_of}
use Rattle.vm_structs.specs.Structs.{static_context}
use Rattle.vm_offsets.specs.declared.fields.VMOffsetsFields.{VMOffsetsFields}
use Rattle.vm_offsets.specs.Context.{ContextRow, align, entry, Placed, entry_end, placed_from, end_from, context_table, context_entries, context_size}
use Rattle.vm_offsets.specs.Regions.{static_part}
use Rattle.vm_offsets.proofs.Placing.{end_from-grows}

-- no entry begins before a byte or before the one before it, and none after the end
abbrev pub Rises : ℕ → List Placed → ℕ → Type 0
Rises at [] end = at ≤ end
Rises at (placed ∷ others) end = (at ≤ placed.begin) × Rises placed.begin others end

pub rises : (low at : ℕ) (rows : List ContextRow) → low ≤ at → Rises low (placed_from at rows) (end_from at rows)
rises low at [] h = h
rises low at (align to ∷ rows) h = rises low (next_multiple_of at to) rows (omega arith)
rises low at (entry description count size ∷ rows) h = (h, rises at (at + count * size) rows (omega arith))

-- with the static part, from 0 on
pub all_rise : {P : Type 0} (pointer : ℕ) (c : VMOffsetsFields P)
    → Rises 0 (static_part ∷ context_entries pointer c) (context_size pointer c)
unfolding context_entries context_size
all_rise pointer c = (omega arith, rises 0 (end_of static_context pointer) (context_table pointer c) (omega arith))

-- no entry begins before the table does
after : (at : ℕ) (rows : List ContextRow) → All (λ placed. at ≤ placed.begin) (placed_from at rows)
after at [] = λ k d h. absurd (omega arith)
after at (align to ∷ rows) = λ k d h. omega (arith, after (next_multiple_of at to) rows k d h)
after at (entry description count size ∷ rows) =
    All-cons (λ (placed : Placed). at ≤ placed.begin) _ _ (omega arith) (λ k d h. omega (arith, after (at + count * size) rows k d h))

-- no entry begins before an earlier one ends
apart : (at : ℕ) (rows : List ContextRow) → AllPairs (λ earlier later. entry_end earlier ≤ later.begin) (placed_from at rows)
apart at [] = λ i j d below room. absurd (omega arith)
apart at (align to ∷ rows) = apart (next_multiple_of at to) rows
apart at (entry description count size ∷ rows) =
    AllPairs-cons (λ (earlier later : Placed). entry_end earlier ≤ later.begin) _ _
    (after (at + count * size) rows) (apart (at + count * size) rows)

-- no entry ends after the table does
within : (at : ℕ) (rows : List ContextRow) → All (λ placed. entry_end placed ≤ end_from at rows) (placed_from at rows)
within at [] = λ k d h. absurd (omega arith)
within at (align to ∷ rows) = within (next_multiple_of at to) rows
within at (entry description count size ∷ rows) =
    All-cons (λ (placed : Placed). entry_end placed ≤ end_from (at + count * size) rows) _ _
    (end_from-grows (at + count * size) rows) (within (at + count * size) rows)

module _ {P : Type 0} (pointer : ℕ) (c : VMOffsetsFields P) where
  pub entries_after : All (λ placed. end_of static_context pointer ≤ placed.begin) (context_entries pointer c)
  unfolding context_entries
  entries_after = after (end_of static_context pointer) (context_table pointer c)

  pub entries_apart : AllPairs (λ earlier later. entry_end earlier ≤ later.begin) (context_entries pointer c)
  unfolding context_entries
  entries_apart = apart (end_of static_context pointer) (context_table pointer c)

  pub entries_within : All (λ placed. entry_end placed ≤ context_size pointer c) (context_entries pointer c)
  unfolding context_entries context_size
  entries_within = within (end_of static_context pointer) (context_table pointer c)
