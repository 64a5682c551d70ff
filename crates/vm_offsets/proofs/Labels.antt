-- Regions by their labels: the descriptions and the first bytes of their entries.
use Rattle.std.proofs.Common.{◌≡◌, ℕ, ◌+◌, ◌-◌, ◌≤◌, List, [], ◌∷◌, ◌++◌, map, reverse, Some, arith, refl, ap, sym, ◌∙◌}
use Rattle.std.specs.Prelude.{⊤, sum_by}
use Rattle.std.proofs.lemmas.List.{map-append, reverse-append}
use Rattle.std.proofs.lemmas.List.Sums.{sum_by-cons}
use Rattle.vm_offsets.specs.declared.fields.VMOffsetsFields.{VMOffsetsFields}
use Rattle.vm_offsets.specs.declared.part.ContextPart.{ContextPart}
use Rattle.vm_offsets.specs.Context.{Placed, context_entries, context_size}
use Rattle.vm_offsets.specs.Regions.{regions_back, static_part, context_regions}
use Rattle.vm_offsets.specs.Falls.{Falls, part_entry, part_label, entry_label}
use Rattle.vm_offsets.proofs.Order.{Rises, all_rise}

-- the regions of labels, from the end back
abbrev pub labelled : ℕ → List (List ℕ × ℕ) → List (List ℕ × ℕ)
labelled end [] = []
labelled end (l ∷ ls) = (l.0, end - l.1) ∷ labelled l.1 ls

pub regions_back-labelled : (end : ℕ) (xs : List Placed) → regions_back end xs ≡ labelled end (map entry_label xs)
regions_back-labelled end [] = refl
regions_back-labelled end (x ∷ xs) = ap (λ regions. (x.description, end - x.begin) ∷ regions) (regions_back-labelled x.begin xs)

-- the labels descend from the end
abbrev pub LabelsFall : ℕ → List (List ℕ × ℕ) → Type 0
LabelsFall end [] = ⊤
LabelsFall end (l ∷ ls) = (l.1 ≤ end) × LabelsFall l.1 ls

-- the first byte of the last label
abbrev pub lowest : ℕ → List (List ℕ × ℕ) → ℕ
lowest end [] = end
lowest end (l ∷ ls) = lowest l.1 ls

LabelsFall-append : (end : ℕ) (ls : List (List ℕ × ℕ)) (l : List ℕ × ℕ) → LabelsFall end ls → l.1 ≤ lowest end ls
    → LabelsFall end (ls ++ l ∷ [])
LabelsFall-append end [] l falls below = (below, tt)
LabelsFall-append end (m ∷ ls) l falls below = (falls.0, LabelsFall-append m.1 ls l falls.1 below)

pub lowest-append : (end : ℕ) (ls : List (List ℕ × ℕ)) (l : List ℕ × ℕ) → lowest end (ls ++ l ∷ []) ≡ l.1
lowest-append end [] l = refl
lowest-append end (m ∷ ls) l = lowest-append m.1 ls l

-- the first entry is the last one of the reverse
reverse-label : (x : Placed) (xs : List Placed)
    → map entry_label (reverse (x ∷ xs)) ≡ map entry_label (reverse xs) ++ entry_label x ∷ []
reverse-label x xs = ap (map entry_label) (reverse-append (x ∷ []) xs) ∙ map-append entry_label (reverse xs) (x ∷ [])

-- entries that ascend to the end descend from it in reverse order
pub reversed : (at : ℕ) (xs : List Placed) (end : ℕ) → Rises at xs end
    → LabelsFall end (map entry_label (reverse xs)) × (at ≤ lowest end (map entry_label (reverse xs)))
reversed at [] end rises = (tt, rises)
reversed at (x ∷ xs) end rises =
    let others = reversed x.begin xs end rises.1 in
    rw (reverse-label x xs) (
      LabelsFall-append end (map entry_label (reverse xs)) (entry_label x) others.0 others.1,
      rw lowest-append rises.0,
    )

-- the regions of descending labels add up to the end, less the first byte of the last label
pub sum_by-labelled : (end : ℕ) (ls : List (List ℕ × ℕ)) → LabelsFall end ls
    → sum_by (λ (r : List ℕ × ℕ). r.1) (labelled end ls) + lowest end ls ≡ end
sum_by-labelled end [] falls = omega arith
sum_by-labelled end (l ∷ ls) falls =
    let others = sum_by-labelled l.1 ls falls.1 in
    let first = sum_by-cons (λ (r : List ℕ × ℕ). r.1) (l.0, end - l.1) (labelled l.1 ls) in
    omega (arith, falls.0, others, first)

-- one more label
pub next_label : {d e : List ℕ} {b a : ℕ} {ls ms : List (List ℕ × ℕ)} → d ≡ e → Some a ≡ Some b → ls ≡ ms → (d, b) ∷ ls ≡ (e, a) ∷ ms
next_label same begins others = cc

-- parts by their labels
regions_back-parts : (end : ℕ) (parts : List ContextPart) → regions_back end (map part_entry parts) ≡ labelled end (map part_label parts)
regions_back-parts end [] = refl
regions_back-parts end (part ∷ parts) =
    ap (λ regions. (part.description.now, end - part.begin) ∷ regions) (regions_back-parts part.begin parts)

Falls-labels : (end : ℕ) (parts : List ContextPart) → LabelsFall end (map part_label parts) → Falls end parts
Falls-labels end [] falls = tt
Falls-labels end (part ∷ parts) falls = (falls.0, Falls-labels part.begin parts falls.1)

module _ {P : Type 0} (pointer : ℕ) (c : VMOffsetsFields P) where
  falls : LabelsFall (context_size pointer c) (map entry_label (reverse (static_part ∷ context_entries pointer c)))
  falls = (reversed 0 (static_part ∷ context_entries pointer c) (context_size pointer c) (all_rise pointer c)).0

  -- parts with a context's labels give its regions
  pub regions_back-context : (size : ℕ) (parts : List ContextPart)
      → map part_label parts ≡ map entry_label (reverse (static_part ∷ context_entries pointer c)) → size ≡ context_size pointer c
      → regions_back size (map part_entry parts) ≡ context_regions pointer c
  regions_back-context size parts same sized =
      regions_back-parts size parts ∙ ap (labelled size) same
      ∙ ap (λ end. labelled end (map entry_label (reverse (static_part ∷ context_entries pointer c)))) sized
      ∙ sym (regions_back-labelled (context_size pointer c) (reverse (static_part ∷ context_entries pointer c)))

  -- and descend from its end
  pub Falls-context : (size : ℕ) (parts : List ContextPart)
      → map part_label parts ≡ map entry_label (reverse (static_part ∷ context_entries pointer c)) → size ≡ context_size pointer c
      → Falls size parts
  Falls-context size parts same sized = Falls-labels size parts (rw (same, sized) falls)

  -- the regions of a context add up to its size
  pub sum_by-context_regions : sum_by (λ (r : List ℕ × ℕ). r.1) (context_regions pointer c) ≡ context_size pointer c
  sum_by-context_regions =
      let total = sum_by-labelled (context_size pointer c) (map entry_label (reverse (static_part ∷ context_entries pointer c))) falls in
      let named = ap (sum_by (λ (r : List ℕ × ℕ). r.1)) (regions_back-labelled (context_size pointer c) (reverse (static_part ∷ context_entries pointer c))) in
      let zero : lowest (context_size pointer c) (map entry_label (reverse (static_part ∷ context_entries pointer c))) ≡ 0 =
      ap (lowest (context_size pointer c)) (reverse-label static_part (context_entries pointer c))
      ∙ lowest-append (context_size pointer c) (map entry_label (reverse (context_entries pointer c))) (entry_label static_part) in
      omega (arith, total, named, zero)
