-- Bytes that are moved from one list into another.
use Rattle.std.proofs.Common.{◌≡◌, ℕ, ◌+◌, ◌<◌, List, ◌∷◌, [], ◌++◌, length, map, take, drop, get_or, append_assoc, arith, ap, ◌∙◌}
use Rattle.std.proofs.Math.ListN.{set}
use Rattle.std.proofs.Math.Numerals.{add-one}
use Rattle.std.proofs.Math.Seq.{drop-cons}
use Rattle.std.proofs.lemmas.List.{take_more_set, drop-set-lt, map-append}
use Rattle.init_plan.specs.declared.translation.RuntimeBytes.{RuntimeBytes}
use Rattle.plan_tables.specs.declared.record.RuntimeRow.{RuntimeRow}
use Rattle.plan_tables.specs.Memories.{runtime_told, runtime_row}

-- the rows so far and what remains, after one more
pub taken_step : (rows : List RuntimeRow) (x : RuntimeRow) (planned : List RuntimeBytes) (y d : RuntimeBytes) (i : ℕ) (whole : List (ℕ × List ℕ))
    → i < length rows → i < length planned → runtime_told x ≡ runtime_row (get_or planned i d)
    → map runtime_told (take i rows) ++ map runtime_row (drop i planned) ≡ whole
    → map runtime_told (take (i + 1) (set rows i x)) ++ map runtime_row (drop (i + 1) (set planned i y)) ≡ whole
taken_step rows x planned y d i whole in_rows in_planned same before =
    let more : take (i + 1) (set rows i x) ≡ take i rows ++ x ∷ [] = take_more_set rows i x in_rows in
    let left : drop (i + 1) (set planned i y) ≡ drop (i + 1) planned = drop-set-lt (i + 1) planned i y (omega arith) in
    let next : drop i planned ≡ get_or planned i d ∷ drop (i + 1) planned = rw add-one (drop-cons planned i d in_planned) in
    let opened : map runtime_told (take i rows) ++ (runtime_row (get_or planned i d) ∷ map runtime_row (drop (i + 1) planned)) ≡ whole = rw next at before in
    let joined : map runtime_told (take i rows) ++ (runtime_told x ∷ map runtime_row (drop (i + 1) planned)) ≡ whole
    = ap (λ t. map runtime_told (take i rows) ++ (t ∷ map runtime_row (drop (i + 1) planned))) same ∙ opened in
    rw (more, left) (simp (map-append, append_assoc) joined)
