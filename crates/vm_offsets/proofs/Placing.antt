-- Rows are placed one by one, and never before the start of the table.
use Rattle.std.proofs.Common.{◌≡◌, ℕ, ◌+◌, ◌*◌, ◌<◌, ◌≤◌, List, [], ◌∷◌, ◌++◌, length, map, take, drop, get_or, slice_set, None, Some, refl, sym, ap, ◌∙◌, append_assoc, append-nil, add-one, drop-cons, arith}
use Rattle.std.proofs.lemmas.List.{map-append, take_more_set, take_all, drop_all}
use Rattle.std.specs.Int.{next_multiple_of}
use Rattle.vm_structs.specs.Fields.{end_of}
use Rattle.vm_structs.specs.Structs.{static_context}
use Rattle.vm_offsets.specs.declared.fields.VMOffsetsFields.{VMOffsetsFields}
use Rattle.vm_offsets.specs.declared.table.ContextEntry.{ContextEntry}
use Rattle.vm_offsets.specs.declared.row.SizedRow.{SizedRow}
use Rattle.vm_offsets.specs.Context.{ContextRow, align, entry, placed_from, end_from, context_table, context_entries, context_size}
use Rattle.vm_offsets.specs.Entries.{rows_of, after_step, kept_extent, placed_extent, without_texts}
use Rattle.vm_offsets.specs.Steps.{begin_at}

-- a table does not end before its start
pub end_from-grows : (at : ℕ) (rows : List ContextRow) → at ≤ end_from at rows
end_from-grows at [] = omega arith
end_from-grows at (align to ∷ rows) = omega (arith, end_from-grows (next_multiple_of at to) rows)
end_from-grows at (entry description count size ∷ rows) = omega (arith, end_from-grows (at + count * size) rows)

-- descriptions do not move anything
pub end_from-without_texts : (at : ℕ) (rows : List ContextRow) → end_from at (without_texts rows) ≡ end_from at rows
end_from-without_texts at [] = refl
end_from-without_texts at (align to ∷ rows) = end_from-without_texts (next_multiple_of at to) rows
end_from-without_texts at (entry description count size ∷ rows) = end_from-without_texts (at + count * size) rows

pub placed_from-without_texts : (at : ℕ) (rows : List ContextRow)
    → map placed_extent (placed_from at (without_texts rows)) ≡ map placed_extent (placed_from at rows)
placed_from-without_texts at [] = refl
placed_from-without_texts at (align to ∷ rows) = placed_from-without_texts (next_multiple_of at to) rows
placed_from-without_texts at (entry description count size ∷ rows) =
    rw (placed_from-without_texts (at + count * size) rows) refl

-- the first row that is kept, and the others after it
pub end_from-rows_of : (at : ℕ) (row : SizedRow) (rows : List SizedRow)
    → end_from at (rows_of (row ∷ rows)) ≡ end_from (begin_at at row.align + row.count * row.size) (rows_of rows)
end_from-rows_of at row rows =
    elim row.align
    as (λ step. end_from at (after_step step (entry [] row.count row.size ∷ rows_of rows))
    ≡ end_from (begin_at at step + row.count * row.size) (rows_of rows))
    [ None ↦ refl | Some to ↦ refl ]

pub placed_from-rows_of : (at : ℕ) (row : SizedRow) (rows : List SizedRow)
    → map placed_extent (placed_from at (rows_of (row ∷ rows)))
    ≡ (begin_at at row.align, row.size, row.count)
    ∷ map placed_extent (placed_from (begin_at at row.align + row.count * row.size) (rows_of rows))
placed_from-rows_of at row rows =
    elim row.align
    as (λ step. map placed_extent (placed_from at (after_step step (entry [] row.count row.size ∷ rows_of rows)))
    ≡ (begin_at at step, row.size, row.count)
    ∷ map placed_extent (placed_from (begin_at at step + row.count * row.size) (rows_of rows)))
    [ None ↦ refl | Some to ↦ refl ]

-- a row, and the others after it
front : (rows : List SizedRow) (i : ℕ) (d : SizedRow) → i < length rows
    → drop i rows ≡ get_or rows i d ∷ drop (i + 1) rows
front rows i d below = rw (add-one, drop-cons rows i d below) refl

-- one step of the loop: the table still ends where it did
pub end_from-step : (at total : ℕ) (rows : List SizedRow) (i : ℕ) (d : SizedRow) (begin count size : ℕ) → i < length rows
    → begin ≡ begin_at at (get_or rows i d).align → count ≡ (get_or rows i d).count → size ≡ (get_or rows i d).size
    → end_from at (rows_of (drop i rows)) ≡ total
    → end_from (begin + count * size) (rows_of (drop (i + 1) rows)) ≡ total
end_from-step at total rows i d begin count size below begins counts sizes before =
    rw (begins, counts, sizes)
    (sym (end_from-rows_of at (get_or rows i d) (drop (i + 1) rows))
    ∙ ap (λ left. end_from at (rows_of left)) (sym (front rows i d below)) ∙ before)

-- and the row's entry is the next one
pub placed_from-step : (at : ℕ) (entries : List ContextEntry) (total : List (ℕ × ℕ × ℕ)) (rows : List SizedRow) (i : ℕ) (d : SizedRow)
    → (begin count size stride : ℕ) → i < length rows → i < length entries
    → begin ≡ begin_at at (get_or rows i d).align → count ≡ (get_or rows i d).count → size ≡ (get_or rows i d).size
    → stride ≡ (get_or rows i d).size
    → map kept_extent (take i entries) ++ map placed_extent (placed_from at (rows_of (drop i rows))) ≡ total
    → map kept_extent (take (i + 1) (slice_set entries i (record { begin = begin; stride = stride; count = (get_or rows i d).count })))
    ++ map placed_extent (placed_from (begin + count * size) (rows_of (drop (i + 1) rows)))
    ≡ total
placed_from-step at entries total rows i d begin count size stride below room begins counts sizes strides before =
    let row : SizedRow = get_or rows i d in
    let kept : ContextEntry = record { begin = begin_at at row.align; stride = row.size; count = row.count } in
    let later : List (ℕ × ℕ × ℕ) = map placed_extent (placed_from (begin_at at row.align + row.count * row.size) (rows_of (drop (i + 1) rows))) in
    let opened : map placed_extent (placed_from at (rows_of (drop i rows))) ≡ kept_extent kept ∷ later =
    ap (λ left. map placed_extent (placed_from at (rows_of left))) (front rows i d below)
    ∙ placed_from-rows_of at row (drop (i + 1) rows) in
    rw (begins, counts, sizes, strides)
    (ap (λ front. map kept_extent front ++ later) (take_more_set entries i kept room)
    ∙ ap (λ front. front ++ later) (map-append kept_extent (take i entries) (kept ∷ []))
    ∙ append_assoc (map kept_extent (take i entries)) (kept_extent kept ∷ []) later
    ∙ ap (λ back. map kept_extent (take i entries) ++ back) (sym opened)
    ∙ before)

-- at the end all entries are placed
pub all_placed : (at : ℕ) (entries : List ContextEntry) (total : List (ℕ × ℕ × ℕ)) (rows : List SizedRow) (i : ℕ)
    → length rows ≤ i → length entries ≤ i
    → map kept_extent (take i entries) ++ map placed_extent (placed_from at (rows_of (drop i rows))) ≡ total
    → map kept_extent entries ≡ total
all_placed at entries total rows i past all before =
    sym (append-nil (map kept_extent entries))
    ∙ ap (λ front. map kept_extent front ++ []) (sym (take_all i entries all))
    ∙ ap (λ left. map kept_extent (take i entries) ++ map placed_extent (placed_from at (rows_of left))) (sym (drop_all i rows past))
    ∙ before

-- the rows of the table, placed after the static part, are a context
pub laid-entries : {P : Type 0} (pointer : ℕ) (c : VMOffsetsFields P) (rows : List SizedRow)
    → rows_of rows ≡ without_texts (context_table pointer c)
    → map placed_extent (placed_from (end_of static_context pointer) (rows_of rows)) ≡ map placed_extent (context_entries pointer c)
unfolding context_entries
laid-entries pointer c rows same =
    ap (λ rows. map placed_extent (placed_from (end_of static_context pointer) rows)) same
    ∙ placed_from-without_texts (end_of static_context pointer) (context_table pointer c)

pub laid-size : {P : Type 0} (pointer : ℕ) (c : VMOffsetsFields P) (rows : List SizedRow)
    → rows_of rows ≡ without_texts (context_table pointer c)
    → end_from (end_of static_context pointer) (rows_of rows) ≡ context_size pointer c
unfolding context_size
laid-size pointer c rows same =
    ap (end_from (end_of static_context pointer)) same
    ∙ end_from-without_texts (end_of static_context pointer) (context_table pointer c)
