-- Entries that are kept, one position after another.
use Rattle.std.proofs.Common.{◌≡◌, ℕ, ◌<◌, List, length, Some, sym, ap, ◌∙◌}
use Rattle.std.specs.Prelude.{slice_get}
use Rattle.std.specs.Option.{option_map}
use Rattle.std.proofs.lemmas.Option.{slice_get-map, slice_get-get_or}
use Rattle.std.proofs.Math.ListN.{get_or}
use Rattle.vm_offsets.specs.declared.table.ContextEntry.{ContextEntry}
use Rattle.vm_offsets.specs.Context.{Placed}
use Rattle.vm_offsets.specs.Entries.{KeepsEntries, kept_extent, placed_extent}

pub kept_at : (kept : List ContextEntry) (placed : List Placed) (i : ℕ) → KeepsEntries kept placed → i < length kept
    → option_map placed_extent (slice_get placed i) ≡ Some (kept_extent (get_or kept i (record { begin = 0; stride = 0; count = 0 })))
kept_at kept placed i same below =
    sym (slice_get-map placed_extent placed i)
    ∙ ap (λ (extents : List (ℕ × ℕ × ℕ)). slice_get extents i) (sym same)
    ∙ slice_get-map kept_extent kept i
    ∙ ap (option_map kept_extent) (slice_get-get_or kept i (record { begin = 0; stride = 0; count = 0 }) below)
