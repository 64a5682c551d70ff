-- The input of a layout, and its results.
use Rattle.std.specs.Prelude.{ℕ, List}
use Rattle.vm_structs.specs.declared.pointer.PtrSize.{Ghosts}
use Rattle.vm_offsets.specs.declared.fields.VMOffsetsFields.{VMOffsetsFields}
use Rattle.vm_offsets.specs.declared.offsets.VMOffsets.{VMOffsets}
use Rattle.vm_offsets.specs.declared.arrays.ArrayOffsets.{ArrayOffsets}
use Rattle.vm_offsets.specs.Arrays.{array_of}
use Rattle.vm_offsets.specs.Context.{Placed, context_entries, context_size}

module _ {P : Type 0} {bound : Ghosts P} (offsets : VMOffsets P bound) where
  -- the size of pointers and the counts
  abbrev pub fields_of : VMOffsetsFields P
  fields_of = offsets.fields

  -- the bytes of a pointer
  abbrev pub pointer_of : ℕ
  pointer_of = bound.pointer_size offsets.fields.ptr

  -- the entries of the context
  abbrev pub entries_of : List Placed
  entries_of = context_entries (bound.pointer_size offsets.fields.ptr) offsets.fields

  -- the size of the context
  abbrev pub size_of_context : ℕ
  size_of_context = context_size (bound.pointer_size offsets.fields.ptr) offsets.fields

-- the array of an entry
abbrev pub entry_array : {I : Type 0} → Placed → ArrayOffsets I
entry_array placed = array_of placed.begin placed.stride placed.count
