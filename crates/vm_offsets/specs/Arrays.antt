-- Arrays of a context, each with the type of its indices. All numbers but counts are bytes.
use Rattle.std.specs.Prelude.{ℕ}
use Rattle.vm_offsets.specs.declared.arrays.ArrayOffsets.{ArrayOffsets}

-- the array that begins at a byte, and has a number of elements that are a stride apart
abbrev pub array_of : {I : Type 0} → ℕ → ℕ → ℕ → ArrayOffsets I
array_of begin stride count = record { begin = begin; stride = stride; count = count; index = record {} }

abbrev pub begin_of : {I : Type 0} → ArrayOffsets I → ℕ
begin_of array = array.begin

abbrev pub stride_of : {I : Type 0} → ArrayOffsets I → ℕ
stride_of array = array.stride

abbrev pub count_of : {I : Type 0} → ArrayOffsets I → ℕ
count_of array = array.count
