-- How the fields of a struct are laid out. All numbers are bytes.
use Rattle.std.specs.Prelude.{◌≡◌, ◌⊎◌, ℕ, ◌+◌, List, [], ◌∷◌, max, Option, None, Some, if◌then◌else◌}
use Rattle.std.specs.Int.{next_multiple_of}
use Rattle.std.specs.Option.{option_map, option_and_then}
use Rattle.std.specs.Str.{bytes_eq}

-- a pointer has 4 or 8 bytes
abbrev pub IsPointerSize : ℕ → Type 0
IsPointerSize pointer = (pointer ≡ 4) ⊎ (pointer ≡ 8)

-- a field of a struct
pub record StructField : Type 0 where
  pub name : List ℕ
  pub size : ℕ
  pub align : ℕ

-- where the field with a name begins, if there is one: a field begins at the least multiple of its
-- alignment that is not before the end of the field before it, which is `at` here
abbrev pub offset_from : ℕ → List StructField → List ℕ → Option ℕ
offset_from at [] name = None
offset_from at (field ∷ fields) name =
    if bytes_eq field.name name
    then Some (next_multiple_of at field.align)
    else offset_from (next_multiple_of at field.align + field.size) fields name

-- where the last field ends
abbrev pub end_from : ℕ → List StructField → ℕ
end_from at [] = at
end_from at (field ∷ fields) = end_from (next_multiple_of at field.align + field.size) fields

-- the greatest alignment of a field
abbrev pub greatest_align : List StructField → ℕ
greatest_align [] = 1
greatest_align (field ∷ fields) = max field.align (greatest_align fields)

-- The same of a struct, which is a list of fields at each size of pointers.

-- where the field with a name begins, if there is one
abbrev pub offset_of : (ℕ → List StructField) → List ℕ → ℕ → Option ℕ
offset_of struct name pointer = offset_from 0 (struct pointer) name

-- the offset of a field of an inner struct, from the start of the outer struct that contains it
abbrev pub inner_offset_of : (ℕ → List StructField) → List ℕ → (ℕ → List StructField) → List ℕ → ℕ → Option ℕ
inner_offset_of outer outer_name inner name pointer =
    option_and_then (λ begin. option_map (λ offset. begin + offset) (offset_of inner name pointer)) (offset_of outer outer_name pointer)

-- where the last field ends
abbrev pub end_of : (ℕ → List StructField) → ℕ → ℕ
end_of struct pointer = end_from 0 (struct pointer)

-- the alignment is the greatest one of a field
abbrev pub align_of : (ℕ → List StructField) → ℕ → ℕ
align_of struct pointer = greatest_align (struct pointer)

-- the size is rounded up to the alignment
abbrev pub size_of : (ℕ → List StructField) → ℕ → ℕ
size_of struct pointer = next_multiple_of (end_of struct pointer) (align_of struct pointer)
