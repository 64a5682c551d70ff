-- The module of a number.
use Rattle.std.specs.Prelude.{ℕ, ◌+◌, ◌*◌, ◌/◌, ◌%◌, ◌^◌, ◌==◌, List, [], ◌∷◌, ◌++◌, map, replicate, if◌then◌else◌}
use Rattle.std.specs.List.{range_with_len}
use Rattle.module_generator.specs.Spelling.{unsigned, signed, vector, section}

-- i64 where binary digit j of half of k is 1, and otherwise i32
unfoldable pub parameter : ℕ → ℕ → ℕ
parameter k j = if k / 2 / 2 ^ j % 2 == 1 then 0x7E else 0x7F

-- sixteen parameters and no results
unfoldable pub function_type : ℕ → List ℕ
function_type k = (0x60 ∷ 16 ∷ map (parameter k) (range_with_len 0 16)) ++ 0 ∷ []

-- a table of n functions
unfoldable pub table_contents : ℕ → List ℕ
table_contents n = 1 ∷ 0x70 ∷ 0 ∷ unsigned n

-- at offset 0 of the table, function 0 in each element
unfoldable pub element_contents : ℕ → List ℕ
element_contents n = 1 ∷ 0 ∷ 0x41 ∷ 0 ∷ 0x0B ∷ vector n (λ k. 0 ∷ [])

-- at offset 20 * k of the memory, twelve equal bytes, none of them zero
unfoldable pub segment : ℕ → List ℕ
segment k = (0 ∷ 0x41 ∷ signed (20 * k)) ++ (0x0B ∷ 12 ∷ replicate 12 (k % 255 + 1))

-- n types, one function of the first type, a table of n elements, a memory of 32 pages, and n
-- segments
unfoldable pub generated_module : ℕ → List ℕ
generated_module n =
    (0 ∷ 97 ∷ 115 ∷ 109 ∷ 1 ∷ 0 ∷ 0 ∷ 0 ∷ [])
    ++ section 1 (vector n function_type)
    ++ section 3 (1 ∷ 0 ∷ [])
    ++ section 4 (table_contents n)
    ++ section 5 (1 ∷ 0 ∷ 0x20 ∷ [])
    ++ section 9 (element_contents n)
    ++ section 10 (1 ∷ 2 ∷ 0 ∷ 0x0B ∷ [])
    ++ section 11 (vector n segment)
