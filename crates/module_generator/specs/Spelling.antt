-- Numbers in their shortest spelling, vectors and sections.
use Rattle.std.specs.Prelude.{ℕ, zero, suc, ◌+◌, ◌/◌, ◌%◌, List, [], ◌∷◌, ◌++◌, length, nat_lt, if◌then◌else◌}
use Rattle.std.specs.List.{flat_map, range_with_len}

-- n, seven bits to a byte, the lowest first: a byte below top is the last, and at most a given
-- number of bytes come before it
unfoldable pub groups : ℕ → ℕ → ℕ → List ℕ
groups top zero n = n ∷ []
groups top (suc more) n = if nat_lt n top then n ∷ [] else (n % 128 + 128) ∷ groups top more (n / 128)

-- a number below 2 ^ 64 without a sign
unfoldable pub unsigned : ℕ → List ℕ
unfolding groups
unsigned n = groups 128 9 n

-- the same number in place of a signed one, so that bit 6 of its last byte is clear
unfoldable pub signed : ℕ → List ℕ
unfolding groups
signed n = groups 64 9 n

-- n elements, each by its index
unfoldable pub vector : ℕ → (ℕ → List ℕ) → List ℕ
vector n element = unsigned n ++ flat_map element (range_with_len 0 n)

unfoldable pub section : ℕ → List ℕ → List ℕ
section id contents = id ∷ unsigned (length contents) ++ contents
