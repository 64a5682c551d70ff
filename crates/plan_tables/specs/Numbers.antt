-- Small numbers for values that are not numbers.
use Rattle.std.specs.Prelude.{ℕ, ◌-◌, ◌^◌, min, Bool, if◌then◌else◌}
use Rattle.wasm_types.specs.declared.limits.IndexType.{IndexType}
use Rattle.wasm_types.specs.declared.limits.IndexType.TheVariants.{I32, I64}

-- 1 for yes, 0 for no
abbrev pub bit : Bool → ℕ
bit b = if b then 1 else 0

-- whether numbers of 64 bits address something
abbrev pub wide_bit : IndexType → ℕ
wide_bit I32 = 0
wide_bit I64 = 1

-- the greatest number of 64 bits where a number is more
abbrev pub at_most_64_bits : ℕ → ℕ
at_most_64_bits n = min n (2 ^ 64 - 1)
