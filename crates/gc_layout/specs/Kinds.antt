-- The kinds of collected objects, as bit masks.
use Rattle.std.specs.Prelude.{ℕ, List, [], ◌∷◌}
use Rattle.std.specs.Int.{IsBitSet}
use Rattle.gc_layout.specs.declared.kind.VMGcKind.{VMGcKind}
use Rattle.gc_layout.specs.declared.kind.VMGcKind.TheVariants.{ExternRef, AnyRef, EqRef, ArrayRef, StructRef, ExnRef}

-- the number of a kind: it has its own bits, and those of the kinds above it
abbrev pub kind_number : VMGcKind → ℕ
kind_number ExternRef = 0x40000000
kind_number AnyRef = 0x80000000
kind_number EqRef = 0xA0000000
kind_number ArrayRef = 0xA8000000
kind_number StructRef = 0xB0000000
kind_number ExnRef = 0x04000000

-- the first number has every bit of the second
abbrev pub HasBitsOf : ℕ → ℕ → Type 0
HasBitsOf n m = (k : ℕ) → IsBitSet m k → IsBitSet n k

-- the number of the first kind has every bit of that of the second
abbrev pub MatchesKind : VMGcKind → VMGcKind → Type 0
MatchesKind kind other = HasBitsOf (kind_number kind) (kind_number other)

-- a kind, and the kinds above it in the tree of subtypes
abbrev pub kinds_from : VMGcKind → List VMGcKind
kinds_from ExternRef = ExternRef ∷ []
kinds_from AnyRef = AnyRef ∷ []
kinds_from EqRef = EqRef ∷ AnyRef ∷ []
kinds_from ArrayRef = ArrayRef ∷ EqRef ∷ AnyRef ∷ []
kinds_from StructRef = StructRef ∷ EqRef ∷ AnyRef ∷ []
kinds_from ExnRef = ExnRef ∷ []
