-- A hasher that is fed bytes in parts.
use Rattle.std.proofs.Common.{◌≡◌, ℕ, List, [], ◌++◌, refl}
use Rattle.std.specs.Hash.DefaultHasher.{write, write_byte}
use Rattle.std.specs.declared.hash.DefaultHasher.{DefaultHasher}
use Rattle.std.proofs.lemmas.List.Sums.{fold-append}
use Rattle.std.proofs.lemmas.Slice.{take-put_mid}

pub write-nil : (s : DefaultHasher) → write s [] ≡ s
unfolding write
write-nil s = refl

pub write-append : (s : DefaultHasher) (xs ys : List ℕ) → write s (xs ++ ys) ≡ write (write s xs) ys
unfolding write
write-append s xs ys = fold-append write_byte s xs ys

pub ruleset written = (write-nil, write-append, take-put_mid)
