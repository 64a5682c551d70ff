-- Names, by what the test of their bytes says.
use Rattle.std.proofs.Common.{◌≡◌, ℕ, List, Ok, Err, refl}
use Rattle.std.specs.Prelude.{IsUtf8}
use Rattle.std.specs.Str.{is_utf8}
use Rattle.std.proofs.lemmas.Bool.{false_from_ne_true}
use Rattle.std.proofs.lemmas.Str.{IsUtf8-from_is_utf8, is_utf8-from_IsUtf8}
use Rattle.form_reader.specs.Reading.{Bad}
use Rattle.form_reader.specs.ReadingNumbers.{counted_bytes_at, name_at}

pub name_taken : (bytes text rest : List ℕ) → counted_bytes_at bytes ≡ Ok (text, rest) → IsUtf8 text → name_at bytes ≡ Ok (text, rest)
unfolding name_at
name_taken bytes text rest e is = rw (e, is_utf8-from_IsUtf8 text is) refl

pub name_refused : (bytes text rest : List ℕ) → counted_bytes_at bytes ≡ Ok (text, rest) → (IsUtf8 text → ⊥) → name_at bytes ≡ Err Bad
unfolding name_at
name_refused bytes text rest e differs = rw (e, false_from_ne_true (is_utf8 text) (λ t. differs (IsUtf8-from_is_utf8 text t))) refl
