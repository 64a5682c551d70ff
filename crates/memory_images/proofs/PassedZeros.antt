-- Zeros that are skipped.
use Rattle.std.proofs.Common.{◌≡◌, ℕ, List, ◌++◌, take, drop, All, sym, ap, ◌∙◌, append_assoc}
use Rattle.std.proofs.lemmas.List.{take-append-drop}
use Rattle.std.proofs.lemmas.List.Elements.{All-append}
use Rattle.memory_images.specs.Zeros.{AndZeros, ZerosAnd}

pub zeros_before : {bytes rest : List ℕ} (n : ℕ) → ZerosAnd bytes rest → All (λ b. b ≡ 0) (take n rest)
    → ZerosAnd bytes (drop n rest)
zeros_before {bytes} {rest} n old word = record {
  zeros = old.zeros ++ take n rest;
  parts = old.parts ∙ ap (λ xs. old.zeros ++ xs) (sym (take-append-drop n rest)) ∙ sym (append_assoc old.zeros (take n rest) (drop n rest));
  are_zero = All-append (λ b. b ≡ 0) old.zeros (take n rest) old.are_zero word;
}

pub zeros_behind : {bytes front : List ℕ} (n : ℕ) → AndZeros bytes front → All (λ b. b ≡ 0) (drop n front)
    → AndZeros bytes (take n front)
zeros_behind {bytes} {front} n old word = record {
  zeros = drop n front ++ old.zeros;
  parts = old.parts ∙ ap (λ xs. xs ++ old.zeros) (sym (take-append-drop n front)) ∙ append_assoc (take n front) (drop n front) old.zeros;
  are_zero = All-append (λ b. b ≡ 0) (drop n front) old.zeros word old.are_zero;
}
