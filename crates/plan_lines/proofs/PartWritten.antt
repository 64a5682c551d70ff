-- What a `Room` holds where only some bytes of a run count.
use Rattle.std.proofs.Common.{◌≡◌, ◌≤◌, ◌+◌, ℕ, List, ◌++◌, take, drop, length, ap, sym, ◌∙◌, arith}
use Rattle.std.proofs.lemmas.List.{take-append-drop, take-append-le, length-take-le}
use Rattle.std.proofs.Math.Seq.{take-append-add}

take_again : (xs : List ℕ) (n m : ℕ) → n ≤ m → m ≤ length xs → take n xs ≡ take n (take m xs)
take_again xs n m le within =
    ap (take n) (sym (take-append-drop m xs))
    ∙ take-append-le n (take m xs) (drop m xs) (omega (arith, length-take-le m xs within))

pub part_written : (old new run : List ℕ) (used end len : ℕ) → used ≤ length old → used + len ≤ end → end ≤ length new
    → take end new ≡ take used old ++ run → take (used + len) new ≡ take used old ++ take len run
part_written old new run used end len within short fits written =
    let at : length (take used old) + len ≡ used + len = omega (arith, length-take-le used old within) in
    take_again new (used + len) end short fits
    ∙ ap (take (used + len)) written
    ∙ ap (λ n. take n (take used old ++ run)) (sym at)
    ∙ take-append-add (take used old) run len
