-- Bytes that are moved into the front of a buffer.
use Rattle.std.proofs.Common.{◌≡◌, ◌≤◌, ℕ, List, ◌++◌, Result, Ok, Err, IfOk, length, take, drop, arith, sym, ◌∙◌, append_assoc, refl}
use Rattle.std.proofs.lemmas.List.{take-append-drop, take-append-le, length-take-le, take-take, drop-append-le}

-- the front of a list, put before other bytes, is what comes first there
pub take-front : (n : ℕ) (left rest : List ℕ) → n ≤ length left → take n (take n left ++ rest) ≡ take n left
take-front n left rest within =
    let n_in_front : n ≤ length (take n left) = omega (arith, length-take-le n left within) in
    take-append-le n (take n left) rest n_in_front ∙ take-take n n left (omega arith)

-- the front of a buffer and the bytes that remain are the bytes that remained before
pub front-and-rest : (n : ℕ) (left rest buffer new : List ℕ) → n ≤ length left → buffer ≡ take n left ++ rest → new ≡ drop n left
    → left ≡ take n buffer ++ new
front-and-rest n left rest buffer new within moved kept =
    rw (moved, kept, take-front n left rest within) (sym (take-append-drop n left))

-- the same for a read that returns how many bytes it moved
pub front-and-rest-on-ok : {E : Type 0} (r : Result ℕ E) (count : ℕ) (left buffer filled new : List ℕ) → count ≤ length left
    → IfOk r (λ n. n ≡ count) → IfOk r (λ n. filled ≡ take n left ++ drop n buffer) → IfOk r (λ n. new ≡ drop n left)
    → IfOk r (λ n. left ≡ take n filled ++ new)
front-and-rest-on-ok (Ok n) count left buffer filled new within is moved kept =
    front-and-rest n left (drop n buffer) filled new (omega arith) moved kept
front-and-rest-on-ok (Err e) count left buffer filled new within is moved kept = tt

-- where a part of a buffer was filled, the buffer was filled
pub fill-part : (n m : ℕ) (left buffer part : List ℕ) → n ≤ m → m ≤ length buffer → part ≡ take n left ++ drop n (take m buffer)
    → part ++ drop m buffer ≡ take n left ++ drop n buffer
fill-part n m left buffer part below within filled =
    let n_in_part : n ≤ length (take m buffer) = omega (arith, length-take-le m buffer within) in
    rw (filled, append_assoc, ← drop-append-le n (take m buffer) (drop m buffer) n_in_part, take-append-drop m buffer) refl
