-- Parts of one size, and a write to one of them.
use Rattle.std.proofs.Common.{◌≡◌, ℕ, zero, suc, ◌+◌, ◌-◌, ◌*◌, ◌<◌, ◌≤◌, min, List, [], ◌∷◌, ◌++◌, length, get_or, set, take, drop, replicate, refl, sym, ap, ◌∙◌, append_assoc, length-append, arith}
use Rattle.std.specs.List.{concat}
use Rattle.std.proofs.lemmas.List.{take-append-le, drop-append-le, get_or_append_left, length-take-le, length-drop, get_or-append_right, drop-drop, drop_at, take_at, drop_more, set_at, length-replicate, replicate_more}
use Rattle.std.proofs.Math.Seq.{take-append-add}
use Rattle.paged_memory.specs.Pages.{ArePaged}
use Rattle.paged_memory.specs.Writing.{written}

-- a part that begins below the end exists, and is complete or ends at the end
pub record Part (size : ℕ) (parts : List (List ℕ)) (n i : ℕ) : Type 0 where
  pub there : i < length parts
  pub reach : length (get_or parts i []) ≡ min size (n - i * size)

pub part : (size : ℕ) (parts : List (List ℕ)) (n i : ℕ) → ArePaged size parts n → i * size < n → Part size parts n i
part size [] n i p low = absurd (omega (arith, p, low))
part size (q ∷ qs) n zero p low = record { there = omega arith; reach = p.1 ∙ ap (min size) (omega arith) }
part size (q ∷ qs) n (suc i) p low = let rest = part size qs (n - size) i p.2 (omega (arith, low)) in record {
  there = omega (arith, rest.there);
  reach = rest.reach ∙ ap (min size) (omega arith);
}

pub part-at : (size : ℕ) (parts : List (List ℕ)) (n i j d : ℕ) → ArePaged size parts n → j < size → i * size + j < n
    → get_or (concat parts) (i * size + j) d ≡ get_or (get_or parts i []) j d
part-at size [] n i j d p in_part low = absurd (omega (arith, p, low))
part-at size (q ∷ qs) n zero j d p in_part low = ap (λ k. get_or (q ++ concat qs) k d) (omega arith) ∙ get_or_append_left q (concat qs) d j (omega (arith, p.1, in_part, low))
part-at size (q ∷ qs) n (suc i) j d p in_part low =
    let whole : length q ≡ size = omega (arith, p.1, low) in
    get_or-append_right q (concat qs) size (suc i * size + j) d whole (omega arith) ∙ ap (λ k. get_or (concat qs) k d) (omega arith)
    ∙ part-at size qs (n - size) i j d p.2 in_part (omega (arith, low))

-- a part is replaced by one of the same length
pub paged-set : (size : ℕ) (parts : List (List ℕ)) (n i : ℕ) (q : List ℕ) → ArePaged size parts n → length q ≡ length (get_or parts i []) → ArePaged size (set parts i q) n
paged-set size [] n i q p same = p
paged-set size (r ∷ rs) n zero q p same = (p.0, same ∙ p.1, p.2)
paged-set size (r ∷ rs) n (suc i) q p same = (p.0, p.1, paged-set size rs (n - size) i q p.2 same)

pub length-written : {A : Type 0} (at : ℕ) (items old : List A) → at + length items ≤ length old → length (written at items old) ≡ length old
length-written at items old fits =
    length-append (take at old) (items ++ drop (at + length items) old)
    ∙ omega (arith, length-append items (drop (at + length items) old), length-take-le at old (omega (arith, fits)), length-drop (at + length items) old, fits)

-- a write to the first of two lists
written-left : (at : ℕ) (items xs ys : List ℕ) → at + length items ≤ length xs → written at items (xs ++ ys) ≡ written at items xs ++ ys
written-left at items xs ys fits =
    ap (λ l. l ++ (items ++ drop (at + length items) (xs ++ ys))) (take-append-le at xs ys (omega (arith, fits)))
    ∙ ap (λ l. take at xs ++ (items ++ l)) (drop-append-le (at + length items) xs ys fits)
    ∙ ap (λ l. take at xs ++ l) (sym (append_assoc items (drop (at + length items) xs) ys))
    ∙ sym (append_assoc (take at xs) (items ++ drop (at + length items) xs) ys)

drop-append-add : (xs ys : List ℕ) (n : ℕ) → drop (length xs + n) (xs ++ ys) ≡ drop n ys
drop-append-add xs ys n = sym (drop-drop n (length xs) (xs ++ ys)) ∙ ap (drop n) (drop_at xs ys (length xs) refl)

-- a write to the second of two lists
written-right : (k at : ℕ) (items xs ys : List ℕ) → k ≡ length xs + at → written k items (xs ++ ys) ≡ xs ++ written at items ys
written-right k at items xs ys is =
    ap (λ m. written m items (xs ++ ys)) is
    ∙ ap (λ l. l ++ (items ++ drop (length xs + at + length items) (xs ++ ys))) (take-append-add xs ys at)
    ∙ ap (λ m. (xs ++ take at ys) ++ (items ++ drop m (xs ++ ys))) (omega arith)
    ∙ ap (λ l. (xs ++ take at ys) ++ (items ++ l)) (drop-append-add xs ys (at + length items))
    ∙ append_assoc xs (take at ys) (items ++ drop (at + length items) ys)

-- a write to a part is a write to the complete list
pub written-part : (size : ℕ) (parts : List (List ℕ)) (n i j : ℕ) (items : List ℕ) → ArePaged size parts n → j + length items ≤ length (get_or parts i [])
    → i * size < n → concat (set parts i (written j items (get_or parts i []))) ≡ written (i * size + j) items (concat parts)
written-part size [] n i j items p fits low = absurd (omega (arith, p, low))
written-part size (q ∷ qs) n zero j items p fits low =
    sym (written-left j items q (concat qs) fits) ∙ ap (λ k. written k items (q ++ concat qs)) (omega arith)
written-part size (q ∷ qs) n (suc i) j items p fits low =
    let whole : length q ≡ size = omega (arith, p.1, low) in
    ap (λ l. q ++ l) (written-part size qs (n - size) i j items p.2 fits (omega (arith, low)))
    ∙ sym (written-right (suc i * size + j) (i * size + j) items q (concat qs) (omega (arith, whole)))

-- a write in two pieces
pub written-twice : (at : ℕ) (front back old : List ℕ) → at + (length front + length back) ≤ length old
    → written (at + length front) back (written at front old) ≡ written at (front ++ back) old
written-twice at front back old fits =
    let before = take at old ++ front in
    let behind = drop (at + length front) old in
    let rest = drop (at + length (front ++ back)) old in
    let long : length before ≡ at + length front = omega (arith, length-append (take at old) front, length-take-le at old (omega (arith, fits))) in
    let inner : written at front old ≡ before ++ behind = sym (append_assoc (take at old) front behind) in
    let first : take (at + length front) (written at front old) ≡ before = ap (take (at + length front)) inner ∙ take_at before behind (at + length front) long in
    let last : drop (at + length front + length back) (written at front old) ≡ rest =
    ap (drop (at + length front + length back)) inner ∙ ap (λ m. drop (m + length back) (before ++ behind)) (sym long)
    ∙ drop-append-add before behind (length back) ∙ drop-drop (length back) (at + length front) old
    ∙ ap (λ m. drop m old) (omega (arith, length-append front back)) in
    ap (λ l. l ++ (back ++ drop (at + length front + length back) (written at front old))) first
    ∙ ap (λ l. before ++ (back ++ l)) last
    ∙ append_assoc (take at old) front (back ++ rest)
    ∙ ap (λ l. take at old ++ l) (sym (append_assoc front back rest))

-- one more of the same
pub written-more : {A : Type 0} (first n i : ℕ) (x : A) (old : List A) → i ≡ first + n → i < length old
    → set (written first (replicate n x) old) i x ≡ written first (replicate (n + 1) x) old
written-more first n i x old is low =
    let front = take first old ++ replicate n x in
    let behind = drop (first + n + 1) old in
    let before : length front ≡ i = omega (arith, length-append (take first old) (replicate n x), length-take-le first old (omega (arith, is, low)), length-replicate n x, is) in
    let inner : written first (replicate n x) old ≡ front ++ get_or old (first + n) x ∷ behind =
    ap (λ k. take first old ++ (replicate n x ++ drop (first + k) old)) (length-replicate n x)
    ∙ sym (append_assoc (take first old) (replicate n x) (drop (first + n) old))
    ∙ ap (λ l. front ++ l) (drop_more old (first + n) x (omega (arith, is, low))) in
    ap (λ l. set l i x) inner ∙ set_at front (get_or old (first + n) x) behind x i before
    ∙ append_assoc (take first old) (replicate n x) (x ∷ behind)
    ∙ ap (λ l. take first old ++ l) (sym (append_assoc (replicate n x) (x ∷ []) behind))
    ∙ ap (λ l. take first old ++ (l ++ behind)) (replicate_more n x)
    ∙ ap (λ k. take first old ++ (replicate (n + 1) x ++ drop k old)) (omega (arith, length-replicate (n + 1) x))
