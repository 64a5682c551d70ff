-- One page of a list, changed; and one page more.
use Rattle.std.proofs.Common.{◌≡◌, ℕ, zero, suc, ◌+◌, ◌<◌, ◌≤◌, Bool, true, false, List, [], ◌∷◌, length, get_or, set, map, ◌++◌, ◌-◌, ◌/◌, ◌%◌, min, take, replicate, ⊎_elim, subst, append_assoc, refl, sym, ap, ◌∙◌, arith}
use Rattle.std.proofs.lemmas.List.{map-append, map-set, append-nil, take-replicate, drop-replicate, length-replicate, replicate_more}
use Rattle.std.specs.Prelude.{IsTrue}
use Rattle.paged_memory.specs.declared.page.Page.{Page}
use Rattle.std.proofs.lemmas.Bool.{cases_lt, false≢true}
use Rattle.std.proofs.Math.Nat.{mod-eq_of_lt, mod-eq-sub-mod}
use Rattle.paged_memory.specs.declared.page.Page.TheVariants.{Zero, Lent, Own}
use Rattle.paged_memory.specs.Memory.{page_count, as_lent, not_lent}
use Rattle.paged_memory.specs.Pages.{page_bytes, is_own, is_lent, parts_of, joined, lent_of, ArePaged, OwnBetween, Continued}
use Rattle.paged_memory.specs.Writing.{written}
use Rattle.paged_memory.proofs.Counts.{none-count, more-count, before-count, all-count}
use Rattle.paged_memory.proofs.Paged.{written-more}

-- a page replaces one of which the same is true
pub map-set-same : {B : Type 0} (f : Page → B) (pages : List Page) (i : ℕ) (p d : Page) → f p ≡ f (get_or pages i d) → map f (set pages i p) ≡ map f pages
map-set-same f [] i p d same = refl
map-set-same f (q ∷ qs) zero p d same = ap (λ b. b ∷ map f qs) same
map-set-same f (q ∷ qs) (suc i) p d same = ap (λ l. f q ∷ l) (map-set-same f qs i p d same)

own-not-lent : (p : Page) → IsTrue (is_own p) → is_lent p ≡ false
own-not-lent (Zero count) own = refl
own-not-lent (Lent bytes) own = absurd (false≢true own)
own-not-lent (Own bytes) own = refl

-- one more page is no longer borrowed
pub not-lent-more : (pages : List Page) (old : List Bool) (from i : ℕ) (p : Page) → from ≤ i → i < length pages → IsTrue (is_own p) → length old ≡ length pages
    → lent_of pages ≡ not_lent from (i - from) old → lent_of (set pages i p) ≡ not_lent from (i + 1 - from) old
not-lent-more pages old from i p order low own long before =
    map-set is_lent pages i p
    ∙ ap (λ l. set (lent_of pages) i l) (own-not-lent p own)
    ∙ ap (λ l. set l i false) before
    ∙ written-more from (i - from) i false old (omega (arith, order)) (omega (arith, low, long))
    ∙ ap (λ k. not_lent from k old) (omega (arith, order))

own-at : (pages : List Page) (i : ℕ) (p : Page) (k : ℕ) (d : Page) → i < length pages → IsTrue (is_own p) → ((k ≡ i → ⊥) → IsTrue (is_own (get_or pages k d)))
    → IsTrue (is_own (get_or (set pages i p) k d))
own-at [] i p k d low own other = absurd (omega (arith, low))
own-at (q ∷ qs) zero p zero d low own other = own
own-at (q ∷ qs) zero p (suc k) d low own other = other (λ e. omega (arith, e))
own-at (q ∷ qs) (suc i) p zero d low own other = other (λ e. omega (arith, e))
own-at (q ∷ qs) (suc i) p (suc k) d low own other = own-at qs i p k d (omega (arith, low)) own (λ apart. other (λ e. apart (omega (arith, e))))

-- one more page is owned
pub own-more : (pages : List Page) (from i : ℕ) (p : Page) → i < length pages → IsTrue (is_own p) → OwnBetween pages from i → OwnBetween (set pages i p) from (i + 1)
own-more pages from i p low own all k above below = own-at pages i p k (Zero 0) low own (λ apart. all k above (omega (arith, apart, below)))

pub own-kept : (pages : List Page) (from until i : ℕ) (p : Page) → i < length pages → IsTrue (is_own p) → OwnBetween pages from until → OwnBetween (set pages i p) from until
own-kept pages from until i p low own all k above below = own-at pages i p k (Zero 0) low own (λ apart. all k above below)

-- ---- one more page

pub joined-push : (pages : List Page) (p : Page) → joined (pages ++ p ∷ []) ≡ joined pages ++ page_bytes p
joined-push [] p = append-nil (page_bytes p)
joined-push (q ∷ qs) p = ap (λ l. page_bytes q ++ l) (joined-push qs p) ∙ sym (append_assoc (page_bytes q) (joined qs) (page_bytes p))

pub lent-push : (pages : List Page) (p : Page) → lent_of (pages ++ p ∷ []) ≡ lent_of pages ++ is_lent p ∷ []
lent-push pages p = map-append is_lent pages (p ∷ [])

-- one more page, before pages that are not borrowed
pub not-lent-push : (size n k : ℕ) (pages : List Page) (p : Page) (all : List Bool) → 0 < size → 0 < n → k ≡ n - min n size → is_lent p ≡ false
    → lent_of pages ++ replicate (page_count size n) false ≡ all → lent_of (pages ++ p ∷ []) ++ replicate (page_count size k) false ≡ all
not-lent-push size n k pages p all wide some is own before =
    let one_more : suc (page_count size k) ≡ page_count size n = omega (arith, more-count size n k wide some is) in
    ap (λ l. l ++ replicate (page_count size k) false) (lent-push pages p)
    ∙ append_assoc (lent_of pages) (is_lent p ∷ []) (replicate (page_count size k) false)
    ∙ ap (λ l. lent_of pages ++ l ∷ replicate (page_count size k) false) own
    ∙ ap (λ m. lent_of pages ++ replicate m false) one_more
    ∙ before

pub not-lent-all : (size n : ℕ) (pages : List Page) (all : List Bool) → 0 < size → n ≡ 0 → lent_of pages ++ replicate (page_count size n) false ≡ all → lent_of pages ≡ all
not-lent-all size n pages all wide none before =
    sym (append-nil (lent_of pages)) ∙ ap (λ m. lent_of pages ++ replicate m false) (sym (none-count size n wide none)) ∙ before

pub lent-more : (pages : List Page) (p : Page) (old : List Bool) (i : ℕ) → is_lent p ≡ true → lent_of pages ≡ old ++ replicate i true
    → lent_of (pages ++ p ∷ []) ≡ old ++ replicate (i + 1) true
lent-more pages p old i is before =
    lent-push pages p ∙ ap (λ l. l ++ is_lent p ∷ []) before ∙ append_assoc old (replicate i true) (is_lent p ∷ [])
    ∙ ap (λ l. old ++ (replicate i true ++ l ∷ [])) is ∙ ap (λ l. old ++ l) (replicate_more i true)

-- pages that are followed by parts of a total size, of which the first is the next page
module _ (G : List (List ℕ) → Type 0) (size k : ℕ) (pages : List Page) (continued : (parts : List (List ℕ)) → ArePaged size parts k → G (parts_of pages ++ parts)) where
  pub paged-push : (left : ℕ) (p : Page) → 0 < k → length (page_bytes p) ≡ min size k → left ≡ k - size
      → (parts : List (List ℕ)) → ArePaged size parts left → G (parts_of (pages ++ p ∷ []) ++ parts)
  paged-push left p some long is parts paged =
      subst G (sym (ap (λ l. l ++ parts) (map-append page_bytes pages (p ∷ [])) ∙ append_assoc (parts_of pages) (page_bytes p ∷ []) parts))
      (continued (page_bytes p ∷ parts) (some, long, subst (λ m. ArePaged size parts m) is paged))

  pub paged-all : k ≡ 0 → G (parts_of pages)
  paged-all none = subst G (append-nil (parts_of pages)) (continued [] none)

whole-le : (size n : ℕ) → n % size ≡ 0 → 0 < n → size ≤ n
whole-le size n whole some = ⊎_elim (λ less. absurd (omega (arith, mod-eq_of_lt less, whole, some))) (λ h. h) (cases_lt n size)

-- parts of complete pages, and parts after them
pub paged-append : (size n m : ℕ) (ps qs : List (List ℕ)) → n % size ≡ 0 → ArePaged size ps n → ArePaged size qs m → ArePaged size (ps ++ qs) (n + m)
paged-append size n m [] qs whole p q = subst (λ k. ArePaged size qs k) (omega (arith, p)) q
paged-append size n m (p ∷ ps) qs whole paged q =
    let wide : size ≤ n = whole-le size n whole paged.0 in (
      omega (arith, paged.0),
      omega (arith, paged.1, wide),
      subst (λ k. ArePaged size (ps ++ qs) k) (omega (arith, wide)) (paged-append size (n - size) m ps qs (sym (mod-eq-sub-mod wide) ∙ whole) paged.2 q),
    )

-- ---- zeros, an image, and zeros

pub image-items : {A : Type 0} (z : A) (len start : ℕ) (image a b c : List A) → start + length image ≤ len → a ≡ replicate start z → b ≡ a ++ image
    → c ≡ b ++ replicate (len - start - length image) z → c ≡ written start image (replicate len z)
image-items z len start image a b c fits first second third =
    third ∙ ap (λ l. l ++ replicate (len - start - length image) z) (second ∙ ap (λ l. l ++ image) first)
    ∙ append_assoc (replicate start z) image (replicate (len - start - length image) z)
    ∙ ap (λ l. l ++ (image ++ replicate (len - start - length image) z)) (sym (take-replicate start len z (omega (arith, fits))))
    ∙ ap (λ l. take start (replicate len z) ++ (image ++ l)) (ap (λ k. replicate k z) (omega arith) ∙ sym (drop-replicate (start + length image) len z))

pub image-lent : (size len start k : ℕ) (a b c : List Bool) → 0 < size → start % size ≡ 0 → k % size ≡ 0 → start + k ≤ len
    → a ≡ replicate (page_count size start) false → b ≡ a ++ replicate (k / size) true → c ≡ b ++ replicate (page_count size (len - start - k)) false
    → c ≡ as_lent (start / size) (k / size) (replicate (page_count size len) false)
image-lent size len start k a b c wide whole whole_image fits first second third =
    let all = all-count size len start k wide whole whole_image fits in
    let long = length-replicate (k / size) true in
    image-items false (page_count size len) (start / size) (replicate (k / size) true) a b c (omega (arith, all, long))
    (first ∙ ap (λ n. replicate n false) (before-count size start wide whole)) second
    (third ∙ ap (λ n. b ++ replicate n false) (omega (arith, all, long)))

pub image-paged : (size len start k : ℕ) (p q r s : List (List ℕ)) → start + k ≤ len → start % size ≡ 0 → k % size ≡ 0 → p ≡ []
    → Continued size start p q → Continued size k q r → Continued size (len - start - k) r s → ArePaged size s len
image-paged size len start k p q r s fits whole whole_image none (m, q_is, m_paged) (n, r_is, n_paged) (o, s_is, o_paged) =
    let all : s ≡ m ++ (n ++ o) =
    s_is ∙ ap (λ l. l ++ o) (r_is ∙ ap (λ l. l ++ n) (q_is ∙ ap (λ l. l ++ m) none)) ∙ append_assoc m n o in
    subst (λ l. ArePaged size l len) (sym all)
    (subst (λ e. ArePaged size (m ++ (n ++ o)) e) (omega (arith, fits))
    (paged-append size start (k + (len - start - k)) m (n ++ o) whole m_paged (paged-append size k (len - start - k) n o whole_image n_paged o_paged)))
