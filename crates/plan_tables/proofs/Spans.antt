-- Parts of lists that are joined.
use Rattle.std.proofs.Common.{◌≡◌, ℕ, ◌+◌, ◌<◌, List, [], ◌∷◌, ◌++◌, length, map, drop, get_or, refl, ap, sym, ◌∙◌, arith, append_assoc}
use Rattle.std.proofs.Math.Numerals.{add-one}
use Rattle.std.proofs.Math.Seq.{drop-cons}
use Rattle.std.proofs.lemmas.Grind.{common_steps, flat_map-append}
use Rattle.std.proofs.lemmas.List.{length-append}
use Rattle.std.specs.List.{flat_map}
use Rattle.plan_tables.specs.declared.rows.Span.{Span}
use Rattle.plan_tables.specs.Spans.{spans_from}

-- the parts of one list, and those of the other behind them
pub spans_append : {X Y : Type 0} (len : X → ℕ) (f : X → List Y) (same : (x : X) → length (f x) ≡ len x) (n : ℕ) (xs ys : List X)
    → spans_from n (map len (xs ++ ys)) ≡ spans_from n (map len xs) ++ spans_from (n + length (flat_map f xs)) (map len ys)
spans_append len f same n [] ys = grind (arith, common_steps)
spans_append len f same n (x ∷ xs) ys =
    let rest : spans_from (n + len x) (map len (xs ++ ys)) ≡ spans_from (n + len x) (map len xs) ++ spans_from (n + len x + length (flat_map f xs)) (map len ys)
    = spans_append len f same (n + len x) xs ys in
    let here : length (f x) ≡ len x = same x in
    grind (arith, common_steps)

-- the items of what remains: those of the next, and those behind it
pub items_next : {X H : Type 0} (items : H → List X) (hs : List H) (i : ℕ) (d : H) → i < length hs
    → flat_map items (drop i hs) ≡ items (get_or hs i d) ++ flat_map items (drop (i + 1) hs)
items_next items hs i d inside =
    let next : drop i hs ≡ get_or hs i d ∷ drop (i + 1) hs = rw add-one (drop-cons hs i d inside) in
    rw next refl

-- parts so far and those that remain, after the parts of one more
pub parts_step : {X Y H : Type 0} (len : X → ℕ) (f : X → List Y) (same : (x : X) → length (f x) ≡ len x) (items : H → List X)
    (hs : List H) (i : ℕ) (d : H) (parts new : List Span) (ys more : List Y) (whole : List Span)
    → i < length hs
    → new ≡ parts ++ spans_from (length ys) (map len (items (get_or hs i d)))
    → more ≡ ys ++ flat_map f (items (get_or hs i d))
    → parts ++ spans_from (length ys) (map len (flat_map items (drop i hs))) ≡ whole
    → new ++ spans_from (length more) (map len (flat_map items (drop (i + 1) hs))) ≡ whole
parts_step len f same items hs i d parts new ys more whole inside is_new is_more before =
    let left : flat_map items (drop i hs) ≡ items (get_or hs i d) ++ flat_map items (drop (i + 1) hs) = items_next items hs i d inside in
    let split : spans_from (length ys) (map len (items (get_or hs i d) ++ flat_map items (drop (i + 1) hs)))
    ≡ spans_from (length ys) (map len (items (get_or hs i d))) ++ spans_from (length ys + length (flat_map f (items (get_or hs i d)))) (map len (flat_map items (drop (i + 1) hs)))
    = spans_append len f same (length ys) (items (get_or hs i d)) (flat_map items (drop (i + 1) hs)) in
    let opened : parts ++ spans_from (length ys) (map len (items (get_or hs i d) ++ flat_map items (drop (i + 1) hs))) ≡ whole = rw left at before in
    let joined : parts ++ (spans_from (length ys) (map len (items (get_or hs i d))) ++ spans_from (length ys + length (flat_map f (items (get_or hs i d)))) (map len (flat_map items (drop (i + 1) hs)))) ≡ whole
    = rw split at opened in
    rw (is_new, is_more) (simp (append_assoc, length-append) joined)

-- what was made of the items so far and what remains, after the items of one more
pub made_step : {X Y H : Type 0} (f : X → List Y) (items : H → List X) (hs : List H) (i : ℕ) (d : H) (ys more whole : List Y)
    → i < length hs
    → more ≡ ys ++ flat_map f (items (get_or hs i d))
    → ys ++ flat_map f (flat_map items (drop i hs)) ≡ whole
    → more ++ flat_map f (flat_map items (drop (i + 1) hs)) ≡ whole
made_step f items hs i d ys more whole inside is_more before =
    let left : flat_map items (drop i hs) ≡ items (get_or hs i d) ++ flat_map items (drop (i + 1) hs) = items_next items hs i d inside in
    let opened : ys ++ flat_map f (items (get_or hs i d) ++ flat_map items (drop (i + 1) hs)) ≡ whole = rw left at before in
    let split : flat_map f (items (get_or hs i d) ++ flat_map items (drop (i + 1) hs)) ≡ flat_map f (items (get_or hs i d)) ++ flat_map f (flat_map items (drop (i + 1) hs))
    = flat_map-append f (items (get_or hs i d)) (flat_map items (drop (i + 1) hs)) in
    let joined : ys ++ (flat_map f (items (get_or hs i d)) ++ flat_map f (flat_map items (drop (i + 1) hs))) ≡ whole = rw split at opened in
    rw is_more (simp append_assoc joined)
