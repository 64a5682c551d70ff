-- Numbers and spans of one group more.
use Rattle.std.proofs.Common.{◌≡◌, ℕ, ◌+◌, List, [], ◌∷◌, ◌++◌, length, replicate, ap, arith, append_assoc, length-append}
use Rattle.std.proofs.lemmas.List.{append-nil}
use Rattle.form_types.specs.Types.{NamedGroup, types_by_id, group_numbers}
use Rattle.form_types.specs.Distinct.{spans}

pub numbers-more : (number : ℕ) (gs : List NamedGroup) (g : NamedGroup)
    → group_numbers number (gs ++ g ∷ []) ≡ group_numbers number gs ++ replicate (length g) (number + length gs)
numbers-more number [] g = grind (arith, append-nil)
numbers-more number (h ∷ gs) g = grind (arith, append_assoc, numbers-more (number + 1) gs g)

pub spans-more : (first : ℕ) (gs : List NamedGroup) (g : NamedGroup) (next : ℕ) → next ≡ first + length (types_by_id gs)
    → spans first (gs ++ g ∷ []) ≡ spans first gs ++ (next, next + length g) ∷ []
spans-more first [] g next is = let e : first ≡ next = omega arith in ap (λ n. (n, n + length g) ∷ []) e
spans-more first (h ∷ gs) g next is = grind (arith, length-append, spans-more (first + length h) gs g next)
