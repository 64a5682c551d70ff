-- Groups that modules leave.
use Rattle.std.proofs.Common.{◌≡◌, ◌∙◌, ◌≤◌, ℕ, nat_eq, List, [], ◌∷◌, ◌++◌, length, Option, Some, refl, arith}
use Rattle.std.proofs.lemmas.List.{length-append}
use Rattle.std.specs.Map.{lookup, set_value, remove_entry}
use Rattle.std.proofs.lemmas.Bool.Decides.{nat_tests}
use Rattle.type_registry.specs.Registry.{Group, indices_of}
use Rattle.type_registry.specs.Changes.{leave_group, leave_groups, count_group, count_groups}

pub left_push : (gs : List (ℕ × Group)) (fs : List ℕ) (f : ℕ)
    → leave_groups gs (fs ++ f ∷ []) ≡ leave_group (leave_groups gs fs) f (lookup (nat_eq f) (leave_groups gs fs))
left_push gs [] f = refl
left_push gs (x ∷ fs) f = left_push (leave_group gs x (lookup (nat_eq x) gs)) fs f

-- what remains has no more indices
remove-short : (f : ℕ) (gs : List (ℕ × Group)) → length (indices_of (remove_entry (nat_eq f) gs)) ≤ length (indices_of gs)
remove-short f [] = omega arith
remove-short f (e ∷ gs) = let rest = remove-short f gs in grind (arith, nat_tests, length-append)

set-short : (f n : ℕ) (gs : List (ℕ × Group)) (g : Group) → lookup (nat_eq f) gs ≡ Some g
    → length (indices_of (set_value (nat_eq f) gs (record g { count = n }))) ≡ length (indices_of gs)
set-short f n [] g found = refl
set-short f n (e ∷ gs) g found = let rest = set-short f n gs g in grind (arith, nat_tests, length-append)

one-short : (f : ℕ) (gs : List (ℕ × Group)) (o : Option Group) → lookup (nat_eq f) gs ≡ o → length (indices_of (leave_group gs f o)) ≤ length (indices_of gs)
one-short f gs o h1 = grind (arith, remove-short, set-short, nat_tests)

pub left_short : (gs : List (ℕ × Group)) (fs : List ℕ) → length (indices_of (leave_groups gs fs)) ≤ length (indices_of gs)
left_short gs [] = omega arith
left_short gs (f ∷ fs) = grind (arith, nat_eq, one-short, (left_short (leave_group gs f (lookup (nat_eq f) gs)) fs))

count-short : (gs : List (ℕ × Group)) (f : ℕ) (o : Option Group) → lookup (nat_eq f) gs ≡ o → length (indices_of (count_group gs f o)) ≡ length (indices_of gs)
count-short gs f o e = grind (arith, set-short)

-- groups that are counted have as many indices
pub counted-long : (gs : List (ℕ × Group)) (fs : List ℕ) → length (indices_of (count_groups gs fs)) ≡ length (indices_of gs)
counted-long gs [] = refl
counted-long gs (f ∷ fs) = counted-long (count_group gs f (lookup (nat_eq f) gs)) fs ∙ count-short gs f (lookup (nat_eq f) gs) refl
