-- How often modules have kept groups.
use Rattle.std.proofs.Common.{◌≡◌, ◌≤◌, ◌+◌, ℕ, nat_eq, List, [], ◌∷◌, ◌++◌, length, Option, Some, refl, arith}
use Rattle.std.specs.Map.{lookup, set_value, remove_entry}
use Rattle.std.specs.Option.{option_map}
use Rattle.std.proofs.lemmas.Option.{none-some, same_Some}
use Rattle.std.proofs.lemmas.Bool.Decides.{nat_tests}
use Rattle.type_registry.specs.Registry.{Group}
use Rattle.type_registry.specs.Changes.{leave_group, leave_groups, count_group, count_groups, keep_group}
use Rattle.type_registry.specs.Counted.{counted}

pub counted-one : (gs : List (ℕ × Group)) (f : ℕ) (g : Group) → lookup (nat_eq f) gs ≡ Some g → g.count ≤ counted gs
counted-one [] f g found = absurd (none-some g found)
counted-one (e ∷ gs) f g found = let rest = counted-one gs f g in grind (arith, nat_tests)

pub counted-found : (gs : List (ℕ × Group)) (f n : ℕ) → option_map (λ (g : Group). g.count) (lookup (nat_eq f) gs) ≡ Some n → n ≤ counted gs
counted-found gs f n found = grind (arith, nat_eq, none-some, counted-one, same_Some)

pub counted-set : (gs : List (ℕ × Group)) (f n : ℕ) (g : Group) → lookup (nat_eq f) gs ≡ Some g
    → counted (set_value (nat_eq f) gs (record g { count = n })) + g.count ≡ counted gs + n
counted-set [] f n g found = absurd (none-some g found)
counted-set (e ∷ gs) f n g found = let rest = counted-set gs f n g in grind (arith, nat_tests)

counted-remove : (gs : List (ℕ × Group)) (f : ℕ) → counted (remove_entry (nat_eq f) gs) ≤ counted gs
counted-remove [] f = omega arith
counted-remove (e ∷ gs) f = let rest = counted-remove gs f in grind (arith, nat_tests)

counted-leave : (gs : List (ℕ × Group)) (f : ℕ) (o : Option Group) → lookup (nat_eq f) gs ≡ o → counted (leave_group gs f o) ≤ counted gs
counted-leave gs f o h1 = grind (arith, counted-remove, counted-set, nat_tests)

pub counted-left : (gs : List (ℕ × Group)) (fs : List ℕ) → counted (leave_groups gs fs) ≤ counted gs
counted-left gs [] = omega arith
counted-left gs (f ∷ fs) = grind (arith, nat_eq, counted-leave, (counted-left (leave_group gs f (lookup (nat_eq f) gs)) fs))

counted-more : (gs : List (ℕ × Group)) (f : ℕ) (o : Option Group) → lookup (nat_eq f) gs ≡ o → counted (count_group gs f o) ≤ counted gs + 1
counted-more gs f o e = grind (arith, counted-set)

pub counted-all : (gs : List (ℕ × Group)) (fs : List ℕ) → counted (count_groups gs fs) ≤ counted gs + length fs
counted-all gs [] = omega arith
counted-all gs (f ∷ fs) = grind (arith, nat_eq, counted-more, (counted-all (count_group gs f (lookup (nat_eq f) gs)) fs))

pub counted_push : (gs : List (ℕ × Group)) (fs : List ℕ) (f : ℕ)
    → count_groups gs (fs ++ f ∷ []) ≡ count_group (count_groups gs fs) f (lookup (nat_eq f) (count_groups gs fs))
counted_push gs [] f = refl
counted_push gs (x ∷ fs) f = counted_push (count_group gs x (lookup (nat_eq x) gs)) fs f

-- a new group adds its count
pub counted-keep : (gs : List (ℕ × Group)) (f : ℕ) (g : Group) → counted (keep_group gs f g) ≡ counted gs + g.count
counted-keep [] f g = omega arith
counted-keep (e ∷ gs) f g = let rest = counted-keep gs f g in grind (arith, nat_tests)
