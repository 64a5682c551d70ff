-- What is required of a start function's type does not depend on what references name.
use Rattle.std.proofs.Common.{◌≡◌, ◌↔◌, List, [], ◌∷◌, map, refl}
use Rattle.wasm_spec.specs.TypeData.{Func, Array, Struct, Cont, Exn}
use Rattle.rule_spec.specs.Indices.{TakesAndGivesNothing}
use Rattle.form_rules.specs.Unnamed.{unnamed}
use Rattle.form_rules.proofs.KindFunctions.{Kind}

none-mapped : {A B : Type 0} (f : A → B) (xs : List A) → map f xs ≡ [] → xs ≡ []
none-mapped f [] is = refl
none-mapped f (x ∷ xs) is = absurd cc

none-to-map : {A B : Type 0} (f : A → B) (xs : List A) → xs ≡ [] → map f xs ≡ []
none-to-map f [] is = refl
none-to-map f (x ∷ xs) is = absurd cc

pub nothing-alone : (k : Kind) → TakesAndGivesNothing (unnamed k) ↔ TakesAndGivesNothing k
nothing-alone (Func type) = (
  λ both. (none-mapped _ type.params both.0, none-mapped _ type.results both.1),
  λ both. (none-to-map _ type.params both.0, none-to-map _ type.results both.1),
)
nothing-alone (Array f) = (λ h. h, λ h. h)
nothing-alone (Struct fs) = (λ h. h, λ h. h)
nothing-alone (Cont function) = (λ h. h, λ h. h)
nothing-alone (Exn e) = (λ h. h, λ h. h)
