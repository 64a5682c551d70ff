-- Functions of the kind of a declared type, where the result does not depend on what references
-- name.
use Rattle.std.proofs.Common.{◌≡◌, ◌↔◌, ◌∙◌, Option, Some, None, refl, sym, ap, subst}
use Rattle.std.specs.Prelude.{IsSomeAnd}
use Rattle.std.specs.Option.{option_map}
use Rattle.wasm_spec.specs.declared.types.UnpackedIndex.{UnpackedIndex}
use Rattle.wasm_spec.specs.TypeData.{Composite}
use Rattle.form_rules.specs.Unnamed.{unnamed}

abbrev pub Kind : Type 0
Kind = Composite UnpackedIndex UnpackedIndex

-- the kind that was found is like the declared one
like : (k : Kind) (o : Option Kind) → Some (unnamed k) ≡ option_map unnamed o → (declared : Kind) × (o ≡ Some declared) × (unnamed k ≡ unnamed declared)
like k None same = absurd cc
like k (Some declared) same = (declared, refl, cc)

-- a function of it has the same result for the declared one
pub equal-result : {A : Type 0} (f : Kind → A) → ((k : Kind) → f (unnamed k) ≡ f k) → (k : Kind) (o : Option Kind) → Some (unnamed k) ≡ option_map unnamed o
    → Some (f k) ≡ option_map f o
equal-result {A = A} f alone k o same =
    let d = like k o same in
    ap (λ (x : A). Some x) (sym (alone k) ∙ ap f d.2 ∙ alone d.0) ∙ ap (option_map f) (sym d.1)

pub holds : (P : Kind → Type 0) → ((k : Kind) → P (unnamed k) ↔ P k) → (k : Kind) (o : Option Kind) → Some (unnamed k) ≡ option_map unnamed o
    → P k ↔ IsSomeAnd o P
holds P alone k o same =
    let d = like k o same in (
      λ p. subst (λ o. IsSomeAnd o P) (sym d.1) ((alone d.0).0 (subst P d.2 ((alone k).1 p))),
      λ some. (alone k).0 (subst P (sym d.2) ((alone d.0).1 (subst (λ o. IsSomeAnd o P) d.1 some))),
    )
