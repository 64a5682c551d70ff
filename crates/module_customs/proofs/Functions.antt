-- Imported functions, counted one after another.
use Rattle.std.proofs.Common.{◌≡◌, ◌≤◌, ℕ, ◌+◌, List, [], ◌∷◌, ◌++◌, length, Option, None, Some, suc, refl, ap, ◌∙◌, arith}
use Rattle.std.specs.List.{filter_map, cons_option}
use Rattle.std.proofs.lemmas.List.{length-append}
use Rattle.std.proofs.lemmas.List.Elements.{filter_map-append}
use Rattle.wasm_spec.specs.Module.{Import, function_import}
use Rattle.module_customs.specs.Names.{functions_among, one_if}

length-one : {A : Type 0} (o : Option A) → length (cons_option o []) ≡ one_if o
length-one None = refl
length-one (Some x) = refl

pub functions-push : (is : List Import) (i : Import) → functions_among (is ++ i ∷ []) ≡ functions_among is + one_if (function_import i.type)
functions-push is i =
    ap length (filter_map-append (λ (j : Import). function_import j.type) is (i ∷ []))
    ∙ length-append (filter_map (λ (j : Import). function_import j.type) is) (cons_option (function_import i.type) [])
    ∙ ap (λ (n : ℕ). functions_among is + n) (length-one (function_import i.type))

pub functions-le : (is : List Import) → functions_among is ≤ length is
functions-le [] = omega arith
functions-le (i ∷ is) = by (function_import i.type) (filter_map (λ (j : Import). function_import j.type) is) (functions-le is) where
  by : (o : Option ℕ) (others : List ℕ) → length others ≤ length is → length (cons_option o others) ≤ suc (length is)
  by None others le = omega (arith, le)
  by (Some x) others le = omega (arith, le)
