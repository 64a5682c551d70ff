-- The functions to which an expression makes references, as indices and as numbers.
use Rattle.std.proofs.Common.{◌≡◌, ℕ, ◌<◌, [], ◌∷◌, map, refl, ap, sym, ◌∙◌, subst}
use Rattle.std.specs.Prelude.{All}
use Rattle.std.proofs.lemmas.List.{get_or-map, length-map}
use Rattle.wasm_spec.specs.declared.operators.Operator.TheVariants.{RefFunc}
use Rattle.wasm_spec.specs.Module.{Expression}
use Rattle.wasm_index.specs.Index.{number_of}
use Rattle.wasm_convert.specs.Constants.{functions_of}
use Rattle.module_sections.specs.Escapes.{referred}
use Rattle.module_sections.specs.EscapeLog.{EscapeLog, after_escapes}

referred-is : (e : Expression) → map number_of (functions_of e) ≡ referred e
referred-is [] = refl
referred-is (RefFunc function ∷ e) = ap (λ l. function ∷ l) (referred-is e)
referred-is (_ ∷ e) = referred-is e

pub all-referred : (n : ℕ) (e : Expression) → All (λ f. f < n) (referred e) → All (λ f. number_of f < n) (functions_of e)
all-referred n e h k d lt =
    let numbers : All (λ f. f < n) (map number_of (functions_of e)) = subst (All (λ f. f < n)) (sym (referred-is e)) h in
    subst (λ f. f < n) (get_or-map number_of (functions_of e) k d (number_of d) lt)
    (numbers k (number_of d) (subst (λ m. k < m) (sym (length-map (functions_of e) number_of)) lt))

pub after_escapes-referred : (s t : EscapeLog) (e : Expression) → t ≡ after_escapes s (map number_of (functions_of e)) → t ≡ after_escapes s (referred e)
after_escapes-referred s t e is = is ∙ ap (after_escapes s) (referred-is e)
