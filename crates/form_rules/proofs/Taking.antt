-- Segments that a walk takes one after another.
use Rattle.std.proofs.Common.{◌≡◌, Bool, true, List, ◌∷◌, sym, ap, subst, ◌∙◌}
use Rattle.form_reader.specs.Input.{Takes}

-- one was taken, and it is the one that was returned
pub taken : {A : Type 0} (before after : List A) (first seen : A) (b : Bool) → b ≡ true → Takes before first after b → seen ≡ first → before ≡ seen ∷ after
taken {A = A} before after first seen b is takes same = subst (Takes before first after) is takes ∙ ap (λ (x : A). x ∷ after) (sym same)
