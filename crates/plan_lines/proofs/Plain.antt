-- Bytes that are printed as they are.
use Rattle.std.proofs.Common.{◌≡◌, List, [], ◌∷◌, ◌++◌, ap, ◌∙◌, refl}
use Rattle.std.specs.Prelude.{IsTrue, All, ℕ}
use Rattle.std.proofs.lemmas.List.Elements.{All-head, All-tail}
use Rattle.plan_lines.specs.Quoted.{is_plain, quoted_byte, quoted_bytes}

plain_byte : (b : ℕ) → IsTrue (is_plain b) → quoted_byte b ≡ b ∷ []
plain_byte b plain = rw plain refl

pub plain_bytes : (bs : List ℕ) → All (λ b. IsTrue (is_plain b)) bs → quoted_bytes bs ≡ bs
plain_bytes [] all = refl
plain_bytes (b ∷ bs) all =
    ap (λ first. first ++ quoted_bytes bs) (plain_byte b (All-head (λ x. IsTrue (is_plain x)) b bs all))
    ∙ ap (λ others. b ∷ others) (plain_bytes bs (All-tail (λ x. IsTrue (is_plain x)) b bs all))
