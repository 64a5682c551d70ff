-- Bytes that are appended one piece after another.
use Rattle.std.proofs.Common.{◌≡◌, ℕ, List, ◌++◌, Option, Some, None, ap, ◌∙◌, append_assoc}
use Rattle.devices.specs.Device.{AppendsFront}

-- what was appended by two writes
pub AppendsFront-then : (old between new : Option (List ℕ)) (first second whole : List ℕ) → first ++ second ≡ whole
    → AppendsFront old first between → AppendsFront between second new → AppendsFront old whole new
AppendsFront-then (Some old) (Some between) (Some new) first second whole joined p q =
    q ∙ ap (λ (l : List ℕ). l ++ second) p ∙ append_assoc old first second ∙ ap (λ (l : List ℕ). old ++ l) joined
AppendsFront-then (Some old) (Some between) None first second whole joined p q = q
AppendsFront-then (Some old) None new first second whole joined p q = absurd p
AppendsFront-then None (Some between) new first second whole joined p q = absurd cc
AppendsFront-then None None new first second whole joined p q = q
