-- What was read, and what was reported of it.
use Rattle.std.proofs.Common.{◌≡◌, ◌^◌, ◌≤◌, ◌++◌, ℕ, List, length, take, Option, Some, None, IsNone, inl, inr, refl, sym, ap, ◌∙◌}
use Rattle.std.proofs.lemmas.List.{append-nil, take_all}
use Rattle.std.proofs.Math.Seq.{take-append_seam}
use Rattle.devices.specs.Device.{TellsFront}
use Rattle.translate.specs.Runs.{HasWholeInput, HasEnoughInput}
use Rattle.translate_tool.specs.Ends.{IsGiven, front_of}

-- so much that the bound is reached is the front up to it
take_front : (most : ℕ) (bytes rest : List ℕ) → length bytes ≡ most → take most (bytes ++ rest) ≡ bytes
take_front most bytes rest long = rw (← long) (take-append_seam bytes rest)

-- what was read until nothing remained is all that was reported
pub IsGiven-whole : (made : Option ℕ) (told left : Option (List ℕ)) (bytes : List ℕ) → (IsNone made → TellsFront told bytes left)
    → HasWholeInput made bytes left → IsGiven made told bytes
IsGiven-whole None (Some told) (Some left) bytes moved none = let e : told ≡ bytes ++ left = moved refl in sym (e ∙ ap (λ rest. bytes ++ rest) none ∙ append-nil bytes)
IsGiven-whole None (Some told) None bytes moved none = absurd (moved refl)
IsGiven-whole None None left bytes moved none = tt
IsGiven-whole (Some n) told left bytes moved made = made

-- what was read until nothing remained, or up to 2 ^ 30 bytes, is the front of what was reported
pub IsGiven-front : (made : Option ℕ) (told left : Option (List ℕ)) (bytes : List ℕ) → (IsNone made → TellsFront told bytes left)
    → (IsNone made → length bytes ≤ 2 ^ 30) → HasEnoughInput made bytes left → IsGiven made (front_of told) bytes
IsGiven-front None (Some told) (Some left) bytes moved within (inl none) =
    let e : told ≡ bytes = moved refl ∙ ap (λ rest. bytes ++ rest) none ∙ append-nil bytes in
    sym (ap (take (2 ^ 30)) e ∙ take_all (2 ^ 30) bytes (within refl))
IsGiven-front None (Some told) (Some left) bytes moved within (inr long) =
    sym (ap (take (2 ^ 30)) (moved refl) ∙ take_front (2 ^ 30) bytes left long)
IsGiven-front None (Some told) None bytes moved within enough = absurd (moved refl)
IsGiven-front None None left bytes moved within enough = tt
IsGiven-front (Some n) told left bytes moved within made = made
