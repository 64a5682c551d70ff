-- What a run has read of valid input is all of it.
use Rattle.std.proofs.Common.{◌≡◌, ◌^◌, ◌<◌, ◌++◌, ℕ, List, length, Option, Some, None, IsNone, inl, inr, refl, sym, ap, arith, ◌∙◌}
use Rattle.std.proofs.lemmas.List.{append-nil, length-append}
use Rattle.devices.specs.Device.{TellsFront}
use Rattle.translate.specs.Runs.{IsInput, HasEnoughInput}

pub whole_input : (generate : Option ℕ) (told left : Option (List ℕ)) (bytes input : List ℕ) → HasEnoughInput generate bytes left
    → (IsNone generate → TellsFront told bytes left) → IsInput generate told input → length input < 2 ^ 30 → input ≡ bytes
whole_input (Some n) told left bytes input enough tells is short = is ∙ sym enough
whole_input None (Some old) (Some new) bytes input (inl none) tells is short =
    let e : old ≡ input = cc in sym e ∙ tells refl ∙ ap (λ rest. bytes ++ rest) none ∙ append-nil bytes
whole_input None (Some old) (Some new) bytes input (inr long) tells is short =
    let e : old ≡ input = cc in absurd (omega (arith, ap length (sym e ∙ tells refl), length-append bytes new, long, short))
whole_input None (Some old) None bytes input enough tells is short = absurd (tells refl)
whole_input None None left bytes input enough tells is short = absurd (cc)
