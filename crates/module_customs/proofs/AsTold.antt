-- What is read of custom sections is what they tell.
use Rattle.std.proofs.Common.{◌≡◌, ℕ, List, Bool, Option, Some, None, refl, sym}
use Rattle.custom_sections.specs.HintReading.{hints_of_section}
use Rattle.custom_sections.specs.NameReading.{names_of_section}
use Rattle.custom_sections.proofs.HintLaws.{section_read, section_spelled}
use Rattle.custom_sections.proofs.ToldNames.{told_are_read}
use Rattle.module_customs.specs.Told.{names_are_told, names_told, hints_are_told, hints_told}

pub names_as_told : (locals : Bool) (contents : List ℕ) → names_told locals contents ≡ names_of_section locals contents
names_as_told locals contents =
    let read = names_of_section locals contents in
    ((names_are_told locals contents).1 read).0 ((told_are_read locals contents read).1 refl)

-- options that have the same values
same_option : {A : Type 0} (a b : Option A) → ((x : A) → a ≡ Some x → b ≡ Some x) → ((x : A) → b ≡ Some x → a ≡ Some x) → a ≡ b
same_option (Some x) b there back = sym (there x refl)
same_option None (Some y) there back = back y refl
same_option None None there back = refl

pub hints_as_told : (contents : List ℕ) → hints_told contents ≡ hints_of_section contents
hints_as_told contents = same_option (hints_told contents) (hints_of_section contents)
    (λ hints e. section_read contents hints (((hints_are_told contents).1 hints).1 e))
    (λ hints e. ((hints_are_told contents).1 hints).0 (section_spelled contents hints e))
