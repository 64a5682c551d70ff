-- What the contents of a name section and of a section of branch hints tell: the one answer that a
-- law states, and its proof.
use Rattle.std.specs.Prelude.{◌≡◌, ◌↔◌, ℕ, List, Bool, Option, Some}
use Rattle.custom_sections.specs.declared.hints.Hint.{Hint}
use Rattle.custom_sections.specs.HintGrammar.{hint_section}
use Rattle.custom_sections.specs.HintReading.{hints_of_section}
use Rattle.custom_sections.specs.NameLists.{NameLists}
use Rattle.custom_sections.specs.NameReading.{names_of_section}
use Rattle.custom_sections.specs.CutNames.{TellNames}
use Rattle.custom_sections.proofs.HintLaws.{section_read, section_spelled}
use Rattle.custom_sections.proofs.ToldNames.{told_are_read}

-- any contents tell one list of names
pub names_are_told : (locals : Bool) (contents : List ℕ) → (told : NameLists) × ((names : NameLists) → TellNames locals contents names ↔ (told ≡ names))
names_are_told locals contents = (names_of_section locals contents, told_are_read locals contents)

-- the names that the contents of a name section tell, those of locals where the caller requires
-- them
abbrev pub names_told : Bool → List ℕ → NameLists
names_told locals contents = (names_are_told locals contents).0

-- any contents spell one list of hints, or, with a fault anywhere, none
pub hints_are_told : (contents : List ℕ) → (told : Option (List (ℕ × List Hint)))
    × ((hints : List (ℕ × List Hint)) → hint_section.spells contents hints ↔ (told ≡ Some hints))
hints_are_told contents = (hints_of_section contents, λ hints. (section_read contents hints, section_spelled contents hints))

-- the hints that the contents of a section of hints tell
abbrev pub hints_told : List ℕ → Option (List (ℕ × List Hint))
hints_told contents = (hints_are_told contents).0
