-- The views of the types of this crate.
use Rattle.std.specs.Prelude.{ℕ, List, map}
use Rattle.std.specs.Option.{option_map}
use Rattle.std.specs.Borrow.{Bor}
use Rattle.std.specs.Global.{Vec}
use Rattle.custom_sections.specs.declared.hints.Hint.{Hint}
use Rattle.custom_sections.specs.declared.names.SectionNames.{SectionNames}
use Rattle.custom_sections.specs.NameLists.{NameLists}

-- a function with its hints
abbrev pub hint_entry_of : ℕ × Vec Hint → ℕ × List Hint
hint_entry_of e = (e.0, e.1.items)

-- the text of an index
abbrev pub text_of : ℕ × Bor (List ℕ) → ℕ × List ℕ
text_of e = (e.0, e.1.now)

-- a function with the names of its locals
abbrev pub locals_of : ℕ × Vec (ℕ × Bor (List ℕ)) → ℕ × List (ℕ × List ℕ)
locals_of e = (e.0, map text_of e.1.items)

abbrev pub names_of : SectionNames → NameLists
names_of n = record {
  module_name = option_map (λ text. text.now) n.module_name;
  functions = map text_of n.functions.items;
  locals = map locals_of n.locals.items;
}
