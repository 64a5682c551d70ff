-- Reading of branch hints agrees with their grammar.
use Rattle.std.proofs.Common.{arith, ◌≡◌, ℕ, List, length, Some, None, refl, ap, sym, ◌∙◌}
use Rattle.std.specs.Prelude.{true, false, ◌==◌}
use Rattle.std.specs.Result.{result_ok}
use Rattle.std.proofs.lemmas.Bool.{eq-eqb, ne_eqb}
use Rattle.form_reader.specs.Reading.{whole}
use Rattle.form_reader.specs.ReadingNumbers.{unsigned_at, vector_at}
use Rattle.form_reader.specs.Agrees.{Agrees, Fills, gives_agrees, nothing_agrees, then_agrees, choose_agrees, first_byte_agrees, whole_fills}
use Rattle.form_reader.specs.NumberLaws.{unsigned_agrees, vector_agrees}
use Rattle.custom_sections.specs.declared.hints.Hint.{Hint}
use Rattle.custom_sections.specs.HintGrammar as grammar
use Rattle.custom_sections.specs.HintReading.{likely_at, hint_at, hint_entry_at, hints_of_section}
use Rattle.form_reader.proofs.Taken.{was_read, was_not_read}
use Rattle.std.proofs.lemmas.Option.{none-some, same_Some}

likely_agrees : (b : ℕ) → Agrees (likely_at b) (grammar.likely b)
likely_agrees b = choose_agrees (b == 0x01) (first_byte_agrees (λ c.
    choose_agrees (c == 0x00) (gives_agrees false) (choose_agrees (c == 0x01) (gives_agrees true) nothing_agrees))) nothing_agrees

hint_agrees : Agrees hint_at grammar.hint
unfolding hint_at
hint_agrees = then_agrees (unsigned_agrees 32) (λ offset. then_agrees (first_byte_agrees likely_agrees) (λ taken. gives_agrees _))

hint_entry_agrees : Agrees hint_entry_at grammar.hint_entry
unfolding hint_entry_at
hint_entry_agrees = then_agrees (unsigned_agrees 32) (λ function. then_agrees (vector_agrees hint_agrees) (λ hints. gives_agrees _))

section_agrees : Agrees (vector_at hint_entry_at) grammar.hint_section
section_agrees = vector_agrees hint_entry_agrees

whole_section : Fills (whole (vector_at hint_entry_at)) grammar.hint_section
whole_section = whole_fills section_agrees

-- what is read is spelled
pub section_spelled : (bytes : List ℕ) (es : List (ℕ × List Hint)) → hints_of_section bytes ≡ Some es → grammar.hint_section.spells bytes es
section_spelled bytes es e = whole_section.found bytes es (was_read es (whole (vector_at hint_entry_at) bytes) (sym e))

-- what is spelled is read
pub section_read : (bytes : List ℕ) (es : List (ℕ × List Hint)) → grammar.hint_section.spells bytes es → hints_of_section bytes ≡ Some es
section_read bytes es s = ap result_ok (whole_section.again bytes es s)

-- ---- an entry, step by step

pub entry_taken : (bytes : List ℕ) (function : ℕ) (rest : List ℕ) (hints : List Hint) (after : List ℕ)
    → Some (function, rest) ≡ result_ok (unsigned_at 32 bytes) → Some (hints, after) ≡ result_ok (vector_at hint_at rest)
    → Some ((function, hints), after) ≡ result_ok (hint_entry_at bytes)
unfolding hint_entry_at
entry_taken bytes function rest hints after e f = grind (arith, was_read)

pub no_function : (bytes : List ℕ) → None ≡ result_ok (unsigned_at 32 bytes) → None ≡ result_ok (hint_entry_at bytes)
unfolding hint_entry_at
no_function bytes e = let f = was_not_read (unsigned_at 32 bytes) e in rw f.1 refl

pub no_hints : (bytes : List ℕ) (function : ℕ) (rest : List ℕ)
    → Some (function, rest) ≡ result_ok (unsigned_at 32 bytes) → None ≡ result_ok (vector_at hint_at rest) → None ≡ result_ok (hint_entry_at bytes)
unfolding hint_entry_at
no_hints bytes function rest e n = grind (arith, was_not_read, was_read)

-- ---- the outcome

abbrev Entries : Type 0
Entries = List (ℕ × List Hint)

module _ (bytes : List ℕ) where
  pub read_whole : (es : Entries) (rest : List ℕ) → Some (es, rest) ≡ result_ok (vector_at hint_entry_at bytes) → length rest ≡ 0
      → Some es ≡ hints_of_section bytes
  unfolding whole
  read_whole es rest e none = rw (was_read (es, rest) (vector_at hint_entry_at bytes) e, eq-eqb (length rest) 0 none) refl

  pub not_with_rest : (es : Entries) (rest : List ℕ) → Some (es, rest) ≡ result_ok (vector_at hint_entry_at bytes) → ¬ (length rest ≡ 0)
      → None ≡ hints_of_section bytes
  unfolding whole
  not_with_rest es rest e more = rw (was_read (es, rest) (vector_at hint_entry_at bytes) e, ne_eqb (length rest) 0 more) refl

  pub not_with_fault : None ≡ result_ok (vector_at hint_entry_at bytes) → None ≡ hints_of_section bytes
  unfolding whole
  not_with_fault e = let f = was_not_read (vector_at hint_entry_at bytes) e in rw f.1 refl

  -- what is read is all that is spelled
  pub only_read : (es fs : Entries) → Some es ≡ hints_of_section bytes → grammar.hint_section.spells bytes fs → es ≡ fs
  only_read es fs e s = same_Some {A = Entries} es fs (e ∙ section_read bytes fs s)

  -- what is not read is not spelled
  pub not_spelled : (fs : Entries) → None ≡ hints_of_section bytes → ¬ grammar.hint_section.spells bytes fs
  not_spelled fs e s = none-some {A = Entries} fs (e ∙ section_read bytes fs s)
