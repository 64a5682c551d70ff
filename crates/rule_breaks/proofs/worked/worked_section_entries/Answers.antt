use Rattle.std.proofs.Common.{◌≡◌, ◌+◌, ◌<◌, ◌≤◌, refl, arith, inl, inr}
use Rattle.rule_breaks.proofs.WorkedEntries.{narrow_is_first}
use Rattle.rule_breaks.proofs.worked.worked_section_entries.Goals as goal

pub returns-clause-breaks : goal.returns-clause-breaks
returns-clause-breaks c = narrow_is_first

pub returns-clause-imported : goal.returns-clause-imported
returns-clause-imported c =
    inl (omega arith, refl, record { import = _; imported = _; stands = refl; is_of_kind = refl; before = refl })

pub returns-clause-not_imported : goal.returns-clause-not_imported
returns-clause-not_imported c = λ is. elim is [
  | inl first ↦ let below : 1 < 1 = first.0 in omega (arith, below)
  | inr defined ↦ absurd (let same = defined.0 in cc)
]

pub returns-clause-not_the_index : goal.returns-clause-not_the_index
returns-clause-not_the_index c = λ is. elim is [
  | inl first ↦ let below : 1 < 1 = first.0 in omega (arith, below)
  | inr defined ↦ let counted : 1 + 1 ≡ 1 = defined.1 in omega (arith, counted)
]

pub returns-clause-second_group : goal.returns-clause-second_group
returns-clause-second_group c = record { begins = omega arith; ends = omega arith }

pub returns-clause-not_the_first_group : goal.returns-clause-not_the_first_group
returns-clause-not_the_first_group c = λ g. let ends : 2 < 2 = g.ends in omega (arith, ends)

pub returns-clause-not_the_index_of_the_type : goal.returns-clause-not_the_index_of_the_type
returns-clause-not_the_index_of_the_type c = λ g. let begins : 2 ≤ 1 = g.begins in omega (arith, begins)
