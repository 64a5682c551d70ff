-- The numbers of functions, kept with the list of the recorded ones.
use Rattle.std.specs.Prelude.{◌≡◌, ℕ, ◌<◌, ◌==◌, List, length, get_or, All}
use Rattle.std.specs.List.{position_or_len}
use Rattle.module_sections.specs.Escapes.{number_among}

-- each entry is at its first position: no number occurs twice
abbrev pub StandOnce : List ℕ → Type 0
StandOnce order = (place : ℕ) → place < length order → position_or_len (λ k. k == get_or order place 0) order ≡ place

-- each function has its number among the recorded ones, which are functions, each once
pub record AreNumbers (numbers order : List ℕ) : Type 0 where
  pub number : (f : ℕ) → f < length numbers → get_or numbers f 0 ≡ number_among order f
  pub met : All (λ f. f < length numbers) order
  pub once : StandOnce order
  pub few : length numbers < 4294967295
