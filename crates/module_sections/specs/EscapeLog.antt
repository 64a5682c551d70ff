-- The functions to which references were made so far.
use Rattle.std.specs.Prelude.{ℕ, List}
use Rattle.entity_map.specs.Firsts.{firsts_after}

-- how many functions there are, and those that were recorded, in the order of the first cause
pub record EscapeLog : Type 0 where
  pub count : ℕ
  pub order : List ℕ

-- more references, in order
abbrev pub after_escapes : EscapeLog → List ℕ → EscapeLog
after_escapes f functions = record { count = f.count; order = firsts_after f.order functions }
