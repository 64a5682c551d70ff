-- The names that a name section tells.
use Rattle.std.specs.Prelude.{ℕ, List, [], ◌∷◌, ◌++◌, Option, None}
use Rattle.std.specs.Option.{option_or}

-- names in the order of the section
pub record NameLists : Type 0 where
  -- the last name of the module
  pub module_name : Option (List ℕ)
  pub functions : List (ℕ × List ℕ)
  pub locals : List (ℕ × List (ℕ × List ℕ))

abbrev pub no_names : NameLists
no_names = record { module_name = None; functions = []; locals = [] }

-- names, and later ones
abbrev pub joined : NameLists → NameLists → NameLists
joined names later = record {
  module_name = option_or later.module_name names.module_name;
  functions = names.functions ++ later.functions;
  locals = names.locals ++ later.locals;
}

abbrev pub joined_all : List NameLists → NameLists
joined_all [] = no_names
joined_all (names ∷ later) = joined names (joined_all later)
