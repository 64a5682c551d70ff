-- What evaluation reads, and what it changes.
use Rattle.std.specs.Prelude.{◌≡◌, ℕ, List, length, All}
use Rattle.wasm_spec.specs.Module.{Expression}
use Rattle.replay_spec.specs.Values as plain
use Rattle.replay_spec.specs.Values.{offset_over}
use Rattle.plan_run.specs.declared.evaluation.Evaluator.{Evaluator}
use Rattle.plan_run.specs.Fields.{field_count_in}
use Rattle.plan_run.specs.Nodes.{Extends}
use Rattle.plan_run.specs.Values.{values_in, terms_of, NamesBelow, AreOrdered}

-- the values of the globals
abbrev pub globals_of : Evaluator → List plain.Value
globals_of e = values_in (terms_of e.nodes.items) e.globals.items

-- how many fields the struct type of an index has
abbrev pub fields_of : Evaluator → ℕ → ℕ
fields_of e = field_count_in e.translation.now e.types.now

-- the position that an offset names
abbrev pub offset_position : Evaluator → Expression → ℕ
offset_position e = offset_over (globals_of e) (fields_of e)

-- each node names only nodes before it, and each global only a node that there is
pub record EvaluatorIsSound (e : Evaluator) : Type 0 where
  pub ordered : AreOrdered e.nodes.items
  pub globals : All (NamesBelow (length e.nodes.items)) e.globals.items

-- nodes are appended, and nothing else is changed: the globals represent what they represented
pub record Grows (old new : Evaluator) : Type 0 where
  pub extends : Extends old.nodes.items new.nodes.items
  pub sound : EvaluatorIsSound new
  pub globals : new.globals ≡ old.globals
  pub values : globals_of new ≡ globals_of old
  pub translation : new.translation ≡ old.translation
  pub types : new.types ≡ old.types
