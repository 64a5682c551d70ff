-- The first values of globals, as they are gathered.
use Rattle.std.specs.Prelude.{◌≡◌, ℕ, ◌+◌, is_none, List, [], ◌∷◌, ◌++◌, length, map, Option, if◌then◌else◌}
use Rattle.std.specs.Option.{option_map, option_to_list}
use Rattle.wasm_convert.specs.declared.operators.ConstOp.{ConstOp}
use Rattle.wasm_convert.specs.Constants.{expression_of}
use Rattle.replay_spec.specs.Values.{Value, const_value}
use Rattle.module_sections.specs.declared.globals.FirstGlobals.{FirstGlobals}
use Rattle.init_plan.specs.Held.{simple_global_of}
use Rattle.module_sections.specs.Initialisers.{view_initialiser}

-- each global is in one of the lists
abbrev pub seen_globals : FirstGlobals → ℕ
seen_globals g = length g.known.items + length g.left.items

abbrev pub view_known : FirstGlobals → List (ℕ × Value)
view_known g = map simple_global_of g.known.items

abbrev pub view_left : FirstGlobals → List (ℕ × List ConstOp)
view_left g = map (view_initialiser (λ e. e)) g.left.items

-- where the value of the initialiser of the next global is this one, if it is known
abbrev pub known_next : ℕ → Option Value → List (ℕ × Value)
known_next number value = option_to_list (option_map (λ v. (number, v)) value)

abbrev pub left_next : ℕ → List ConstOp → Option Value → List (ℕ × List ConstOp)
left_next number ops value = if is_none value then (number, ops) ∷ [] else []

-- the global of an initialiser is added
pub record AddsInitialiser (old new : FirstGlobals) (ops : List ConstOp) : Type 0 where
  pub known : view_known new ≡ view_known old ++ known_next (seen_globals old) (const_value (expression_of ops))
  pub left : view_left new ≡ view_left old ++ left_next (seen_globals old) ops (const_value (expression_of ops))
  pub counted : seen_globals new ≡ seen_globals old + 1
