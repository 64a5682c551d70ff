-- The globals phase: the first values of a module's globals, and what a plan leaves in them (core
-- specification, 4.7, instantiation).
use Rattle.std.specs.Prelude.{◌≡◌, ℕ, ◌+◌, ◌<◌, List, [], ◌∷◌, ◌++◌, length, map, replicate, set, is_none, All, Option, None, Some, if◌then◌else◌}
use Rattle.std.specs.List.{filter_map, enumerate_from}
use Rattle.std.specs.Option.{option_map}
use Rattle.wasm_spec.specs.declared.operators.Operator.{Operator}
use Rattle.wasm_spec.specs.declared.operators.Operator.TheVariants.{GlobalGet}
use Rattle.wasm_spec.specs.Module.{Expression}
use Rattle.rule_spec.specs.Lists.{Lists}
use Rattle.replay_spec.specs.Values.{Value, Ref, Null, const_value}
use Rattle.replay_spec.specs.Elements.{cell_of}

-- ---- of a module

-- the first values of the defined globals, in order
abbrev pub initialisers : Lists → List Expression
initialisers l = map (λ g. g.init) l.globals

-- the values of globals that are known, and then of each initialiser over the values before it
abbrev pub values_after : (ℕ → ℕ) → List Value → List Expression → List Value
values_after fields known [] = known
values_after fields known (e ∷ es) = values_after fields (known ++ cell_of known fields e ∷ []) es

-- an operator reads only globals of lower index
abbrev pub ReadsBelow : ℕ → Operator → Type 0
ReadsBelow n (GlobalGet g) = g < n
ReadsBelow n _ = Unit {0}

-- each initialiser reads only globals before its own; the first has that index
abbrev pub ReadEarlier : ℕ → List Expression → Type 0
ReadEarlier n [] = Unit {0}
ReadEarlier n (e ∷ es) = All (ReadsBelow n) e × ReadEarlier (n + 1) es

-- ---- of a plan

-- what a plan says of the defined globals, by their indices among those: the values that are known
-- before any code runs, and the initialisers that are kept
pub record GlobalPlan : Type 0 where
  pub count : ℕ
  pub simple : List (ℕ × Value)
  pub kept : List (ℕ × Expression)

-- the simple values are written
abbrev pub simple_written : ℕ → List Value → List (ℕ × Value) → List Value
simple_written imports known [] = known
simple_written imports known (g ∷ gs) = simple_written imports (set known (imports + g.0) g.1) gs

-- the kept initialisers are written in order, each by its value over what is known so far
abbrev pub kept_written : (ℕ → ℕ) → ℕ → List Value → List (ℕ × Expression) → List Value
kept_written fields imports known [] = known
kept_written fields imports known (g ∷ gs) = kept_written fields imports (set known (imports + g.0) (cell_of known fields g.1)) gs

-- the imported values, then the simple ones, then the kept ones; a global that is not written yet is null
abbrev pub planned_globals : (ℕ → ℕ) → List Value → GlobalPlan → List Value
planned_globals fields imported plan =
    kept_written fields (length imported) (simple_written (length imported) (imported ++ replicate plan.count (Ref Null)) plan.simple) plan.kept

-- ---- the plan of a module

-- an initialiser with a constant value is simple
abbrev pub simple_of : ℕ × Expression → Option (ℕ × Value)
simple_of g = option_map (λ v. (g.0, v)) (const_value g.1)

-- and any other is kept
abbrev pub kept_of : ℕ × Expression → Option (ℕ × Expression)
kept_of g = if is_none (const_value g.1) then Some g else None

pub record IsGlobalPlan (initialisers : List Expression) (plan : GlobalPlan) : Type 0 where
  pub count : plan.count ≡ length initialisers
  pub simple : plan.simple ≡ filter_map simple_of (enumerate_from 0 initialisers)
  pub kept : plan.kept ≡ filter_map kept_of (enumerate_from 0 initialisers)

-- over any struct types and any values of a given number of imported globals, the plan gives each
-- global the value that the module gives it
abbrev pub AgreesOnGlobals : ℕ → List Expression → GlobalPlan → Type 0
AgreesOnGlobals imports initialisers plan = (fields : ℕ → ℕ) (imported : List Value) → length imported ≡ imports
    → planned_globals fields imported plan ≡ values_after fields imported initialisers
