-- Small expressions and modules, for the worked examples.
use Rattle.std.specs.Prelude.{pos, negsuc, ℕ, [], ◌∷◌, ◌++◌, ◌-◌, replicate}
use Rattle.wasm_spec.specs.declared.operators.Operator.TheVariants.{I32Const, I32Add}
use Rattle.wasm_spec.specs.declared.types.HeapType.{HeapType}
use Rattle.wasm_spec.specs.declared.types.HeapType.TheVariants.{Abstract}
use Rattle.wasm_spec.specs.declared.types.AbstractHeapType.TheVariants.{Any, Func}
use Rattle.wasm_spec.specs.Module.{Expression, Module}
use Rattle.rule_spec.specs.WorkedKept.{segment_at, with_segments}

abbrev pub any_heap : HeapType
any_heap = Abstract Any

abbrev pub function_heap : HeapType
function_heap = Abstract Func

-- n ones, and then the additions that leave their sum
abbrev pub ones_added : ℕ → Expression
ones_added n = replicate n (I32Const (pos 1)) ++ replicate (n - 1) I32Add

-- the overlapping segments, and then an empty segment at -1
abbrev pub ends_at_minus_one : Module
ends_at_minus_one = with_segments (segment_at (pos 16) (1 ∷ 2 ∷ 3 ∷ []) ∷ segment_at (pos 17) (9 ∷ []) ∷ segment_at (negsuc 0) [] ∷ [])

-- an empty segment at the end of the memory, and one after it
abbrev pub empty_past_the_end : Module
empty_past_the_end = with_segments (segment_at (pos 65536) [] ∷ segment_at (pos 65537) [] ∷ [])
