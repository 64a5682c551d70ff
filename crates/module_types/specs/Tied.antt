-- Trampolines, and the types by which functions are called.
use Rattle.std.specs.Prelude.{◌≡◌, ◌<◌, ℕ, get_or, length, Option, Some, None, IsSome}
use Rattle.wasm_spec.specs.TypeData.{Func}
use Rattle.type_spec.specs.Interned.{Called, Built, mapped, composite_at}

-- the trampoline of the type at an index
abbrev pub trampoline_in : Built → ℕ → Option ℕ
trampoline_in b i = get_or b.trampolines i None

abbrev pub HasTrampoline : Built → ℕ → Type 0
HasTrampoline b i = IsSome (trampoline_in b i)

-- each function below an index has a trampoline
abbrev pub HaveTrampolines : ℕ → Built → Type 0
HaveTrampolines bound b = (i : ℕ) (f : Called) → i < bound → composite_at b.types i ≡ Func f → HasTrampoline b i

-- a function's trampoline is where its mapped type was recorded, and the type there is the mapped
-- type
pub record IsTied (b : Built) : Type 0 where
  pub sized : length b.trampolines ≡ length b.types
  pub known : (f : Called) (k : ℕ) → b.known_trampolines (mapped f) ≡ Some k → (k < length b.types) × (composite_at b.types k ≡ Func (mapped f))
  pub called : (i k : ℕ) (f : Called) → trampoline_in b i ≡ Some k → composite_at b.types i ≡ Func f → b.known_trampolines (mapped f) ≡ Some k
