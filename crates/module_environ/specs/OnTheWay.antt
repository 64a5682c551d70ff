-- The state of a builder where the translation of bytes stops early.
use Rattle.std.specs.Prelude.{◌≡◌, ◌⊎◌, ℕ, false, List}
use Rattle.wasm_spec.specs.Module as plain
use Rattle.rule_spec.specs.Rules.{Keeps}
use Rattle.module_types.specs.Builder.{BuilderState, builder_view}
use Rattle.module_environ.specs.Readable.{IsReadable}
use Rattle.interned_types.specs.OnTheWay.{IsOnTheWay}

-- where it is not poisoned it is unchanged, or in a state of processing the module that the bytes
-- spell
abbrev pub StopsOnTheWay : ℕ → List ℕ → BuilderState → BuilderState → Type 0
StopsOnTheWay validator bytes old new = new.is_poisoned ≡ false
    → (new ≡ old) ⊎ ((m : plain.Module) × IsReadable bytes m × Keeps m × IsOnTheWay m validator (builder_view new))
