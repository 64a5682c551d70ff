use Rattle.wasm_spec.specs.Module.{Module}
use Rattle.module_types.specs.Builder.{builder_view}
use Rattle.interned_types.specs.Types.{AreTypesOf}
use Rattle.interned_types.proofs.InTurn.{Interns}
use Rattle.interned_types.proofs.types.intern_types.Given as goal

abbrev pub invariant-loop-place : goal.invariant-loop-place
invariant-loop-place l = (m : Module) → (of : AreTypesOf m l.types) → Interns m l.types of (builder_view l.builder) l.place l.indices
