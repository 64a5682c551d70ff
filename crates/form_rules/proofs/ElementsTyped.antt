-- Element segments, typed part by part.
use Rattle.std.proofs.Common.{◌↔◌, Bool, IsTrue, Result, Ok, Err}
use Rattle.std.specs.Result.{IfOk}
use Rattle.std.specs.declared.alloc.AllocError.{AllocError}
use Rattle.wasm_spec.specs.Module as plain
use Rattle.rule_spec.specs.Lists.{Lists}
use Rattle.rule_spec.specs.Expressions.{HasTableOffset, HasTypedItems, IsElementTyped}

-- the items, where the offset is typed
pub with_offset : (l : Lists) (r : Result Bool AllocError) (e : plain.Element) → IfOk r (λ b. IsTrue b ↔ HasTypedItems l e.items) → HasTableOffset l e.kind
    → IfOk r (λ b. IsTrue b ↔ IsElementTyped l e)
with_offset l (Ok b) e tells typed = ((λ answered. record { offset = typed; items = tells.0 answered }), (λ all. tells.1 all.items))
with_offset l (Err error) e tells typed = tt
