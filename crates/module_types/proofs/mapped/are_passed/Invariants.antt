use Rattle.std.proofs.Common.{◌≡◌, map, length}
use Rattle.std.specs.Cmp.Lexicographic.{pointwise}
use Rattle.wasm_types.specs.contracts.value.WasmValTypePartialEq.TheImpl as values
use Rattle.wasm_types.specs.Trampolines.{trampoline_val}
use Rattle.module_types.proofs.mapped.are_passed.Given as goal

abbrev pub invariant-loop-ty : goal.invariant-loop-ty
invariant-loop-ty l =
    (pointwise values.ghosts.eq (map trampoline_val l.types) l.others ≡ pointwise values.ghosts.eq (map trampoline_val l.ty-iterator.a.rest.now) l.ty-iterator.b.rest.now)
    × (length l.ty-iterator.a.rest.now ≡ length l.ty-iterator.b.rest.now)
