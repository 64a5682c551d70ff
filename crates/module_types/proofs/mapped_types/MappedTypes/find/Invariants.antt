use Rattle.std.proofs.Common.{length}
use Rattle.wasm_types.specs.Trampolines.{trampoline_of}
use Rattle.module_types.specs.MappedTypes.{digest_of, mapped_keys, Leads}
use Rattle.module_types.proofs.mapped_types.MappedTypes.find.Given as goal

-- the rest of the chain leads to the type wherever it is
abbrev pub invariant-loop-left : goal.invariant-loop-left
invariant-loop-left l =
    let rs = mapped_keys l.list.types l.self.types.items in
    Leads (digest_of l.self.hasher) rs (trampoline_of l.func) l.left (length rs)

abbrev pub decreases-loop-left : goal.decreases-loop-left
decreases-loop-left l = l.left
