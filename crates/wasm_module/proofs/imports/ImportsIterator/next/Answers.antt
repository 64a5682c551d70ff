use Rattle.std.proofs.lemmas.List.Elements.{All-tail}
use Rattle.wasm_module.specs.Imports.{IsResolved}
use Rattle.wasm_module.specs.Record.{record_of}
use Rattle.wasm_module.proofs.imports.ImportsIterator.next.Goals as goal

pub invariant_of-self : goal.invariant_of-self
invariant_of-self c =
    let here = rw c.in_ok-first.ensures.cases.0 at c.self.invariant in
    All-tail (IsResolved (record_of c.self.inside.module.now)) c.in_ok-first.first.now c.in_ok-first.others.now here
