use Rattle.std.proofs.lemmas.Grind.{common_steps}
use Rattle.std.proofs.Common.{arith, ◌∙◌, map, ap}
use Rattle.std.proofs.lemmas.Result.{on_ok_weaker}
use Rattle.wasm_index.specs.Index.{number_of}
use Rattle.module_types.specs.Views.{field_at}
use Rattle.module_types.specs.Interner.{built}
use Rattle.module_types.proofs.Steps.{composite-read, no-function, exception-made}
use Rattle.module_types.proofs.interner.Interner.push_exception.Goals as goal

pub unreachable-requires : goal.unreachable-requires
unreachable-requires c = grind (arith, common_steps, no-function)

pub returns-clause-built : goal.returns-clause-built
returns-clause-built c =
    let kind = composite-read c.args.self.now.list.types (number_of c.args.function) c.index.result.now c.index.ensures _ c.in-Func.is in
    let made = exception-made (built c.args.self.now) (number_of c.args.function) c.in-Func.func kind c.in_ok-fields.fields.items
    (c.in_ok-fields.ensures ∙ ap (map field_at) c.params.ensures.listed) in
    on_ok_weaker c.push_alone.result (λ built. built ∙ made) c.push_alone.ensures.built
