use Rattle.std.proofs.Common.{◌++◌, ◌∙◌, List, map, ap, sym}
use Rattle.std.proofs.lemmas.List.{take_all}
use Rattle.wasm_spec.specs.declared.entities.GlobalType.{GlobalType}
use Rattle.form_reader.specs.declared.form.GlobalDef.{GlobalDef}
use Rattle.form_rules.proofs.Gathering.{types_of_globals}
use Rattle.form_rules.proofs.gather.add_globals.Goals as goal

pub returns : goal.returns
returns c = c.loop-global.invariant
    ∙ ap (λ (gs : List GlobalDef). c.args.types.now.items ++ map (λ (g : GlobalDef). g.ty) gs) (take_all _ c.args.globals.now c.loop-global-test.false)
    ∙ ap (λ (us : List GlobalType). c.args.types.now.items ++ us) (sym (types_of_globals c.args.globals.now))
