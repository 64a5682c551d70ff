use Rattle.std.proofs.Common.{◌++◌, ◌∙◌, List, map, ap, sym}
use Rattle.std.proofs.lemmas.List.{take_all}
use Rattle.wasm_spec.specs.declared.entities.TableType.{TableType}
use Rattle.form_reader.specs.declared.form.TableDef.{TableDef}
use Rattle.form_rules.proofs.Gathering.{types_of_tables}
use Rattle.form_rules.proofs.gather.add_tables.Goals as goal

pub returns : goal.returns
returns c = c.loop-table.invariant
    ∙ ap (λ (ts : List TableDef). c.args.types.now.items ++ map (λ (t : TableDef). t.ty) ts) (take_all _ c.args.tables.now c.loop-table-test.false)
    ∙ ap (λ (us : List TableType). c.args.types.now.items ++ us) (sym (types_of_tables c.args.tables.now))
