use Rattle.std.proofs.Common.{◌∙◌}
use Rattle.module_sections.proofs.ExportsInTurn.{same-atom, entered-more}
use Rattle.module_sections.proofs.exports.add_export.Goals as goal

pub returns : goal.returns
returns c = λ before was.
    entered-more _ same-atom before _ c.args.entries.now.entries c.insert.new.self.entries c.atom-name.result c.exported_entity.result
    (c.atom-name.ensures ∙ c.len.ensures.len) c.exported_entity.ensures c.in_ok-insert.ensures.entries was
