use Rattle.std.proofs.Common.{sym}
use Rattle.std.proofs.lemmas.List.{map-id}
use Rattle.form_reader.specs.SectionRows.{global_entry}
use Rattle.form_reader.proofs.Listed.{parts_listed}
use Rattle.form_rules.proofs.gather.add_input_globals.Goals as goal

pub returns : goal.returns
returns c =
    let kept = c.append_to.ensures in
    rw (
      sym (parts_listed global_entry.read (λ g. g.type) c.args.globals.count c.args.globals.bytes.now),
      sym (map-id c.append_to.new.list.items),
      sym (map-id c.args.types.now.items),
    ) kept
