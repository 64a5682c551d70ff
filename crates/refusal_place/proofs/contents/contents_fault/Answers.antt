use Rattle.std.proofs.Common.{refl, sym, subst}
use Rattle.form_reader.specs.Rows.{unsigned}
use Rattle.form_reader.specs.TypeRows.{group, memory_type, tag_type}
use Rattle.form_reader.specs.SectionRows.{import_entry, table_entry, global_entry, export_entry, element_segment, body, data_segment}
use Rattle.refusal_place.specs.Found.{AreUnread}
use Rattle.refusal_place.specs.declared.kind.SectionKind.TheVariants as kind
use Rattle.refusal_place.proofs.ContentLaws.{shortens, found_in, wrong_number}
use Rattle.refusal_place.proofs.contents.contents_fault.Goals as goal

pub returns-in-Start : goal.returns-in-Start
returns-in-Start c = wrong_number c.args.section c.args.contents.now c.at_start.result c.in-Start.is c.requires.unread c.at_start.ensures

pub entries_fault-requires : goal.entries_fault-requires
entries_fault-requires c = λ k. ((refl, tt), (shortens _ _ group.agrees, subst (λ s. AreUnread s c.args.contents.now) c.in-Type.is c.requires.unread))

pub returns-in-Type : goal.returns-in-Type
returns-in-Type c =
    found_in _ _ group.agrees kind.Type (λ P h. h) c.args.section c.args.contents.now c.entries_fault.result (sym c.in-Type.is)
    c.entries_fault.ensures

pub entries_fault-requires-in-Import : goal.entries_fault-requires-in-Import
entries_fault-requires-in-Import c = λ k. ((refl, tt), (shortens _ _ import_entry.agrees, subst (λ s. AreUnread s c.args.contents.now) c.in-Import.is c.requires.unread))

pub returns-in-Import : goal.returns-in-Import
returns-in-Import c =
    found_in _ _ import_entry.agrees kind.Import (λ P h. h) c.args.section c.args.contents.now c.entries_fault-in-Import.result (sym c.in-Import.is)
    c.entries_fault-in-Import.ensures

pub entries_fault-requires-in-Function : goal.entries_fault-requires-in-Function
entries_fault-requires-in-Function c = λ k. ((refl, tt), (shortens _ _ (unsigned 32).agrees, subst (λ s. AreUnread s c.args.contents.now) c.in-Function.is c.requires.unread))

pub returns-in-Function : goal.returns-in-Function
returns-in-Function c =
    found_in _ _ (unsigned 32).agrees kind.Function (λ P h. h) c.args.section c.args.contents.now c.entries_fault-in-Function.result (sym c.in-Function.is)
    c.entries_fault-in-Function.ensures

pub entries_fault-requires-in-Table : goal.entries_fault-requires-in-Table
entries_fault-requires-in-Table c = λ k. ((refl, tt), (shortens _ _ table_entry.agrees, subst (λ s. AreUnread s c.args.contents.now) c.in-Table.is c.requires.unread))

pub returns-in-Table : goal.returns-in-Table
returns-in-Table c =
    found_in _ _ table_entry.agrees kind.Table (λ P h. h) c.args.section c.args.contents.now c.entries_fault-in-Table.result (sym c.in-Table.is)
    c.entries_fault-in-Table.ensures

pub entries_fault-requires-in-Memory : goal.entries_fault-requires-in-Memory
entries_fault-requires-in-Memory c = λ k. ((refl, tt), (shortens _ _ memory_type.agrees, subst (λ s. AreUnread s c.args.contents.now) c.in-Memory.is c.requires.unread))

pub returns-in-Memory : goal.returns-in-Memory
returns-in-Memory c =
    found_in _ _ memory_type.agrees kind.Memory (λ P h. h) c.args.section c.args.contents.now c.entries_fault-in-Memory.result (sym c.in-Memory.is)
    c.entries_fault-in-Memory.ensures

pub entries_fault-requires-in-Tag : goal.entries_fault-requires-in-Tag
entries_fault-requires-in-Tag c = λ k. ((refl, tt), (shortens _ _ tag_type.agrees, subst (λ s. AreUnread s c.args.contents.now) c.in-Tag.is c.requires.unread))

pub returns-in-Tag : goal.returns-in-Tag
returns-in-Tag c =
    found_in _ _ tag_type.agrees kind.Tag (λ P h. h) c.args.section c.args.contents.now c.entries_fault-in-Tag.result (sym c.in-Tag.is)
    c.entries_fault-in-Tag.ensures

pub entries_fault-requires-in-Global : goal.entries_fault-requires-in-Global
entries_fault-requires-in-Global c = λ k. ((refl, tt), (shortens _ _ global_entry.agrees, subst (λ s. AreUnread s c.args.contents.now) c.in-Global.is c.requires.unread))

pub returns-in-Global : goal.returns-in-Global
returns-in-Global c =
    found_in _ _ global_entry.agrees kind.Global (λ P h. h) c.args.section c.args.contents.now c.entries_fault-in-Global.result (sym c.in-Global.is)
    c.entries_fault-in-Global.ensures

pub entries_fault-requires-in-Export : goal.entries_fault-requires-in-Export
entries_fault-requires-in-Export c = λ k. ((refl, tt), (shortens _ _ export_entry.agrees, subst (λ s. AreUnread s c.args.contents.now) c.in-Export.is c.requires.unread))

pub returns-in-Export : goal.returns-in-Export
returns-in-Export c =
    found_in _ _ export_entry.agrees kind.Export (λ P h. h) c.args.section c.args.contents.now c.entries_fault-in-Export.result (sym c.in-Export.is)
    c.entries_fault-in-Export.ensures

pub entries_fault-requires-in-Element : goal.entries_fault-requires-in-Element
entries_fault-requires-in-Element c = λ k. ((refl, tt), (shortens _ _ element_segment.agrees, subst (λ s. AreUnread s c.args.contents.now) c.in-Element.is c.requires.unread))

pub returns-in-Element : goal.returns-in-Element
returns-in-Element c =
    found_in _ _ element_segment.agrees kind.Element (λ P h. h) c.args.section c.args.contents.now c.entries_fault-in-Element.result (sym c.in-Element.is)
    c.entries_fault-in-Element.ensures

pub entries_fault-requires-in-Code : goal.entries_fault-requires-in-Code
entries_fault-requires-in-Code c = λ k. ((refl, tt), (shortens _ _ body.agrees, subst (λ s. AreUnread s c.args.contents.now) c.in-Code.is c.requires.unread))

pub returns-in-Code : goal.returns-in-Code
returns-in-Code c =
    found_in _ _ body.agrees kind.Code (λ P h. h) c.args.section c.args.contents.now c.entries_fault-in-Code.result (sym c.in-Code.is)
    c.entries_fault-in-Code.ensures

pub entries_fault-requires-in-Data : goal.entries_fault-requires-in-Data
entries_fault-requires-in-Data c = λ k. ((refl, tt), (shortens _ _ data_segment.agrees, subst (λ s. AreUnread s c.args.contents.now) c.in-Data.is c.requires.unread))

pub returns-in-Data : goal.returns-in-Data
returns-in-Data c =
    found_in _ _ data_segment.agrees kind.Data (λ P h. h) c.args.section c.args.contents.now c.entries_fault-in-Data.result (sym c.in-Data.is)
    c.entries_fault-in-Data.ensures
