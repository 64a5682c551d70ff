use Rattle.std.proofs.Common.{refl, sym}
use Rattle.form_reader.specs.Rows.{unsigned}
use Rattle.form_reader.specs.TypeRows.{group, memory_type, tag_type}
use Rattle.form_reader.specs.SectionRows.{import_entry, table_entry, global_entry, export_entry, element_segment, body, data_segment}
use Rattle.refusal_place.specs.declared.kind.SectionKind.TheVariants as kind
use Rattle.refusal_place.proofs.ContentLaws.{shortens}
use Rattle.refusal_place.proofs.EntryPlaces.{found_entry}
use Rattle.refusal_place.proofs.entry.entry_in_contents.Goals as goal

pub listed_entry-requires : goal.listed_entry-requires
listed_entry-requires c = λ k. ((refl, tt), shortens _ _ group.agrees)

pub returns-in-Type : goal.returns-in-Type
returns-in-Type c =
    found_entry _ _ group.agrees kind.Type (λ P h. h) c.args.section c.args.contents.now c.args.entry c.listed_entry.result (sym c.in-Type.is)
    c.listed_entry.ensures

pub listed_entry-requires-in-Import : goal.listed_entry-requires-in-Import
listed_entry-requires-in-Import c = λ k. ((refl, tt), shortens _ _ import_entry.agrees)

pub returns-in-Import : goal.returns-in-Import
returns-in-Import c =
    found_entry _ _ import_entry.agrees kind.Import (λ P h. h) c.args.section c.args.contents.now c.args.entry c.listed_entry-in-Import.result (sym c.in-Import.is)
    c.listed_entry-in-Import.ensures

pub listed_entry-requires-in-Function : goal.listed_entry-requires-in-Function
listed_entry-requires-in-Function c = λ k. ((refl, tt), shortens _ _ (unsigned 32).agrees)

pub returns-in-Function : goal.returns-in-Function
returns-in-Function c =
    found_entry _ _ (unsigned 32).agrees kind.Function (λ P h. h) c.args.section c.args.contents.now c.args.entry c.listed_entry-in-Function.result (sym c.in-Function.is)
    c.listed_entry-in-Function.ensures

pub listed_entry-requires-in-Table : goal.listed_entry-requires-in-Table
listed_entry-requires-in-Table c = λ k. ((refl, tt), shortens _ _ table_entry.agrees)

pub returns-in-Table : goal.returns-in-Table
returns-in-Table c =
    found_entry _ _ table_entry.agrees kind.Table (λ P h. h) c.args.section c.args.contents.now c.args.entry c.listed_entry-in-Table.result (sym c.in-Table.is)
    c.listed_entry-in-Table.ensures

pub listed_entry-requires-in-Memory : goal.listed_entry-requires-in-Memory
listed_entry-requires-in-Memory c = λ k. ((refl, tt), shortens _ _ memory_type.agrees)

pub returns-in-Memory : goal.returns-in-Memory
returns-in-Memory c =
    found_entry _ _ memory_type.agrees kind.Memory (λ P h. h) c.args.section c.args.contents.now c.args.entry c.listed_entry-in-Memory.result (sym c.in-Memory.is)
    c.listed_entry-in-Memory.ensures

pub listed_entry-requires-in-Tag : goal.listed_entry-requires-in-Tag
listed_entry-requires-in-Tag c = λ k. ((refl, tt), shortens _ _ tag_type.agrees)

pub returns-in-Tag : goal.returns-in-Tag
returns-in-Tag c =
    found_entry _ _ tag_type.agrees kind.Tag (λ P h. h) c.args.section c.args.contents.now c.args.entry c.listed_entry-in-Tag.result (sym c.in-Tag.is)
    c.listed_entry-in-Tag.ensures

pub listed_entry-requires-in-Global : goal.listed_entry-requires-in-Global
listed_entry-requires-in-Global c = λ k. ((refl, tt), shortens _ _ global_entry.agrees)

pub returns-in-Global : goal.returns-in-Global
returns-in-Global c =
    found_entry _ _ global_entry.agrees kind.Global (λ P h. h) c.args.section c.args.contents.now c.args.entry c.listed_entry-in-Global.result (sym c.in-Global.is)
    c.listed_entry-in-Global.ensures

pub listed_entry-requires-in-Export : goal.listed_entry-requires-in-Export
listed_entry-requires-in-Export c = λ k. ((refl, tt), shortens _ _ export_entry.agrees)

pub returns-in-Export : goal.returns-in-Export
returns-in-Export c =
    found_entry _ _ export_entry.agrees kind.Export (λ P h. h) c.args.section c.args.contents.now c.args.entry c.listed_entry-in-Export.result (sym c.in-Export.is)
    c.listed_entry-in-Export.ensures

pub listed_entry-requires-in-Element : goal.listed_entry-requires-in-Element
listed_entry-requires-in-Element c = λ k. ((refl, tt), shortens _ _ element_segment.agrees)

pub returns-in-Element : goal.returns-in-Element
returns-in-Element c =
    found_entry _ _ element_segment.agrees kind.Element (λ P h. h) c.args.section c.args.contents.now c.args.entry c.listed_entry-in-Element.result (sym c.in-Element.is)
    c.listed_entry-in-Element.ensures

pub listed_entry-requires-in-Code : goal.listed_entry-requires-in-Code
listed_entry-requires-in-Code c = λ k. ((refl, tt), shortens _ _ body.agrees)

pub returns-in-Code : goal.returns-in-Code
returns-in-Code c =
    found_entry _ _ body.agrees kind.Code (λ P h. h) c.args.section c.args.contents.now c.args.entry c.listed_entry-in-Code.result (sym c.in-Code.is)
    c.listed_entry-in-Code.ensures

pub listed_entry-requires-in-Data : goal.listed_entry-requires-in-Data
listed_entry-requires-in-Data c = λ k. ((refl, tt), shortens _ _ data_segment.agrees)

pub returns-in-Data : goal.returns-in-Data
returns-in-Data c =
    found_entry _ _ data_segment.agrees kind.Data (λ P h. h) c.args.section c.args.contents.now c.args.entry c.listed_entry-in-Data.result (sym c.in-Data.is)
    c.listed_entry-in-Data.ensures
