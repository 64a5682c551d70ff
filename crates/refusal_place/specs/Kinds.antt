-- Kinds of sections, and the part of the grammar that is an entry of each (core specification, 5.5).
use Rattle.std.specs.Prelude.{ℕ, ◌==◌, Option, Some, None, if◌then◌else◌}
use Rattle.wasm_spec.specs.Parts.{Part, unsigned}
use Rattle.wasm_spec.specs.TypeGrammar.{group, memory_type, tag_type}
use Rattle.wasm_spec.specs.Grammar.{import_entry, table_entry, global_entry, export_entry, element_segment, body, data_segment}
use Rattle.refusal_place.specs.declared.kind.SectionKind.{SectionKind}
use Rattle.refusal_place.specs.declared.kind.SectionKind.TheVariants as kind

-- the id of a kind
abbrev pub id_of : SectionKind → ℕ
id_of kind.Custom = 0
id_of kind.Type = 1
id_of kind.Import = 2
id_of kind.Function = 3
id_of kind.Table = 4
id_of kind.Memory = 5
id_of kind.Global = 6
id_of kind.Export = 7
id_of kind.Start = 8
id_of kind.Element = 9
id_of kind.Code = 10
id_of kind.Data = 11
id_of kind.DataCount = 12
id_of kind.Tag = 13

-- the kind that has an id, where there is one
abbrev pub kind_of : ℕ → Option SectionKind
kind_of id =
    if id == 0 then Some kind.Custom else (if id == 1 then Some kind.Type else (if id == 2 then Some kind.Import
    else (if id == 3 then Some kind.Function else (if id == 4 then Some kind.Table else (if id == 5 then Some kind.Memory
    else (if id == 6 then Some kind.Global else (if id == 7 then Some kind.Export else (if id == 8 then Some kind.Start
    else (if id == 9 then Some kind.Element else (if id == 10 then Some kind.Code else (if id == 11 then Some kind.Data
    else (if id == 12 then Some kind.DataCount else (if id == 13 then Some kind.Tag else None)))))))))))))

-- what a section of this kind lists has a property; other kinds list nothing
abbrev pub OfEntries : SectionKind → ((A : Type 0) → Part A → Type 0) → Type 0
OfEntries kind.Type P = P _ group
OfEntries kind.Import P = P _ import_entry
OfEntries kind.Function P = P _ (unsigned 32)
OfEntries kind.Table P = P _ table_entry
OfEntries kind.Memory P = P _ memory_type
OfEntries kind.Tag P = P _ tag_type
OfEntries kind.Global P = P _ global_entry
OfEntries kind.Export P = P _ export_entry
OfEntries kind.Element P = P _ element_segment
OfEntries kind.Code P = P _ body
OfEntries kind.Data P = P _ data_segment
OfEntries kind.Custom P = ⊥
OfEntries kind.Start P = ⊥
OfEntries kind.DataCount P = ⊥
