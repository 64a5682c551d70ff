-- How kinds of sections, faults and places print.
use Rattle.std.specs.Prelude.{ℕ, List, ◌++◌, Option, Some, None, codes, decimal}
use Rattle.wasm_spec.specs.declared.operators.What.{What}
use Rattle.wasm_spec.specs.declared.operators.What.TheVariants as what
use Rattle.refusal_place.specs.declared.kind.SectionKind.{SectionKind}
use Rattle.refusal_place.specs.declared.kind.SectionKind.TheVariants as kind
use Rattle.refusal_place.specs.declared.place.Fault.{Fault}
use Rattle.refusal_place.specs.declared.place.Fault.TheVariants as fault
use Rattle.refusal_place.specs.declared.place.Place.{Place}

-- a kind of section
abbrev pub section_text : SectionKind → List ℕ
section_text kind.Custom = codes "custom section"
section_text kind.Type = codes "type section"
section_text kind.Import = codes "import section"
section_text kind.Function = codes "function section"
section_text kind.Table = codes "table section"
section_text kind.Memory = codes "memory section"
section_text kind.Global = codes "global section"
section_text kind.Export = codes "export section"
section_text kind.Start = codes "start section"
section_text kind.Element = codes "element section"
section_text kind.Code = codes "code section"
section_text kind.Data = codes "data section"
section_text kind.DataCount = codes "data count section"
section_text kind.Tag = codes "tag section"

-- what a section of this kind lists
abbrev pub entry_text : SectionKind → List ℕ
entry_text kind.Type = codes "type"
entry_text kind.Import = codes "import"
entry_text kind.Function = codes "function"
entry_text kind.Table = codes "table"
entry_text kind.Memory = codes "memory"
entry_text kind.Tag = codes "tag"
entry_text kind.Global = codes "global"
entry_text kind.Export = codes "export"
entry_text kind.Element = codes "element segment"
entry_text kind.Code = codes "function body"
entry_text kind.Data = codes "data segment"
entry_text kind.Custom = codes "entry"
entry_text kind.Start = codes "entry"
entry_text kind.DataCount = codes "entry"

-- what is not supported
abbrev pub what_text : What → List ℕ
what_text what.Component = codes "components are not supported"
what_text what.Shared = codes "shared types are not supported"
what_text what.Supertypes = codes "types with two or more supertypes are not supported"
what_text what.Operator = codes "an instruction in a constant expression is not supported"
what_text what.ExactImport = codes "imports of exact function types are not supported"
what_text what.InterfaceTypes = codes "custom sections of interface types are not supported"

-- what is wrong
abbrev pub fault_text : Fault → List ℕ
fault_text fault.Header = codes "the input does not begin with the header of a module"
fault_text (fault.UnknownSection id) = codes "no section has the id " ++ decimal id
fault_text fault.SectionOrder = codes "a section of this kind may not follow the sections before it"
fault_text fault.SectionSize = codes "the size of the section is no unsigned number of 32 bits"
fault_text (fault.SectionEnd end) = codes "the input ends inside the section, which should reach to byte " ++ decimal end
fault_text fault.Number = codes "the contents of the section are not one unsigned number of 32 bits"
fault_text fault.Name = codes "the contents of the section do not begin with a name"
fault_text fault.Count = codes "the number of entries is no unsigned number of 32 bits"
fault_text fault.Entry = codes "this is no entry of the section"
fault_text fault.Remainder = codes "bytes follow the last entry of the section"
fault_text (fault.Unsupported w) = what_text w

-- what is wrong, by the number of bytes that decide it; without one the input ends too early
abbrev pub fault_at_text : Option ℕ → Fault → List ℕ
fault_at_text None fault.Header = codes "the input ends before the header of a module does"
fault_at_text None fault.SectionSize = codes "the input ends before the size of the section does"
fault_at_text _ f = fault_text f

-- what is wrong in a section of this kind
abbrev pub fault_in_text : SectionKind → Option ℕ → Fault → List ℕ
fault_in_text k decided fault.Entry = codes "this is no " ++ entry_text k
fault_in_text k decided f = fault_at_text decided f

-- the section and the entry, where there are some, and what is wrong
abbrev pub located_text : Option SectionKind → Option ℕ → Option ℕ → Fault → List ℕ
located_text None entry decided f = fault_at_text decided f
located_text (Some k) None decided f = section_text k ++ codes ": " ++ fault_in_text k decided f
located_text (Some k) (Some entry) decided f = section_text k ++ codes ", entry " ++ decimal entry ++ codes ": " ++ fault_in_text k decided f

abbrev pub place_text : Place → List ℕ
place_text p = located_text p.section p.entry p.decided p.fault
