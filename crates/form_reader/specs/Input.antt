-- What stays in the input, as the plain values of the definitions.
use Rattle.std.specs.Prelude.{◌≡◌, ℕ, zero, suc, Bool, true, false, List, [], ◌∷◌, ◌++◌, map, Result, Ok, Err}
use Rattle.wasm_spec.specs.declared.types.UnpackedIndex.{UnpackedIndex}
use Rattle.wasm_spec.specs.TypeData.{Group}
use Rattle.wasm_spec.specs.Module as plain
use Rattle.std.specs.List.{flat_map}
use Rattle.form_reader.specs.declared.form.Custom.{Custom}
use Rattle.form_reader.specs.Views.{payload_of}
use Rattle.wasm_spec.specs.declared.entities.GlobalType.{GlobalType}
use Rattle.form_reader.specs.Reading.{Fault, Reader, ◌>>=◌, gives_at}
use Rattle.form_reader.specs.ReadingNumbers.{unsigned_at}
use Rattle.form_reader.specs.TypeRows.{tag_type, group}
use Rattle.form_reader.specs.SectionRows.{global_entry, element_segment, data_segment, custom_section}
use Rattle.form_reader.specs.declared.customs.InputCustoms.{InputCustoms}
use Rattle.form_reader.specs.declared.input_vectors.InputVector.{InputVector}
use Rattle.form_reader.specs.declared.input.InputEntries.{InputEntries}
use Rattle.form_reader.specs.declared.input.InputEntries.TheVariants as entries
use Rattle.form_reader.specs.declared.input.InputSection.{InputSection}
use Rattle.form_reader.specs.declared.input.InputSection.TheVariants as sections
use Rattle.form_reader.specs.declared.input.InputPart.{InputPart}
use Rattle.form_reader.specs.declared.input.InputPart.TheVariants as parts
use Rattle.form_reader.specs.declared.input.InputForm.{InputForm}

-- one more entry, if one is read
abbrev pub listed_after : {A : Type 0} → Result (A × List ℕ) Fault → (List ℕ → List A) → List A
listed_after (Ok x) others = x.0 ∷ others x.1
listed_after (Err fault) others = []

-- the entries that are read one after another from some bytes, at most n
unfoldable pub listed : {A : Type 0} → Reader A → ℕ → List ℕ → List A
listed read zero bytes = []
listed read (suc n) bytes = listed_after (read bytes) (listed read n)

-- the entries of a section
abbrev pub vector_in : {A : Type 0} → Reader A → InputVector → List A
vector_in read vector = listed read vector.count vector.bytes.now

-- the type of a global, whose expression is passed over
abbrev pub type_of_global_at : Reader GlobalType
type_of_global_at = global_entry.read >>= λ g. gives_at g.type

abbrev pub input_payload_of : InputEntries → plain.Payload
input_payload_of (entries.Types groups) = plain.Types (vector_in group.read groups)
input_payload_of (entries.Functions types) = plain.FunctionTypes (vector_in (unsigned_at 32) types)
input_payload_of (entries.Tags types) = plain.Tags (vector_in tag_type.read types)
input_payload_of (entries.Globals globals) = plain.Globals (vector_in global_entry.read globals)
input_payload_of (entries.Elements elements) = plain.Elements (vector_in element_segment.read elements)
input_payload_of (entries.Segments segments) = plain.Segments (vector_in data_segment.read segments)

abbrev pub input_section_of : InputSection → plain.Payload
input_section_of (sections.Input entries) = input_payload_of entries
input_section_of (sections.Read payload) = payload_of payload

abbrev pub custom_of : Custom → plain.Payload
custom_of custom = plain.Custom custom.name.now custom.bytes.now

-- the sections of a run
abbrev pub customs_in : InputCustoms → List plain.Payload
customs_in run = listed custom_section.read run.count run.bytes.now

abbrev pub sections_of_part : InputPart → List plain.Payload
sections_of_part (parts.Customs run) = customs_in run
sections_of_part (parts.Section section) = input_section_of section ∷ []

-- the module that a form holds
abbrev pub input_module_of : InputForm → plain.Module
input_module_of form = flat_map sections_of_part form.parts.items

-- a sink holds some groups of types, or none
abbrev pub HasGroups : {T : Type 0} → (T → List (Group UnpackedIndex UnpackedIndex) → Type 0) → T → Type 0
HasGroups holds sink = (groups : List (Group UnpackedIndex UnpackedIndex)) × holds sink groups

-- a sink that holds some groups of types holds these as well, after them
abbrev pub AddsGroups : {T : Type 0} → (T → List (Group UnpackedIndex UnpackedIndex) → Type 0) → T → T → List (Group UnpackedIndex UnpackedIndex) → Type 0
AddsGroups holds old new groups = (before : List (Group UnpackedIndex UnpackedIndex)) → holds old before → holds new (before ++ groups)

-- the first of some entries is removed and the others remain, or there is none
abbrev pub Takes : {A : Type 0} → List A → A → List A → Bool → Type 0
Takes before first after true = before ≡ first ∷ after
Takes before first after false = (before ≡ []) × (after ≡ [])
