-- A module that was read, and its sections, as the plain values of the definitions.
use Rattle.std.specs.Prelude.{◌≡◌, ℕ, List, [], ◌∷◌, ◌++◌, map, length, Option, MatchOption}
use Rattle.std.specs.List.{flat_map}
use Rattle.wasm_spec.specs.Module as plain
use Rattle.form_reader.specs.Views.{payload_of, module_of}
use Rattle.form_reader.specs.Input.{input_payload_of, customs_in, sections_of_part, input_module_of}
use Rattle.form_rules.specs.declared.source.ModuleSource.{ModuleSource}
use Rattle.form_rules.specs.declared.source.ModuleSource.TheVariants as sources
use Rattle.form_rules.specs.declared.source.Section.{Section}
use Rattle.form_rules.specs.declared.source.Section.TheVariants as section
use Rattle.form_rules.specs.declared.source.Sections.{Sections}
use Rattle.form_rules.specs.declared.source.Sections.TheVariants as sections

abbrev pub source_module : ModuleSource → plain.Module
source_module (sources.Form form) = module_of form.now
source_module (sources.Input form) = input_module_of form.now

-- the section that a step gives, or the run of them
abbrev pub sections_in : Section → List plain.Payload
sections_in (section.Read payload) = payload_of payload.now ∷ []
sections_in (section.Input entries) = input_payload_of entries ∷ []
sections_in (section.Customs run) = customs_in run

-- the sections that remain of a walk, and the steps
unfoldable pub sections_left : Sections → List plain.Payload
sections_left (sections.Form payloads) = map payload_of payloads.now
sections_left (sections.Input parts) = flat_map sections_of_part parts.now

abbrev pub steps_left : Sections → ℕ
steps_left (sections.Form payloads) = length payloads.now
steps_left (sections.Input parts) = length parts.now

-- a step gave the first of what remained, and the others remain; or nothing remained
abbrev pub GivesFirst : Sections → Option Section → Sections → Type 0
GivesFirst old given new =
    MatchOption given ((sections_left old ≡ []) × (sections_left new ≡ [])) (λ section. sections_left old ≡ sections_in section ++ sections_left new)
