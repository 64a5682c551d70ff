-- The entries of the sections of a module, in order.
use Rattle.std.specs.Prelude.{◌≡◌, ℕ, List, [], ◌++◌, map}
use Rattle.std.specs.List.{flat_map}
use Rattle.wasm_spec.specs.declared.types.UnpackedIndex.{UnpackedIndex}
use Rattle.wasm_spec.specs.TypeData.{Group}
use Rattle.wasm_spec.specs.Module as plain
use Rattle.form_reader.specs.declared.input.InputEntries.{InputEntries}
use Rattle.form_reader.specs.declared.input.InputEntries.TheVariants as entries
use Rattle.form_reader.specs.Input.{input_payload_of}
use Rattle.form_rules.specs.Source.{sections_left}
use Rattle.form_rules.specs.declared.sections.Entries.{Entries}

-- what remains of a walk: the rest of the current section, and the sections after that
unfoldable pub entries_left : {T X : Type 0} → (T → X) → (plain.Payload → List X) → Entries T → List X
entries_left as_data of_section walk = map as_data walk.entries.now ++ flat_map of_section (sections_left walk.sections)

-- where the kinds of sections that may stay in the input list no entries of a kind, no section that
-- stays in the input lists any
pub none_in_input : {X : Type 0} (f : plain.Payload → List X)
    → ((groups : List (Group UnpackedIndex UnpackedIndex)) → f (plain.Types groups) ≡ []) → ((types : List ℕ) → f (plain.FunctionTypes types) ≡ [])
    → ((types : List ℕ) → f (plain.Tags types) ≡ []) → ((globals : List plain.GlobalDef) → f (plain.Globals globals) ≡ [])
    → ((elements : List plain.Element) → f (plain.Elements elements) ≡ []) → ((segments : List plain.Segment) → f (plain.Segments segments) ≡ [])
    → (entries : InputEntries) → f (input_payload_of entries) ≡ []
none_in_input f groups functions tags globals elements segments (entries.Types list) = groups _
none_in_input f groups functions tags globals elements segments (entries.Functions list) = functions _
none_in_input f groups functions tags globals elements segments (entries.Tags list) = tags _
none_in_input f groups functions tags globals elements segments (entries.Globals list) = globals _
none_in_input f groups functions tags globals elements segments (entries.Elements list) = elements _
none_in_input f groups functions tags globals elements segments (entries.Segments list) = segments _
