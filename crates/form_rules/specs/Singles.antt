-- The sections of a module one by one.
use Rattle.std.specs.Prelude.{List, ◌++◌}
use Rattle.wasm_spec.specs.Module as plain
use Rattle.form_reader.specs.Views.{payload_of}
use Rattle.form_reader.specs.Input.{input_payload_of, customs_in}
use Rattle.form_rules.specs.Source.{sections_left}
use Rattle.form_rules.specs.declared.singles.Single.{Single}
use Rattle.form_rules.specs.declared.singles.Single.TheVariants as single
use Rattle.form_rules.specs.declared.singles.Singles.{Singles}

abbrev pub single_of : Single → plain.Payload
single_of (single.Read payload) = payload_of payload.now
single_of (single.Input entries) = input_payload_of entries
single_of (single.Custom name bytes) = plain.Custom name.now bytes.now

-- what remains of a walk: the rest of the current run, and the sections after that
unfoldable pub singles_left : Singles → List plain.Payload
singles_left walk = customs_in walk.run ++ sections_left walk.sections
