use Rattle.std.proofs.Common.{map, take}
use Rattle.wasm_spec.specs.Module.{groups}
use Rattle.form_reader.specs.Views.{payload_of}
use Rattle.form_types.specs.Taken.{IsNumberingOf}
use Rattle.form_types.proofs.copied.numbering_of_form.Given as goal

-- the numbering has taken the groups of the sections so far
abbrev pub invariant-loop-payload : goal.invariant-loop-payload
invariant-loop-payload l = IsNumberingOf l.numbering (groups (map payload_of (take l.payload-index l.payload-items)))
