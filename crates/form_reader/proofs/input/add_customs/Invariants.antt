use Rattle.std.proofs.Common.{◌≡◌, ◌++◌, map}
use Rattle.form_reader.specs.Views.{payload_of}
use Rattle.form_reader.specs.Input.{customs_in}
use Rattle.form_reader.proofs.input.add_customs.Given as goal

abbrev pub invariant-loop-custom : goal.invariant-loop-custom
invariant-loop-custom l = map payload_of l.payloads.items ++ customs_in l.custom-iterator ≡ map payload_of l.initial.payloads.items ++ customs_in l.run
