use Rattle.std.proofs.Common.{map, take}
use Rattle.form_reader.specs.Counted.{CountsMore}
use Rattle.form_reader.specs.Views.{payload_of}
use Rattle.form_reader.proofs.form.Form.counts.Given as goal

-- the entries of the sections so far are counted
abbrev pub invariant-loop-payload : goal.invariant-loop-payload
invariant-loop-payload l = CountsMore l.initial.counts l.counts (map payload_of (take l.payload-index l.payload-items))
