use Rattle.std.proofs.Common.{◌≡◌, ◌-◌}
use Rattle.form_reader.specs.TypeBytes.{contents_of}
use Rattle.form_reader.proofs.type_bytes.contents_of.Given as goal

-- the result is that of the remaining sections
abbrev pub invariant-sections : goal.invariant-sections
invariant-sections l = contents_of l.id (l.most - l.counter) l.rest ≡ contents_of l.id l.most l.sections
