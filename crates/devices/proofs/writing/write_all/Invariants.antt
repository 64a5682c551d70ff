use Rattle.std.proofs.Common.{◌≡◌, ◌-◌, ◌≤◌, length, take}
use Rattle.devices.specs.Device.{AppendsFront}
use Rattle.devices.proofs.writing.write_all.Given as goal

-- what was written so far was appended
abbrev pub invariant-writes : goal.invariant-writes
invariant-writes g l = record {
  appended : AppendsFront (g.K.Sink.held l.fn.sink) (take l.written l.text) (g.K.Sink.held l.sink);
  no_fault : g.K.Sink.faults l.sink ≡ g.K.Sink.faults l.fn.sink;
  within : l.written ≤ length l.text;
  untouched : l.written ≡ 0 → l.sink ≡ l.fn.sink;
}

abbrev pub decreases-writes : goal.decreases-writes
decreases-writes g l = length l.text - l.written
