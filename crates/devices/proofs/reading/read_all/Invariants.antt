use Rattle.std.proofs.Common.{◌≡◌, ◌-◌, ◌≤◌, None, IsNone, vec_len}
use Rattle.devices.specs.Device.{TellsFront}
use Rattle.devices.proofs.reading.read_all.Given as goal

-- what was read so far is in the store
abbrev pub invariant-reads : goal.invariant-reads
invariant-reads g l = record {
  bytes : TellsFront (g.S.Source.left l.fn.source) l.store.items (g.S.Source.left l.source);
  within : vec_len l.store ≤ l.most;
  before_end : IsNone (g.S.Source.left l.fn.source) → g.S.Source.since_end l.fn.source ≡ None → g.S.Source.since_end l.source ≡ None;
  no_fault : g.S.Source.faults l.source ≡ g.S.Source.faults l.fn.source;
}

abbrev pub decreases-reads : goal.decreases-reads
decreases-reads g l = l.most - vec_len l.store
