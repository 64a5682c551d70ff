use Rattle.std.proofs.Common.{◌≡◌, take, drop, length}
use Rattle.form_types.specs.EarlierTypes.{ids_of}
use Rattle.form_types.specs.Keys.{targets}
use Rattle.form_types.proofs.finding.name_targets.Given as goal

-- the references so far are named, and the others are as they were
abbrev pub invariant-loop-place : goal.invariant-loop-place
invariant-loop-place l = record {
  long : length l.references.items ≡ length l.initial.references.items;
  named : take l.place l.references.items ≡ targets (ids_of l.earlier.ids.now) l.earlier.start (take l.place l.initial.references.items);
  left : drop l.place l.references.items ≡ drop l.place l.initial.references.items;
}
