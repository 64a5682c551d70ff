use Rattle.std.proofs.Common.{◌≡◌, length}
use Rattle.interned_types.specs.Environment.{declared_name}
use Rattle.interned_types.proofs.Naming.{AreNamed}
use Rattle.interned_types.proofs.declared.declared_types.Given as goal

-- the types so far are named
abbrev pub invariant-loop-number : goal.invariant-loop-number
invariant-loop-number l = record {
  long : length l.names.items ≡ l.number;
  named : AreNamed l.names.items (declared_name l.indices l.types);
}
