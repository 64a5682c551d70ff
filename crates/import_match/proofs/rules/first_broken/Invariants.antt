use Rattle.std.proofs.Common.{◌≡◌, drop}
use Rattle.import_match.specs.Rules.{first_broken}
use Rattle.import_match.proofs.rules.first_broken.Given as goal

-- the rules before all hold
abbrev pub invariant-loop-holds : goal.invariant-loop-holds
invariant-loop-holds l = first_broken (drop l.holds-index l.rules) ≡ first_broken l.rules
