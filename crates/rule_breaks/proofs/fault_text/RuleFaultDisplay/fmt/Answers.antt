use Rattle.std.proofs.Common.{sym, subst}
use Rattle.std.specs.Result.{IsOk}
use Rattle.std.specs.Fmt.{IsPlainFormatter, HasWritten}
use Rattle.rule_breaks.specs.declared.fault.RuleFault.{RuleFault}
use Rattle.rule_breaks.specs.FaultTexts.{fault_text}
use Rattle.rule_breaks.proofs.fault_text.RuleFaultDisplay.fmt.Goals as goal

pub returns-in-MaximumBelowMinimum-clause-writes : goal.returns-in-MaximumBelowMinimum-clause-writes
returns-in-MaximumBelowMinimum-clause-writes g c =
    subst (λ (x : RuleFault). IsPlainFormatter c.args.f.now → IsOk c.write-in-MaximumBelowMinimum.result
    → HasWritten g.W.Write.write_str_gives c.args.f.now (fault_text x) c.write-in-MaximumBelowMinimum.new.self) (sym c.in-MaximumBelowMinimum.is) c.write-in-MaximumBelowMinimum.ensures.writes
