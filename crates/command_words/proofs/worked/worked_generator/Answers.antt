use Rattle.std.proofs.Common.{[], ◌∷◌, refl, sym, ap, arith}
use Rattle.std.specs.List.{IsDistinct}
use Rattle.std.specs.Prelude.{Some, codes}
use Rattle.std.proofs.lemmas.Fmt.{decimal_digit}
use Rattle.command_words.proofs.worked.worked_generator.Goals as goal

pub returns : goal.returns
unfolding IsDistinct
returns c = record {
  generate = Some 2;
  options = [];
  head = ap (λ number. codes "generate" ∷ number ∷ []) (sym (decimal_digit 2 (omega arith)));
  made = (omega arith, omega arith);
  chooses = record { settings = []; spelled = refl; allowed = tt; once = tt; chosen = refl };
}
