use Rattle.std.specs.Prelude.{decimal}
use Rattle.command_words.proofs.settings.read_numbered.Goals as goal

pub returns-in_err-digits-clause-max_image : goal.returns-in_err-digits-clause-max_image
returns-in_err-digits-clause-max_image c = λ n fits e. absurd (c.in_err-digits.ensures (decimal n) e)
