use Rattle.std.proofs.Common.{◌∙◌}
use Rattle.std.specs.Prelude.{codes}
use Rattle.std.proofs.lemmas.Str.Pattern.{starts_text}
use Rattle.custom_sections.proofs.Debugging.{debug_is}
use Rattle.custom_sections.proofs.debug.is_debug_name.Goals as goal

pub returns : goal.returns
returns c = starts_text c.starts_with.result (codes ".debug_") c.args.name.now c.starts_with.ensures.cases ∙ debug_is c.args.name.now
