use Rattle.plan_link.proofs.Linkable.{linkable}
use Rattle.plan_link.proofs.laws.translated_can_link.Goals as goal

pub returns : goal.returns
returns c = λ tunables module_index validator bytes t b is. linkable c.listed_law.ensures.built tunables module_index validator bytes t b is
