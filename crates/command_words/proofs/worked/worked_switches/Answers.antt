use Rattle.std.proofs.Common.{[], ◌∷◌, refl}
use Rattle.std.specs.List.{IsDistinct}
use Rattle.std.specs.Prelude.{None, codes}
use Rattle.command_words.specs.declared.settings.Setting.TheVariants.{Cow, LazyTables}
use Rattle.command_words.proofs.worked.worked_switches.Goals as goal

pub returns : goal.returns
unfolding IsDistinct
returns c = record {
  generate = None;
  options = codes "--cow" ∷ codes "--lazy-tables" ∷ [];
  head = refl;
  made = tt;
  chooses = record {
    settings = Cow ∷ LazyTables ∷ [];
    spelled = refl;
    allowed = (tt, (tt, tt));
    once = ((refl, tt), (tt, tt));
    chosen = refl;
  };
}
