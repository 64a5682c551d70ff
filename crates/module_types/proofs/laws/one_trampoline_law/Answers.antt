use Rattle.std.proofs.Common.{refl}
use Rattle.type_spec.specs.Interned.{empty, plain, exception_for, composite_at, startup_type}
use Rattle.module_types.specs.Tied.{IsTied}
use Rattle.module_types.proofs.Called.{tied-alone, tied-group, one-index}
use Rattle.module_types.proofs.GroupMembers.{through-taken, through-alone}
use Rattle.module_types.proofs.laws.one_trampoline_law.Goals as goal

tied-none : IsTied empty
tied-none = record { sized = refl; known = λ f k e. absurd cc; called = λ i k f e at. absurd cc }

pub returns : goal.returns
returns c =
    let taken = through-taken IsTied tied-group tied-none in
    record {
      none = tied-none;
      group = λ b ts tied. tied-group b tied ts;
      exception = λ b i tied. tied-alone b tied (plain (exception_for i (composite_at b.types i)));
      startup = λ b tied. tied-alone b tied startup_type;
      taken = taken;
      interned = λ ms tags startup. through-alone IsTied (λ b t tied. tied-alone b tied t) ms tags startup (taken ms);
      one = one-index;
    }
