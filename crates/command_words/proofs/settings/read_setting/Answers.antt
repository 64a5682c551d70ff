use Rattle.std.proofs.Common.{◌≡◌}
use Rattle.std.specs.Prelude.{Some}
use Rattle.command_words.specs.declared.settings.Setting.TheVariants.{Cow, LazyTables, BranchHints, NativeDebug, GuestDebug}
use Rattle.command_words.specs.declared.settings.Setting.TheVariants.{Page, MaxImage, Ptr4, Ptr8, GcDrc, GcNull}
use Rattle.command_words.specs.Options.{row, IsAllowed}
use Rattle.command_words.proofs.settings.read_setting.Goals as goal

pub returns-in_default-clause-complete : goal.returns-in_default-clause-complete
returns-in_default-clause-complete c = λ s.
    elim s as (λ s. IsAllowed s → c.args.word.now ≡ (row s).word → c.read_numbered.result ≡ Some s) [
      | Cow ↦ λ allowed e. absurd (c.in_default.not-text e)
      | LazyTables ↦ λ allowed e. absurd (c.in_default.not-text-2 e)
      | BranchHints ↦ λ allowed e. absurd (c.in_default.not-text-3 e)
      | NativeDebug ↦ λ allowed e. absurd (c.in_default.not-text-4 e)
      | GuestDebug ↦ λ allowed e. absurd (c.in_default.not-text-5 e)
      | Page n ↦ c.read_numbered.ensures.page n
      | MaxImage n ↦ c.read_numbered.ensures.max_image n
      | Ptr4 ↦ λ allowed e. absurd (c.in_default.not-text-6 e)
      | Ptr8 ↦ λ allowed e. absurd (c.in_default.not-text-7 e)
      | GcDrc ↦ λ allowed e. absurd (c.in_default.not-text-8 e)
      | GcNull ↦ λ allowed e. absurd (c.in_default.not-text-9 e)
    ]
