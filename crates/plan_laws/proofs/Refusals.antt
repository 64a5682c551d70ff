-- Of bytes that are not too long one cause stands, but for a few pairs; and of bytes that have a plan none.
use Rattle.std.proofs.Common.{◌≡◌, ◌≢◌, ◌∙◌, ◌^◌, ◌<◌, ◌≤◌, ℕ, List, length, inl, inr, refl, sym, ap, subst, arith}
use Rattle.std.specs.Prelude.{◌⊎◌, ◌==◌, if◌then◌else◌}
use Rattle.std.proofs.Math.Logic.{⊎_elim}
use Rattle.std.proofs.lemmas.Bool.{cases_lt}
use Rattle.wasm_spec.specs.Module.{Module}
use Rattle.wasm_spec.specs.Grammar.{Stops}
use Rattle.wasm_spec.specs.declared.operators.What.{What}
use Rattle.rule_spec.specs.declared.rules.Rule.{Rule}
use Rattle.rule_spec.specs.declared.rules.Rule.TheVariants as rule
use Rattle.rule_spec.specs.Lists.{lists_of_module}
use Rattle.rule_spec.specs.Rules.{Satisfies, number_of}
use Rattle.form_reader.proofs.SectionLaws.{module_once}
use Rattle.form_reader.proofs.Outcomes.{spells_or_stops}
use Rattle.module_environ.specs.Readable.{Breaks}
use Rattle.plan_text.specs.declared.plan.Plan.{Plan}
use Rattle.plan_text.specs.declared.error.TranslateError.{TranslateError}
use Rattle.plan_text.specs.declared.error.TranslateError.TheVariants as refusal
use Rattle.init_plan.specs.Views.{memory_plan_of}
use Rattle.init_plan.specs.Tables.{plan_of_tables}
use Rattle.translate.specs.Options.{Options}
use Rattle.translate.specs.Planned.{KeepsAnd, HasMuchData, HasCause, IsPlanned}
use Rattle.translate.specs.Contexts.{Overflows}
use Rattle.translate.specs.Runs.{IsRefused}
use Rattle.translate.specs.Valid.{IsValid}
use Rattle.plan_laws.specs.Causes.{MayBothStand}
use Rattle.plan_laws.proofs.Stops.{AreOne, one-stop}

-- ---- rules by their numbers

abbrev rule_at : ℕ → Rule
rule_at n =
    if n == 1 then rule.L1 else if n == 2 then rule.L2 else if n == 3 then rule.L3 else if n == 4 then rule.L4 else if n == 5 then rule.L5
    else if n == 6 then rule.L6 else if n == 7 then rule.L7 else if n == 8 then rule.L8 else if n == 9 then rule.L9 else rule.L10

rule-back : (r : Rule) → rule_at (number_of r) ≡ r
rule-back rule.L1 = refl
rule-back rule.L2 = refl
rule-back rule.L3 = refl
rule-back rule.L4 = refl
rule-back rule.L5 = refl
rule-back rule.L6 = refl
rule-back rule.L7 = refl
rule-back rule.L8 = refl
rule-back rule.L9 = refl
rule-back rule.L10 = refl

-- ---- two causes of one kind

module _ (bytes : List ℕ) where
  -- a rule that is broken has no lower number than the first that is
  lower-broken : (r s : Rule) → Breaks r bytes → Breaks s bytes → number_of r < number_of s → ⊥
  lower-broken r s x y lower =
      let same = module_once bytes y.meaning x.meaning y.read.spelled x.read.spelled in
      x.broken (subst (λ (m : Module). Satisfies r (lists_of_module m)) same (y.first r lower))

  one-rule : (r s : Rule) → Breaks r bytes → Breaks s bytes → r ≡ s
  one-rule r s x y = ⊎_elim
      (λ (below : number_of r < number_of s). absurd (lower-broken r s x y below))
      (λ (le : number_of s ≤ number_of r). ⊎_elim
      (λ (above : number_of s < number_of r). absurd (lower-broken s r y x above))
      (λ (ge : number_of r ≤ number_of s). (let same : number_of r ≡ number_of s = omega arith in sym (rule-back r) ∙ ap rule_at same ∙ rule-back s))
      (cases_lt (number_of s) (number_of r)))
      (cases_lt (number_of r) (number_of s))

-- two stops are one cause, or may both stand
stops-both : (v w : What) → AreOne v w → (refusal.Unsupported v ≡ refusal.Unsupported w) ⊎ MayBothStand (refusal.Unsupported v) (refusal.Unsupported w)
stops-both v w (inl same) = inl (ap refusal.Unsupported same)
stops-both v w (inr either) = inr either

-- ---- causes of two kinds

module _ (o : Options) (bytes : List ℕ) (short : length bytes < 2 ^ 30) where
  -- the module that is too large
  large-kept : HasCause o bytes refusal.TooLarge → KeepsAnd bytes (HasMuchData o.init)
  large-kept (inl long) = absurd (omega (arith, long, short))
  large-kept (inr kept) = kept

  -- what keeps the rules breaks none
  kept-not-broken : (P : Module → Type 0) (r : Rule) → KeepsAnd bytes P → Breaks r bytes → ⊥
  kept-not-broken P r kept breaks =
      let same = module_once bytes kept.meaning breaks.meaning kept.read.spelled breaks.read.spelled in
      breaks.broken (subst (λ (m : Module). Satisfies r (lists_of_module m)) same (kept.keeps r))

  kept-not-stopped : (P : Module → Type 0) (w : What) → KeepsAnd bytes P → Stops bytes w → ⊥
  kept-not-stopped P w kept stops = spells_or_stops bytes kept.meaning w kept.read.spelled kept.read.no_interface_types stops

  broken-not-stopped : (r : Rule) (w : What) → Breaks r bytes → Stops bytes w → ⊥
  broken-not-stopped r w breaks stops = spells_or_stops bytes breaks.meaning w breaks.read.spelled breaks.read.no_interface_types stops

  pub one-short-cause : (e f : TranslateError) → HasCause o bytes e → HasCause o bytes f → e ≢ refusal.OutOfMemory → f ≢ refusal.OutOfMemory
      → (e ≡ f) ⊎ MayBothStand e f
  one-short-cause refusal.OutOfMemory f x y not_e not_f = absurd (not_e refl)
  one-short-cause refusal.Malformed refusal.Malformed x y not_e not_f = inl refl
  one-short-cause refusal.Malformed (refusal.Invalid s) x y not_e not_f = absurd (x.0 y.meaning y.read.spelled)
  one-short-cause refusal.Malformed (refusal.Unsupported w) x y not_e not_f = absurd (x.1 w y)
  one-short-cause refusal.Malformed refusal.TooLarge x y not_e not_f = let kept = large-kept y in absurd (x.0 kept.meaning kept.read.spelled)
  one-short-cause refusal.Malformed refusal.OffsetOverflow x y not_e not_f = absurd (x.0 y.meaning y.read.spelled)
  one-short-cause refusal.Malformed refusal.OutOfMemory x y not_e not_f = absurd (not_f refl)
  one-short-cause (refusal.Invalid r) refusal.Malformed x y not_e not_f = absurd (y.0 x.meaning x.read.spelled)
  one-short-cause (refusal.Invalid r) (refusal.Invalid s) x y not_e not_f = inl (ap refusal.Invalid (one-rule bytes r s x y))
  one-short-cause (refusal.Invalid r) (refusal.Unsupported w) x y not_e not_f = absurd (broken-not-stopped r w x y)
  one-short-cause (refusal.Invalid r) refusal.TooLarge x y not_e not_f = absurd (kept-not-broken (HasMuchData o.init) r (large-kept y) x)
  one-short-cause (refusal.Invalid r) refusal.OffsetOverflow x y not_e not_f = absurd (kept-not-broken (Overflows o) r y x)
  one-short-cause (refusal.Invalid r) refusal.OutOfMemory x y not_e not_f = absurd (not_f refl)
  one-short-cause (refusal.Unsupported v) refusal.Malformed x y not_e not_f = absurd (y.1 v x)
  one-short-cause (refusal.Unsupported v) (refusal.Invalid s) x y not_e not_f = absurd (broken-not-stopped s v y x)
  one-short-cause (refusal.Unsupported v) (refusal.Unsupported w) x y not_e not_f = stops-both v w (one-stop bytes v w x y)
  one-short-cause (refusal.Unsupported v) refusal.TooLarge x y not_e not_f = absurd (kept-not-stopped (HasMuchData o.init) v (large-kept y) x)
  one-short-cause (refusal.Unsupported v) refusal.OffsetOverflow x y not_e not_f = absurd (kept-not-stopped (Overflows o) v y x)
  one-short-cause (refusal.Unsupported v) refusal.OutOfMemory x y not_e not_f = absurd (not_f refl)
  one-short-cause refusal.TooLarge refusal.Malformed x y not_e not_f = let kept = large-kept x in absurd (y.0 kept.meaning kept.read.spelled)
  one-short-cause refusal.TooLarge (refusal.Invalid s) x y not_e not_f = absurd (kept-not-broken (HasMuchData o.init) s (large-kept x) y)
  one-short-cause refusal.TooLarge (refusal.Unsupported w) x y not_e not_f = absurd (kept-not-stopped (HasMuchData o.init) w (large-kept x) y)
  one-short-cause refusal.TooLarge refusal.TooLarge x y not_e not_f = inl refl
  one-short-cause refusal.TooLarge refusal.OffsetOverflow x y not_e not_f = inr tt
  one-short-cause refusal.TooLarge refusal.OutOfMemory x y not_e not_f = absurd (not_f refl)
  one-short-cause refusal.OffsetOverflow refusal.Malformed x y not_e not_f = absurd (y.0 x.meaning x.read.spelled)
  one-short-cause refusal.OffsetOverflow (refusal.Invalid s) x y not_e not_f = absurd (kept-not-broken (Overflows o) s x y)
  one-short-cause refusal.OffsetOverflow (refusal.Unsupported w) x y not_e not_f = absurd (kept-not-stopped (Overflows o) w x y)
  one-short-cause refusal.OffsetOverflow refusal.TooLarge x y not_e not_f = inr tt
  one-short-cause refusal.OffsetOverflow refusal.OffsetOverflow x y not_e not_f = inl refl
  one-short-cause refusal.OffsetOverflow refusal.OutOfMemory x y not_e not_f = absurd (not_f refl)

-- ---- a plan

pub planned-valid : (o : Options) (bytes : List ℕ) (plan : Plan) → IsPlanned o bytes plan → IsValid o bytes
planned-valid o bytes plan is = record {
  meaning = is.meaning;
  read = is.read;
  keeps = is.keeps;
  fits = record {
    memories = memory_plan_of plan.translation;
    tables = plan_of_tables plan.translation;
    memory_plan = is.planned.translation.memories.plan;
    table_plan = is.planned.translation.tables;
    runtime = is.planned.translation.memories.fits;
    sizes = is.planned.sizes;
  };
}

-- valid bytes have no cause
abbrev pub NoneOfValid : Type 0
NoneOfValid = (o : Options) (bytes : List ℕ) (e : TranslateError) → IsValid o bytes → HasCause o bytes e → e ≡ refusal.OutOfMemory

pub no-cause : NoneOfValid → (o : Options) (bytes : List ℕ) (plan : Plan) (e : TranslateError) → IsPlanned o bytes plan → HasCause o bytes e → e ≡ refusal.OutOfMemory
no-cause none o bytes plan e is cause = none o bytes e (planned-valid o bytes plan is) cause

-- ---- what a run refuses

pub one-refusal : (o : Options) (bytes : List ℕ) (e f : TranslateError) → length bytes ≤ 2 ^ 30 → IsRefused o bytes e → IsRefused o bytes f → (e ≡ f) ⊎ MayBothStand e f
one-refusal o bytes e f within x y = ⊎_elim
    (λ (short : length bytes < 2 ^ 30). one-short-cause o bytes short e f x.cause y.cause x.not_memory y.not_memory)
    (λ (long : 2 ^ 30 ≤ length bytes). (let whole : length bytes ≡ 2 ^ 30 = omega arith in inl (x.long whole ∙ sym (y.long whole))))
    (cases_lt (length bytes) (2 ^ 30))
