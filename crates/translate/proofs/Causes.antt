-- Valid bytes have no cause of a refusal.
use Rattle.std.proofs.Common.{◌≡◌, ℕ, List, length, inl, inr, refl, ap, subst, arith}
use Rattle.std.specs.Prelude.{◌⊎◌, ◌^◌, ◌≤◌, sum_by}
use Rattle.wasm_spec.specs.Module.{Module}
use Rattle.rule_spec.specs.Lists.{lists_of_module}
use Rattle.rule_spec.specs.Rules.{Satisfies}
use Rattle.form_reader.proofs.SectionLaws.{module_once}
use Rattle.form_reader.proofs.Outcomes.{spells_or_stops}
use Rattle.plan_text.specs.declared.error.TranslateError.{TranslateError}
use Rattle.plan_text.specs.declared.error.TranslateError.TheVariants as refusal
use Rattle.translate.specs.Options.{Options}
use Rattle.translate.specs.Planned.{KeepsAnd, HasMuchData, HasCause}
use Rattle.translate.specs.Valid.{IsValid}
use Rattle.translate.proofs.OnePlan.{same-memories}
use Rattle.translate.proofs.PlansFit.{valid-fits}

module _ (o : Options) (bytes : List ℕ) (valid : IsValid o bytes) where
  -- they are short, and have little data
  not-large : (2 ^ 30 ≤ length bytes) ⊎ KeepsAnd bytes (HasMuchData o.init) → ⊥
  not-large (inl long) = omega (arith, long, valid.read.short)
  not-large (inr much) =
      let large = subst (HasMuchData o.init) (module_once bytes much.meaning valid.meaning much.read.spelled valid.read.spelled) much.fact in
      let one = ap (sum_by length) (same-memories _ _ _ _ _ large.plan valid.fits.memories large.is_plan valid.fits.memory_plan).runtime in
      omega (arith, large.size, one, valid.fits.runtime)

  pub memory-only : (e : TranslateError) → HasCause o bytes e → e ≡ refusal.OutOfMemory
  memory-only refusal.Malformed cause = absurd (cause.0 valid.meaning valid.read.spelled)
  memory-only (refusal.Invalid rule) cause =
      let same = module_once bytes valid.meaning cause.meaning valid.read.spelled cause.read.spelled in
      absurd (cause.broken (subst (λ (m : Module). Satisfies rule (lists_of_module m)) same (valid.keeps rule)))
  memory-only (refusal.Unsupported what) cause = absurd (spells_or_stops bytes valid.meaning what valid.read.spelled valid.read.no_interface_types cause)
  memory-only refusal.TooLarge cause = absurd (not-large cause)
  memory-only refusal.OffsetOverflow cause = absurd (valid-fits o bytes cause valid)
  memory-only refusal.OutOfMemory cause = refl
