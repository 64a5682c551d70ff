-- Why the plans of memories and tables fail, as the reason why there is no plan at all.
use Rattle.std.proofs.Common.{◌≡◌, ℕ, List, length, refl, sym, ap, subst, inr, arith}
use Rattle.std.specs.Prelude.{sum_by}
use Rattle.wasm_spec.specs.Module.{Module}
use Rattle.rule_spec.specs.Rules.{Keeps}
use Rattle.init_plan.specs.declared.error.PlanError.{PlanError}
use Rattle.init_plan.specs.declared.error.PlanError.TheVariants as plan
use Rattle.module_environ.specs.Readable.{IsReadable}
use Rattle.plan_text.specs.Errors.{error_of_plan}
use Rattle.plan_text.specs.declared.error.TranslateError.TheVariants as refusal
use Rattle.translate.specs.Options.{InitOptions, Options}
use Rattle.translate.specs.Planned.{HasMuchData, HasCause}
use Rattle.translate.specs.Valid.{CanBeInitialised}
use Rattle.translate.proofs.OnePlan.{same-memories}

-- the memories have no plan
pub memories_cause : (i : InitOptions) (o : Options) (bytes : List ℕ) (m : Module) (e : PlanError) → o.init ≡ i → IsReadable bytes m → Keeps m
    → (e ≡ plan.TooLarge → HasMuchData i m) → HasCause o bytes (error_of_plan e)
memories_cause i o bytes m plan.TooLarge is read keeps much =
    inr (record { meaning = m; read = read; keeps = keeps; fact = rw is (much refl) })
memories_cause i o bytes m e is read keeps much = tt

-- where its data fit, memory ran out
pub memories_complete : (i : InitOptions) (bytes : List ℕ) (m : Module) (e : PlanError) (can : CanBeInitialised i bytes) → can.meaning ≡ m
    → (e ≡ plan.TooLarge → HasMuchData i m) → error_of_plan e ≡ refusal.OutOfMemory
memories_complete i bytes m plan.TooLarge can same much =
    let large = subst (HasMuchData i) (sym same) (much refl) in
    let one = ap (sum_by length) (same-memories _ _ _ _ _ large.plan can.memories large.is_plan can.memory_plan).runtime in
    absurd (omega (arith, large.size, one, can.runtime))
memories_complete i bytes m e can same much = refl

-- the tables have no plan only where memory ran out
pub tables_error : (e : PlanError) → (e ≡ plan.TooLarge → ⊥) → error_of_plan e ≡ refusal.OutOfMemory
tables_error plan.TooLarge never = absurd (never refl)
tables_error e never = refl
