-- The plans of one module have one context and one list of interned types, so input whose sizes fit
-- does not overflow.
use Rattle.std.proofs.Common.{◌≡◌, ℕ, ◌<◌, List, length, inl, inr, ap, subst, arith}
use Rattle.std.specs.Prelude.{◌⊎◌, Contains}
use Rattle.wasm_spec.specs.Module.{Module}
use Rattle.rule_spec.specs.Lists.{lists_of_module}
use Rattle.replay_spec.specs.Plan.{MemoryPlan}
use Rattle.replay_spec.specs.Tables.{TablePlan}
use Rattle.vm_offsets.specs.Context.{context_size}
use Rattle.module_types.specs.Views.{interned_of}
use Rattle.interned_types.specs.Types.{interned_list}
use Rattle.form_reader.proofs.SectionLaws.{module_once}
use Rattle.translate.specs.Options.{Options, runs, startup_by, PlansMemories, PlansTables}
use Rattle.translate.specs.Contexts.{context_of, HasLargeObject, HasSizes, size_of_context, Overflows}
use Rattle.translate.specs.Planned.{KeepsAnd}
use Rattle.translate.specs.Valid.{IsValid, CanBeInitialised}
use Rattle.translate.proofs.OnePlan.{SameMemories, same-memories, same-tables, same-startup}

module _ (o : Options) (m : Module) (p q : MemoryPlan) (s t : TablePlan) (is_p : PlansMemories o.init m p) (is_q : PlansMemories o.init m q)
    (is_s : PlansTables o.init m s) (is_t : PlansTables o.init m t) where
  pub one-memories : SameMemories p q
  one-memories = same-memories _ _ _ _ _ p q is_p is_q

  pub one-startup : startup_by m p s ≡ startup_by m q t
  one-startup = same-startup (lists_of_module m) p q s t one-memories (same-tables _ _ _ _ s t is_s is_t)

  pub one-context : context_of o m p s ≡ context_of o m q t
  one-context = λ i. record (context_of o m p s) { num_runtime_data = length (one-memories.runtime i); has_startup_func = runs (one-startup i) }

  one-fits : HasLargeObject o m p s ⊎ (4294967295 < size_of_context o m p s) → HasSizes o m q t → ⊥
  one-fits (inl object) sizes =
      let interned = subst (λ kind. Contains (interned_list m (runs kind)).types (interned_of object.type)) one-startup object.interned in
      omega (arith, sizes.objects object.type interned, object.large)
  one-fits (inr large) sizes = omega (arith, ap (context_size o.pointer) one-context, large, sizes.context)

-- valid input does not overflow
pub valid-fits : (o : Options) (bytes : List ℕ) → KeepsAnd bytes (Overflows o) → IsValid o bytes → ⊥
valid-fits o bytes over valid =
    let it = subst (Overflows o) (module_once bytes over.meaning valid.meaning over.read.spelled valid.read.spelled) over.fact in
    let fits = valid.fits in
    one-fits o valid.meaning it.memories fits.memories it.tables fits.tables it.memory_plan fits.memory_plan it.table_plan fits.table_plan it.large fits.sizes

-- and can be initialised
pub valid-begins : (o : Options) (bytes : List ℕ) → IsValid o bytes → CanBeInitialised o.init bytes
valid-begins o bytes valid = record {
  meaning = valid.meaning;
  read = valid.read;
  keeps = valid.keeps;
  memories = valid.fits.memories;
  memory_plan = valid.fits.memory_plan;
  runtime = valid.fits.runtime;
}
