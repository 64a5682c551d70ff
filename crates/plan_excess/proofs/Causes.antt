-- Bytes that are refused for another cause are not too large, and an excess is an entry of its
-- module.
use Rattle.std.proofs.Common.{◌≡◌, ◌≢◌, ◌^◌, ◌≤◌, ℕ, List, length, Option, Some, None, inl, inr, refl, subst, arith}
use Rattle.std.specs.Prelude.{◌⊎◌}
use Rattle.std.proofs.lemmas.Option.{slice_get_within, same_Some}
use Rattle.wasm_spec.specs.Module as plain
use Rattle.wasm_spec.specs.Module.{Module}
use Rattle.rule_spec.specs.declared.rules.Rule.{Rule}
use Rattle.rule_spec.specs.Lists.{lists_of_module}
use Rattle.rule_spec.specs.Rules.{Satisfies, Keeps}
use Rattle.rule_breaks.specs.declared.list_places.EntryPlace.{EntryPlace}
use Rattle.command_words.specs.declared.command.Collector.{Collector}
use Rattle.form_reader.proofs.SectionLaws.{module_once}
use Rattle.form_reader.proofs.Outcomes.{spells_or_stops}
use Rattle.init_plan.specs.Views.{memory_plan_of}
use Rattle.init_plan.specs.Tables.{plan_of_tables}
use Rattle.module_environ.specs.Readable.{IsReadable, Breaks}
use Rattle.interned_types.proofs.DeclaredKinds.{types-long}
use Rattle.plan_text.specs.declared.plan.Plan.{Plan}
use Rattle.plan_text.specs.declared.error.TranslateError.{TranslateError}
use Rattle.plan_text.specs.declared.error.TranslateError.TheVariants as refusal
use Rattle.translate.specs.Contexts.{Overflows}
use Rattle.translate.specs.Options.{Options}
use Rattle.translate.specs.Planned.{KeepsAnd, HasMuchData, HasCause, IsPlanned}
use Rattle.translate.specs.Valid.{IsValid}
use Rattle.plan_excess.specs.declared.kinds.ExcessKind.{ExcessKind}
use Rattle.plan_excess.specs.declared.kinds.ExcessKind.TheVariants as kind
use Rattle.plan_excess.specs.Excess.{CausesExcess, HasEntry, IsPlaced, ExceedsBy, entry_of}
use Rattle.plan_excess.specs.Large.{IsFirstLarge, HasSmallObjects, HasSmallExceptions}
use Rattle.plan_excess.proofs.Overflowing.{context-large}

-- ---- a plan

pub planned-valid : (o : Options) (bytes : List ℕ) (plan : Plan) → IsPlanned o bytes plan → IsValid o bytes
planned-valid o bytes plan is = record {
  meaning = is.meaning;
  read = is.read;
  keeps = is.keeps;
  fits = record {
    memories = memory_plan_of plan.translation;
    tables = plan_of_tables plan.translation;
    memory_plan = is.planned.translation.memories.plan;
    table_plan = is.planned.translation.tables;
    runtime = is.planned.translation.memories.fits;
    sizes = is.planned.sizes;
  };
}

-- ---- another cause

-- the bytes are too large for a plan
abbrev pub IsTooLarge : Options → List ℕ → Type 0
IsTooLarge o bytes = HasCause o bytes refusal.TooLarge ⊎ HasCause o bytes refusal.OffsetOverflow

module _ (o : Options) (bytes : List ℕ) where
  module _ (P : Module → Type 0) (kept : KeepsAnd bytes P) where
    not-broken : (r : Rule) → Breaks r bytes → ⊥
    not-broken r breaks =
        let same = module_once bytes kept.meaning breaks.meaning kept.read.spelled breaks.read.spelled in
        breaks.broken (subst (λ (m : Module). Satisfies r (lists_of_module m)) same (kept.keeps r))

    -- what keeps the rules is refused for a size alone
    sizes-alone : (e : TranslateError) → HasCause o bytes e → e ≢ refusal.TooLarge → e ≢ refusal.OffsetOverflow → e ≡ refusal.OutOfMemory
    sizes-alone refusal.Malformed cause not_data not_offsets = absurd (cause.0 kept.meaning kept.read.spelled)
    sizes-alone (refusal.Invalid rule) cause not_data not_offsets = absurd (not-broken rule cause)
    sizes-alone (refusal.Unsupported what) cause not_data not_offsets =
        absurd (spells_or_stops bytes kept.meaning what kept.read.spelled kept.read.no_interface_types cause)
    sizes-alone refusal.TooLarge cause not_data not_offsets = absurd (not_data refl)
    sizes-alone refusal.OffsetOverflow cause not_data not_offsets = absurd (not_offsets refl)
    sizes-alone refusal.OutOfMemory cause not_data not_offsets = refl

  -- where another error goes first than that of the length
  pub large-refused : (e : TranslateError) → (2 ^ 30 ≤ length bytes → e ≡ refusal.TooLarge) → HasCause o bytes e → e ≢ refusal.TooLarge
      → e ≢ refusal.OffsetOverflow → IsTooLarge o bytes → e ≡ refusal.OutOfMemory
  large-refused e long cause not_data not_offsets (inl (inl far)) = absurd (not_data (long far))
  large-refused e long cause not_data not_offsets (inl (inr kept)) = sizes-alone (HasMuchData o.init) kept e cause not_data not_offsets
  large-refused e long cause not_data not_offsets (inr kept) = sizes-alone (Overflows o) kept e cause not_data not_offsets

  -- so a refusal that is none of these is for no size
  pub other-refused : (e : TranslateError) → (2 ^ 30 ≤ length bytes → Some e ≡ Some refusal.TooLarge) → HasCause o bytes e → e ≢ refusal.TooLarge
      → e ≢ refusal.OffsetOverflow → e ≢ refusal.OutOfMemory → IsTooLarge o bytes → ⊥
  other-refused e long cause not_data not_offsets not_memory large =
      not_memory (large-refused e (λ far. same_Some e refusal.TooLarge (long far)) cause not_data not_offsets large)

  -- and what has a plan is not too large
  pub none-refused : ((e : TranslateError) → HasCause o bytes e → e ≡ refusal.OutOfMemory) → IsTooLarge o bytes → ⊥
  none-refused none (inl cause) = absurd (let e = none refusal.TooLarge cause in cc)
  none-refused none (inr cause) = absurd (let e = none refusal.OffsetOverflow cause in cc)

-- ---- entries

module _ (m : Module) where
  -- the first large type or tag is listed
  pub first-listed : (c : Collector) (k : ExcessKind) → IsFirstLarge c m (Some k) → HasEntry m (entry_of k)
  first-listed c (kind.Object i) first = omega (arith, first.0.declared, types-long m)
  first-listed c (kind.Exception tag) first = slice_get_within (plain.tags m) tag first.1.function first.1.stands
  first-listed c kind.Input first = absurd first
  first-listed c (kind.Image memory) first = absurd first
  first-listed c kind.Context first = absurd first

  -- and what the module exceeds by
  pub first-causes : (o : Options) (c : Collector) (k : ExcessKind) → o.collector ≡ c → IsFirstLarge c m (Some k) → CausesExcess o m k
  first-causes o c (kind.Object i) is first = rw is first
  first-causes o c (kind.Exception tag) is first = rw is first
  first-causes o c kind.Input is first = absurd first
  first-causes o c (kind.Image memory) is first = absurd first
  first-causes o c kind.Context is first = absurd first

-- the excess, where it is placed
pub placed-excess : (o : Options) (bytes : List ℕ) (m : Module) (k : ExcessKind) (place : Option EntryPlace) → IsReadable bytes m → Keeps m
    → CausesExcess o m k → IsPlaced bytes m (entry_of k) place → ExceedsBy o bytes k place
placed-excess o bytes m kind.Input place read keeps cause at = absurd cause
placed-excess o bytes m (kind.Image memory) place read keeps cause at = record { meaning = m; read = read; keeps = keeps; fact = (cause, at) }
placed-excess o bytes m (kind.Object i) place read keeps cause at = record { meaning = m; read = read; keeps = keeps; fact = (cause, at) }
placed-excess o bytes m (kind.Exception tag) place read keeps cause at = record { meaning = m; read = read; keeps = keeps; fact = (cause, at) }
placed-excess o bytes m kind.Context place read keeps cause at = record { meaning = m; read = read; keeps = keeps; fact = (cause, at) }

-- the context exceeds, where a module that keeps the rules overflows and nothing else is large
pub context-excess : (o : Options) (c : Collector) (bytes : List ℕ) → o.collector ≡ c → KeepsAnd bytes (Overflows o)
    → KeepsAnd bytes (λ m. IsFirstLarge c m None) → ExceedsBy o bytes kind.Context None
context-excess o c bytes is over found =
    let m = over.meaning in
    let same = module_once bytes found.meaning m found.read.spelled over.read.spelled in
    let small = subst (λ (m : Module). IsFirstLarge c m None) same found.fact in
    let objects : HasSmallObjects o.collector m = rw is small.0 in
    let exceptions : HasSmallExceptions o.collector m = rw is small.1 in
    record { meaning = m; read = over.read; keeps = over.keeps; fact = ((context-large o m objects exceptions over.fact, objects, exceptions), refl) }
