use Rattle.std.proofs.Common.{◌≡◌, ◌≤◌, ◌^◌, ap, ◌∙◌, Err, rules}
use Rattle.std.proofs.lemmas.Result.{err_from_is_err_and}
use Rattle.rule_spec.specs.declared.rules.Rule.TheVariants.{L6}
use Rattle.module_types.specs.Builder.{Builder, BuilderState}
use Rattle.init_plan.specs.Views.{memory_plan_of}
use Rattle.init_plan.specs.declared.error.PlanError.TheVariants as plan
use Rattle.form_reader.proofs.SectionLaws.{module_once}
use Rattle.init_plan.proofs.Holding.{data_agree, elements_agree, globals_agree}
use Rattle.plan_text.specs.Errors.{error_of_translation}
use Rattle.translate.specs.Options.{init_options}
use Rattle.translate.proofs.AllPlanned.{room_first, room_next, holds_data, all_planned}
use Rattle.translate.proofs.PlannedMemories.{data_size}
use Rattle.translate.proofs.PlannedTables.{holds_still}
use Rattle.translate.proofs.Refusals.{memories_cause, memories_complete, tables_error}
use Rattle.translate.proofs.initialising.planned_translation.Goals as goal

-- ---- there is no translation

pub returns-in_err-translation-clause-complete : goal.returns-in_err-translation-clause-complete
returns-in_err-translation-clause-complete c = λ can.
    let p = err_from_is_err_and c.from_residual-in_err-translation.result c.from_residual-in_err-translation.ensures.1 in
    let new = ap (λ (b : Builder). b.is_poisoned) c.requires.new in
    let h = c.in_err-translation.ensures.complete can.meaning can.read can.keeps in
    rw p.1 (p.2 ∙ ap error_of_translation (h (ap (λ (k : BuilderState). k.is_poisoned) c.in_ok-environment.ensures.types ∙ new)))

-- ---- the memories are planned

pub finalize_memory_init-requires-clause-room : goal.finalize_memory_init-requires-clause-room
finalize_memory_init-requires-clause-room c = λ sound.
    let e = c.in_ok-environment.ensures in
    let back : c.translate.new.self.1.1.0 ≡ c.types-2-1.given.0 = search rules in
    room_first (rw (e.tunables, e.index, c.from_u32-index.ensures, e.validator, c.requires.number, back) at c.in_ok-translation.ensures.translated)

pub returns-in-Err-clause-cause : goal.returns-in-Err-clause-cause
returns-in-Err-clause-cause c =
    let i = init_options c.args.tunables.now c.args.page_size c.args.max_image in
    let e = c.in_ok-environment.ensures in
    let told = rw (e.tunables, e.index, c.from_u32-index.ensures, e.validator, c.requires.number) at c.in_ok-translation.ensures.translated in
    let much = λ (is : c.in-Err.error ≡ plan.TooLarge). data_size i told.meaning _ (holds_data told) (λ size. 2 ^ 32 ≤ size)
    (c.finalize_memory_init.ensures.too_large (c.in-Err.is ∙ ap Err is)) in
    rw c.into.ensures (λ o same. memories_cause i o _ told.meaning c.in-Err.error same told.read told.keeps much)

pub returns-in-Err-clause-complete : goal.returns-in-Err-clause-complete
returns-in-Err-clause-complete c = λ can.
    let i = init_options c.args.tunables.now c.args.page_size c.args.max_image in
    let e = c.in_ok-environment.ensures in
    let told = rw (e.tunables, e.index, c.from_u32-index.ensures, e.validator, c.requires.number) at c.in_ok-translation.ensures.translated in
    let much = λ (is : c.in-Err.error ≡ plan.TooLarge). data_size i told.meaning _ (holds_data told) (λ size. 2 ^ 32 ≤ size)
    (c.finalize_memory_init.ensures.too_large (c.in-Err.is ∙ ap Err is)) in
    c.into.ensures ∙ memories_complete i _ told.meaning c.in-Err.error can (module_once _ can.meaning told.meaning can.read.spelled told.read.spelled) much

-- ---- the tables are planned

pub finalize_table_init-requires-clause-room : goal.finalize_table_init-requires-clause-room
finalize_table_init-requires-clause-room c = λ sound.
    let e = c.in_ok-environment.ensures in
    let back : c.translate.new.self.1.1.0 ≡ c.types-2-1.given.0 = search rules in
    room_next (rw (e.tunables, e.index, c.from_u32-index.ensures, e.validator, c.requires.number, back) at c.in_ok-translation.ensures.translated)
    c.finalize_memory_init.new.self c.finalize_memory_init.new.types c.in_default.ensures.startup c.in_default.ensures.types

pub returns-in-Err-finalize_table_init-clause-cause : goal.returns-in-Err-finalize_table_init-clause-cause
returns-in-Err-finalize_table_init-clause-cause c =
    let never = tables_error c.in-Err-finalize_table_init.error (λ is. c.finalize_table_init.ensures.never_too_large (c.in-Err-finalize_table_init.is ∙ ap Err is)) in
    rw (c.into-in-Err-finalize_table_init.ensures, never) (λ o same. tt)

pub returns-in-Err-finalize_table_init-clause-complete : goal.returns-in-Err-finalize_table_init-clause-complete
returns-in-Err-finalize_table_init-clause-complete c = λ can.
    let never = tables_error c.in-Err-finalize_table_init.error (λ is. c.finalize_table_init.ensures.never_too_large (c.in-Err-finalize_table_init.is ∙ ap Err is)) in
    c.into-in-Err-finalize_table_init.ensures ∙ never

-- ---- all is planned

pub returns-clause-initialised : goal.returns-clause-initialised
returns-clause-initialised c =
    let e = c.in_ok-environment.ensures in
    let back : c.translate.new.self.1.1.0 ≡ c.types-2-1.given.0 = search rules in
    let told = rw (e.tunables, e.index, c.from_u32-index.ensures, e.validator, c.requires.number, back) at c.in_ok-translation.ensures.translated in
    let old = c.in_ok-translation.translation in
    let mid = c.finalize_memory_init.new.self in
    let m = c.in_default.ensures in
    let t = c.in_default-finalize_table_init.ensures in
    all_planned (init_options c.args.tunables.now c.args.page_size c.args.max_image) {mid = mid} {mid_types = c.finalize_memory_init.new.types} told
    c.startup_law.ensures.memories_first (assumption (
      m,
      t,
      globals_agree told.meaning old told.ready.holds_globals (told.keeps L6).globals,
      data_agree told.meaning old told.ready.holds_memories (memory_plan_of mid) m.agrees,
      elements_agree told.meaning mid _ (holds_still told.meaning old mid m.same told.ready.holds_tables) t.agrees,
    ))
