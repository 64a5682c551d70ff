use Rattle.std.proofs.Common.{◌≡◌, ◌∙◌, Err, inl, inr, refl, sym, ap, subst, arith, true≢false}
use Rattle.std.proofs.lemmas.Result.{IfErr-at_err}
use Rattle.plan_link.specs.declared.program_error.ProgramError.{ProgramError}
use Rattle.plan_link.specs.declared.program_error.ProgramError.TheVariants as error
use Rattle.plan_link.specs.Program.{IsProgram, ShareIndices}
use Rattle.planner_c.specs.Programs.{all_answers}
use Rattle.planner_c.proofs.Exported.{at-zero, all-tell}
use Rattle.planner_c.proofs.Faults.{no-err, no-fault, fault-of}
use Rattle.planner_c.proofs.program_linking.link_members.Goals as goal

-- the modules are linked

pub tell_linked-requires-clause-zero : goal.tell_linked-requires-clause-zero
tell_linked-requires-clause-zero c =
    let program = c.args.program.now in
    at-zero c.planned_can_link.ensures.linkable program c.requires c.deref.result.now
    (subst (IsProgram program) (sym c.deref.ensures.value) c.in-Ok.ensures.linked)

pub returns-in-Ok-clause-told : goal.returns-in-Ok-clause-told
returns-in-Ok-clause-told c = λ success.
    let program = c.args.program.now in
    let results = c.deref.result.now in
    let value = sym c.deref.ensures.value in
    let is : IsProgram program results = subst (IsProgram program) value c.in-Ok.ensures.linked in
    let told = c.tell_linked.ensures.told success in
    record {
      results = results;
      linked = is;
      shared = subst (ShareIndices program) value c.in-Ok.ensures.types;
      told = record {
        planned = told.planned;
        modules = told.modules;
        types = told.types;
        answers = all-tell c.planned_can_link.ensures.linkable program c.requires results is (all_answers results) c.tell_linked.new.out.answers.now told.answers;
      };
      right = no-fault program (λ k crowded. no-err _ _ ((c.in-Ok.ensures.crowded k).1 crowded))
          (λ k fits twice. elim (c.in-Ok.ensures.repeated k fits twice) [ inl e ↦ no-err _ _ e | inr e ↦ no-err _ _ e ]);
    }

-- the program is refused

pub returns-in-Err-clause-fault : goal.returns-in-Err-clause-fault
returns-in-Err-clause-fault c = λ is.
    fault-of c.args.program.now c.in-Err.refusal c.tell_fault.new.out (λ k e. c.in-Err.ensures.duplicate k (ap Err e))
    (λ k. (
      (λ e. (c.in-Err.ensures.crowded k).0 (ap Err e)),
      (λ passes. IfErr-at_err (λ (y : ProgramError). c.in-Err.refusal ≡ y) ((c.in-Err.ensures.crowded k).1 passes) refl),
    ))
    (c.tell_fault.ensures.told is)

pub returns-in-Err-clause-complete : goal.returns-in-Err-clause-complete
returns-in-Err-clause-complete c = λ right is.
    elim (c.in-Err.ensures.complete right.fits right.once) [
      | inl ok ↦ true≢false (sym ok)
      | inr memory ↦
          let same : c.in-Err.refusal ≡ error.OutOfMemory = IfErr-at_err (λ (y : ProgramError). c.in-Err.refusal ≡ y) memory refl in
          omega (arith, is, c.tell_fault.ensures.memory same)
    ]
