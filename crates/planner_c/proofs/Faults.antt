-- Why a program is refused, and why not.
use Rattle.std.proofs.Common.{◌≡◌, ◌<◌, ◌≤◌, ◌+◌, ℕ, zero, suc, List, length, take, Ok, Err, inl, inr, refl, sym, subst, arith}
use Rattle.std.specs.Prelude.{◌⊎◌, ◌↔◌, ⊤}
use Rattle.std.proofs.lemmas.Bool.{cases_lt}
use Rattle.std.proofs.lemmas.List.{take_all}
use Rattle.std.proofs.lemmas.Result.{IfErr-at_err}
use Rattle.plan_link.specs.declared.program.ProgramModule.{ProgramModule}
use Rattle.plan_link.specs.declared.program_error.ProgramError.{ProgramError}
use Rattle.plan_link.specs.declared.program_error.ProgramError.TheVariants as error
use Rattle.plan_link.specs.Program.{IsDuplicate, IsCrowded, count_types, capacity}
use Rattle.planner_c.specs.declared.programs.ProgramRecord.{ProgramRecord}
use Rattle.planner_c.specs.Programs.{HasNoFault, TellsCause, TellsError, TellsFault}

pub no-err : {T E : Type 0} (x : T) (e : E) → Ok x ≡ Err e → ⊥
no-err {T} {E} x e is = IfErr-at_err (λ (y : E). ⊥) is tt

-- ---- no fault

module _ (program : List ProgramModule) (none : (k : ℕ) → IsCrowded program k → ⊥) where
  few : (n : ℕ) → count_types (take n program) ≤ capacity
  few zero = omega arith
  few (suc n) = elim (cases_lt capacity (count_types (take (suc n) program))) [
    | inl passes ↦
        let is : suc n ≡ n + 1 = omega arith in
        absurd (none n (record { fits = few n; passes = subst (λ (k : ℕ). capacity < count_types (take k program)) is passes }))
    | inr fits ↦ fits
  ]

  -- modules that are nowhere too many have few types
  pub fits : count_types program ≤ capacity
  fits = subst (λ (ms : List ProgramModule). count_types ms ≤ capacity) (take_all (length program) program (omega arith)) (few (length program))

  pub no-fault : ((k : ℕ) → count_types program ≤ capacity → IsDuplicate program k → ⊥) → HasNoFault program
  no-fault once = record { fits = fits; once = λ k twice. once k fits twice }

-- ---- a fault

is-duplicate : ProgramError → Type 0
is-duplicate (error.Duplicate k) = ⊤
is-duplicate _ = ⊥

pub fault-of : (program : List ProgramModule) (e : ProgramError) (r : ProgramRecord) → ((k : ℕ) → e ≡ error.Duplicate k → IsDuplicate program k)
    → ((k : ℕ) → e ≡ error.TooManyTypes k ↔ IsCrowded program k) → TellsError e r → TellsFault program r
unfolding is-duplicate
fault-of program (error.Duplicate k) r duplicate crowded told =
    let is = sym told.cause_is.1 in
    let few = fits program (λ i passes. subst is-duplicate ((crowded i).1 passes) tt) in
    inl (subst (λ (j : ℕ). TellsCause 2 j r) is told, few, subst (IsDuplicate program) is (duplicate k refl))
fault-of program (error.TooManyTypes k) r duplicate crowded told =
    let is = sym told.cause_is.1 in
    inr (subst (λ (j : ℕ). TellsCause 3 j r) is told, subst (IsCrowded program) is ((crowded k).0 refl))
fault-of program error.OutOfMemory r duplicate crowded told = absurd told
