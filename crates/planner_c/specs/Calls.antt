-- What the calls from C promise.
use Rattle.std.specs.Prelude.{◌≡◌, ◌⊎◌, ◌≤◌, ℕ, zero, suc, Bool, false, nat_eq, not, List, None}
use Rattle.std.specs.Int.{IsPowerOfTwo}
use Rattle.command_words.specs.declared.command.Collector.{Collector}
use Rattle.command_words.specs.declared.command.Collector.TheVariants.{Drc, Null}
use Rattle.command_words.specs.declared.command.Command.{Command}
use Rattle.plan_text.specs.declared.plan.Plan.{Plan}
use Rattle.plan_text.specs.declared.error.TranslateError.{TranslateError}
use Rattle.translate.specs.Options.{Options, options_of}
use Rattle.translate.specs.Planned.{IsPlanned, HasCause}
use Rattle.planner_c.specs.declared.options.PlanOptions.{PlanOptions}
use Rattle.planner_c.specs.declared.text.TextRecord.{TextRecord}

-- a switch is on unless it is 0
abbrev pub is_on : ℕ → Bool
is_on n = not (nat_eq n 0)

abbrev pub collector_for : ℕ → Collector
collector_for zero = Drc
collector_for (suc n) = Null

-- the command without a file that the options represent
abbrev pub command_for : PlanOptions → Command
command_for o = record {
  generate = None;
  tunables = record {
    debug_native = is_on o.native_debug;
    debug_guest = is_on o.guest_debug;
    parse_wasm_debuginfo = false;
    branch_hinting = is_on o.branch_hints;
    memory_init_cow = is_on o.cow;
    table_lazy_init = is_on o.lazy_tables;
    signals_based_traps = false;
  };
  page_size = o.page_size;
  max_image = o.max_image;
  ptr = o.pointer;
  collector = collector_for o.collector;
}

-- what a module is planned with
abbrev pub options_for : PlanOptions → Options
options_for o = options_of (command_for o)

-- they are accepted
pub record AreRight (o : PlanOptions) : Type 0 where
  pub pointer : (o.pointer ≡ 4) ⊎ (o.pointer ≡ 8)
  pub page_size : IsPowerOfTwo o.page_size
  pub collector : o.collector ≤ 1

-- a plan, a refusal, wrong options, or no memory
abbrev pub IsStatus : ℕ → Type 0
IsStatus status = (status ≡ 0) ⊎ (status ≡ 1) ⊎ (status ≡ 2) ⊎ (status ≡ 5)

-- the bytes spell a module that keeps the listed rules, and of its plan a fact holds
pub record HasPlan (o : PlanOptions) (bytes : List ℕ) (P : Plan → Type 0) : Type 0 where
  pub plan : Plan
  pub planned : IsPlanned (options_for o) bytes plan
  pub holds : P plan

-- the bytes are refused for a cause, and of the refusal a fact holds
pub record HasRefusal (o : PlanOptions) (bytes : List ℕ) (P : TranslateError → Type 0) : Type 0 where
  pub refusal : TranslateError
  pub cause : HasCause (options_for o) bytes refusal
  pub holds : P refusal

-- the record has a text, and says whether it is in memory of its own
abbrev pub GivesText : ℕ → List ℕ → TextRecord → Type 0
GivesText made text r = (r.text.now ≡ text) × (r.made ≡ made)
