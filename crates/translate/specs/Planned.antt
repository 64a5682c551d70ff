-- What a plan says of a module, and why there is none.
use Rattle.std.specs.Prelude.{◌≡◌, ◌⊎◌, ℕ, ◌^◌, ◌≤◌, List, length, map, option_map, Result, Ok, Err}
use Rattle.wasm_spec.specs.Module.{Module}
use Rattle.wasm_spec.specs.Grammar.{Spells, Stops}
use Rattle.wasm_spec.specs.declared.operators.What.{What}
use Rattle.type_spec.specs.Interned.{Built}
use Rattle.rule_spec.specs.Rules.{Keeps}
use Rattle.wasm_index.specs.Index.{number_of}
use Rattle.module_types.specs.Views.{interned_of, span_of}
use Rattle.module_types.specs.TypeList.{TypeList}
use Rattle.init_plan.specs.Views.{memory_plan_of}
use Rattle.init_plan.specs.Tables.{plan_of_tables}
use Rattle.gc_layout.specs.Objects.{object_layout, gc_layout_of}
use Rattle.vm_offsets.specs.Layouts.{fields_of}
use Rattle.module_environ.specs.Readable.{IsReadable, Breaks}
use Rattle.interned_types.specs.Types.{interned_list}
use Rattle.plan_text.specs.declared.plan.Plan.{Plan}
use Rattle.plan_text.specs.declared.error.TranslateError.{TranslateError}
use Rattle.plan_text.specs.declared.error.TranslateError.TheVariants as refusal
use Rattle.translate.specs.Options.{InitOptions, Options, header_size, startup_by, runs, HasDataSize}
use Rattle.translate.specs.Contexts.{context_of, HasSizes, Overflows}
use Rattle.translate.specs.Initialised.{IsInitialised}

-- the list has these types, with the range of each group and the trampolines
pub record HoldsTypes (l : TypeList) (b : Built) : Type 0 where
  pub types : map interned_of l.types ≡ b.types
  pub groups : map span_of l.groups ≡ b.groups
  pub trampolines : map (option_map number_of) l.trampolines ≡ b.trampolines

-- the plan is that of the module
pub record IsPlanOf (o : Options) (bytes : List ℕ) (m : Module) (plan : Plan) : Type 0 where
  -- in each phase it gives what the module's initialisers give; all other fields are the module's
  -- lists
  pub translation : IsInitialised o.init bytes m plan.translation
  -- its types are the interned types of the module, with a startup type exactly where startup may
  -- run
  pub types : HoldsTypes plan.types (interned_list m (runs (startup_by m (memory_plan_of plan.translation) (plan_of_tables plan.translation))))
  -- each type has the layout of its objects
  pub layouts : map (option_map object_layout) plan.layouts ≡ map (λ t. gc_layout_of (header_size o.collector) t.composite_type.inner) plan.types.types
  -- the context has the module's counts
  pub offsets : fields_of plan.offsets ≡ context_of o m (memory_plan_of plan.translation) (plan_of_tables plan.translation)
  pub sizes : HasSizes o m (memory_plan_of plan.translation) (plan_of_tables plan.translation)

-- the bytes spell a module that keeps the listed rules, and the plan is its plan
pub record IsPlanned (o : Options) (bytes : List ℕ) (plan : Plan) : Type 0 where
  pub meaning : Module
  pub read : IsReadable bytes meaning
  pub keeps : Keeps meaning
  pub planned : IsPlanOf o bytes meaning plan

-- the bytes spell a module that keeps the listed rules, of which a fact holds
pub record KeepsAnd (bytes : List ℕ) (P : Module → Type 0) : Type 0 where
  pub meaning : Module
  pub read : IsReadable bytes meaning
  pub keeps : Keeps meaning
  pub fact : P meaning

-- the runtime data of the module pass 4294967295 bytes
abbrev pub HasMuchData : InitOptions → Module → Type 0
HasMuchData i m = HasDataSize i m (λ size. 2 ^ 32 ≤ size)

-- why the bytes are refused
abbrev pub HasCause : Options → List ℕ → TranslateError → Type 0
HasCause o bytes refusal.Malformed = ((m : Module) → ¬ Spells bytes m) × ((what : What) → ¬ Stops bytes what)
-- the rule that is named is the first that is broken
HasCause o bytes (refusal.Invalid rule) = Breaks rule bytes
HasCause o bytes (refusal.Unsupported what) = Stops bytes what
HasCause o bytes refusal.TooLarge = (2 ^ 30 ≤ length bytes) ⊎ KeepsAnd bytes (HasMuchData o.init)
HasCause o bytes refusal.OffsetOverflow = KeepsAnd bytes (Overflows o)
HasCause o bytes refusal.OutOfMemory = Unit {0}

-- there is a plan, or no memory for it
abbrev pub SucceedsOrNoMemory : {A : Type 0} → Result A TranslateError → Type 0
SucceedsOrNoMemory (Ok answer) = Unit {0}
SucceedsOrNoMemory (Err e) = e ≡ refusal.OutOfMemory
