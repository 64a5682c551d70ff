-- Startup, as it is raised from one call to the next, with the builder.
use Rattle.std.proofs.Common.{◌≡◌, ◌<◌, ◌+◌, ℕ, Bool, true, false, not, [], ◌∷◌, length, length-append, Option, Some, None, refl, ap, arith}
use Rattle.std.specs.Prelude.{if◌then◌else◌}
use Rattle.std.proofs.lemmas.Bool.{cases_Bool}
use Rattle.wasm_spec.specs.Module.{Module}
use Rattle.rule_spec.specs.Lists.{lists_of_module}
use Rattle.type_spec.specs.Interned.{Built, startup_type, with_startup}
use Rattle.wasm_module.specs.declared.startup.ModuleStartup.{ModuleStartup}
use Rattle.replay_spec.specs.Plan.{MemoryPlan}
use Rattle.replay_spec.specs.Startup.{Startup, Never, Always, leaves_nothing, keeps_no_table, keeps_no_data, first_startup, raised_by_tables, raised_by_memories}
use Rattle.replay_spec.specs.Tables.{TablePlan}
use Rattle.module_types.specs.Builder.{Builder, starts}
use Rattle.init_plan.specs.Startup.{startup_kind, startup_with, raised, types_after}
use Rattle.interned_types.specs.Types.{interned_list, type_index}
use Rattle.module_environ.specs.Translated.{HoldsInternedTypes, startup_index_when, starts_always}
use Rattle.module_environ.specs.Translation.{startup_when}
use Rattle.translate.specs.Options.{runs}

-- the startup type comes next, where there is one
abbrev index_when : Built → Bool → Option ℕ
index_when types false = None
index_when types true = Some (length types.types)

-- startup runs then, and the builder holds these types, and the startup type behind them where it
-- may run
pub record IsStarted (types : Built) (kind : Startup) (s : ModuleStartup) (b : Builder) : Type 0 where
  pub startup : s ≡ startup_with kind (type_index (length types.types))
  pub built : b.built ≡ with_startup types (runs kind)
  pub index : b.startup ≡ index_when types (runs kind)
  pub sound : b.is_poisoned ≡ false

-- when it runs
pub kind_of : (types : Built) (kind : Startup) (s : ModuleStartup) (b : Builder) → IsStarted types kind s b → startup_kind s ≡ kind
kind_of types Never s b h = ap startup_kind h.startup
kind_of types kind s b h = ap startup_kind h.startup

-- one type more fits where two more fit
pub has_room : (types : Built) (kind : Startup) (s : ModuleStartup) (b : Builder) → IsStarted types kind s b → length types.types + 1 < 4294967295
    → length (starts b).built.types < 4294967295
has_room types Never s b h room = rw (h.index, h.built) (let l = length-append types.types (startup_type ∷ []) in omega (arith, l))
has_room types kind s b h room = rw (h.index, h.built) (let l = length-append types.types (startup_type ∷ []) in omega (arith, l))

-- it is never lowered
abbrev IsRaised : Startup → Startup → Type 0
IsRaised before after = after ≡ Never → before ≡ Never

raise : (types : Built) (before after : Startup) (s : ModuleStartup) (b : Builder) → IsStarted types before s b → IsRaised before after
    → IsStarted types after (raised after s b) (types_after after s b)
raise types Never Never s b h up = record { startup = refl; built = h.built; index = h.index; sound = h.sound }
raise types Never after s b h up = rw h.startup (record {
  startup = rw (h.index, h.built) refl;
  built = rw (h.index, h.built) refl;
  index = rw (h.index, h.built) refl;
  sound = rw h.index h.sound;
})
raise types before Never s b h up = let e = up refl in absurd cc
raise types before after s b h up = rw h.startup (record { startup = refl; built = h.built; index = h.index; sound = h.sound })

-- raised by a plan, from the present startup
pub next : (types : Built) (by : Startup → Startup) (kind : Startup) (s after : ModuleStartup) (b gained : Builder)
    → ((k : Startup) → IsRaised k (by k)) → IsStarted types kind s b → after ≡ raised (by (startup_kind s)) s b
    → gained ≡ types_after (by (startup_kind s)) s b → IsStarted types (by kind) after gained
next types by kind s after b gained up h startup grown = rw (startup, grown, kind_of types kind s b h) (raise types kind (by kind) s b h (up kind))

-- the types are few, with the startup type too
pub few_types : (types : Built) (kind : Startup) (s : ModuleStartup) (b : Builder) → IsStarted types kind s b → length types.types + 1 < 4294967295
    → length b.built.types < 4294967295
few_types types Never s b h room = rw h.built (omega arith)
few_types types kind s b h room = rw h.built (let l = length-append types.types (startup_type ∷ []) in omega (arith, l))

-- ---- by the plans

pub raised-memories : (plan : MemoryPlan) (k : Startup) → IsRaised k (raised_by_memories plan k)
raised-memories plan Never e = refl
raised-memories plan k e = let v = cases_Bool (keeps_no_data plan) in grind arith

pub raised-tables : (plan : TablePlan) (k : Startup) → IsRaised k (raised_by_tables plan k)
raised-tables plan k e = let v = cases_Bool (keeps_no_table plan) in grind arith

-- ---- before the plans

first : (m : Module) (nothing : Bool) (s : ModuleStartup) (b : Builder) → s ≡ startup_when m (not nothing) → b.built ≡ interned_list m (not nothing)
    → b.startup ≡ startup_index_when m (not nothing) → b.is_poisoned ≡ false
    → IsStarted (interned_list m false) (if nothing then Never else Always) s b
first m true s b startup built index sound = record { startup = startup; built = built; index = index; sound = sound }
first m false s b startup built index sound = record { startup = startup; built = built; index = index; sound = sound }

pub starts_first : (m : Module) (s : ModuleStartup) (b : Builder) → s ≡ startup_when m (starts_always m) → HoldsInternedTypes m b
    → IsStarted (interned_list m false) (first_startup (lists_of_module m)) s b
starts_first m s b startup h = first m (leaves_nothing (lists_of_module m)) s b startup h.built h.startup h.sound

few : (m : Module) (runs : Bool) (n : ℕ) → n ≡ length (interned_list m runs).types → n + 1 < 4294967295 → length (interned_list m false).types + 1 < 4294967295
few m true n e lt = let l = length-append (interned_list m false).types (startup_type ∷ []) in omega (arith, e, l)
few m false n e lt = omega (arith, e)

-- the startup type still fits
pub first_room : (m : Module) (b : Builder) → HoldsInternedTypes m b → length (interned_list m false).types + 1 < 4294967295
first_room m b h = few m (starts_always m) (length b.built.types) (ap (λ (t : Built). length t.types) h.built) h.room
