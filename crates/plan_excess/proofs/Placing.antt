-- An excess with the place of its entry.
use Rattle.std.proofs.Common.{◌≡◌, ℕ, List, Option, Some, None, Result, Ok, Err, refl, sym, subst}
use Rattle.std.specs.Prelude.{IfOk}
use Rattle.wasm_spec.specs.Module.{Module}
use Rattle.form_reader.proofs.SectionLaws.{module_once}
use Rattle.module_environ.specs.Readable.{IsReadable}
use Rattle.rule_breaks.specs.declared.lists.Break.{Break}
use Rattle.rule_breaks.specs.declared.list_places.EntryPlace.{EntryPlace}
use Rattle.rule_breaks.specs.ListPlaces.{IsPlacedAt, IsEntryPlaceOf, LacksIfRead}
use Rattle.translate.specs.Options.{Options}
use Rattle.translate.specs.Planned.{KeepsAnd}
use Rattle.plan_excess.specs.declared.kinds.ExcessKind.{ExcessKind}
use Rattle.plan_excess.specs.declared.kinds.Excess.{Excess}
use Rattle.plan_excess.specs.Excess.{CausesExcess, HasEntry, IsPlaced, ExceedsBy, IsExcess, entry_of}
use Rattle.plan_excess.proofs.Causes.{placed-excess}

pub placed-none : (bytes : List ℕ) (m : Module) (o : Option Break) → o ≡ None → IsPlaced bytes m o None
placed-none bytes m o is = rw is refl

pub placed-some : (bytes : List ℕ) (m : Module) (o : Option Break) (b : Break) (p : EntryPlace) → o ≡ Some b → IsReadable bytes m → IsEntryPlaceOf bytes b p
    → IsPlaced bytes m o (Some p)
placed-some bytes m o b p is read found =
    rw is (subst (λ (m : Module). IsPlacedAt bytes m b p) (module_once bytes found.of m found.spelled read.spelled) found.at)

-- an entry that the module has is found
pub never-missing : (bytes : List ℕ) (o : Option Break) (b : Break) → o ≡ Some b → KeepsAnd bytes (λ m. HasEntry m o) → LacksIfRead bytes b → ⊥
never-missing bytes o b is kept lacks =
    lacks kept.read.short kept.meaning kept.read.spelled kept.read.no_interface_types (rw is at kept.fact)

-- what was placed is the excess
pub placed-by : {E : Type 0} (o : Options) (bytes : List ℕ) (k : ExcessKind) → KeepsAnd bytes (λ m. CausesExcess o m k) → (r : Result Excess E)
    → IfOk r (λ e. e.kind ≡ k) → IfOk r (λ e. (m : Module) → IsReadable bytes m → IsPlaced bytes m (entry_of k) e.place) → IfOk r (IsExcess o bytes)
placed-by o bytes k kept (Ok e) same at =
    subst (λ (k : ExcessKind). ExceedsBy o bytes k e.place) (sym same)
    (placed-excess o bytes kept.meaning k e.place kept.read kept.keeps kept.fact (at kept.meaning kept.read))
placed-by o bytes k kept (Err x) same at = tt

-- what the same module has
pub kept-as : (bytes : List ℕ) (P Q : Module → Type 0) → ((m : Module) → P m → Q m) → KeepsAnd bytes P → KeepsAnd bytes Q
kept-as bytes P Q to kept = record { meaning = kept.meaning; read = kept.read; keeps = kept.keeps; fact = to kept.meaning kept.fact }
