-- The numbers of exports that imports are given.
use Rattle.std.proofs.Common.{◌≡◌, ◌∙◌, ◌<◌, ◌≤◌, ◌+◌, ℕ, List, [], ◌∷◌, length, get_or, All, Option, Some, None, refl, arith}
use Rattle.std.specs.Prelude.{IsSome}
use Rattle.std.proofs.lemmas.List.{length-map}
use Rattle.std.proofs.lemmas.List.Elements.{All-map, All-weaker}
use Rattle.std.proofs.lemmas.Option.{none-some}
use Rattle.std.proofs.lemmas.Bool.{cases_Bool}
use Rattle.entity_map.specs.declared.pool.Atom.{Atom}
use Rattle.wasm_types.specs.declared.entity.EntityIndex.{EntityIndex}
use Rattle.wasm_types.specs.declared.entity.EntityType.{EntityType}
use Rattle.wasm_module.specs.Record.{record_of}
use Rattle.wasm_module.specs.declared.module.Module.{Module}
use Rattle.type_registry.specs.declared.key.ModuleKey.{ModuleKey}
use Rattle.type_registry.specs.Keys.{key_number}
use Rattle.type_registry.specs.Registry.{RegistryState, registry_of}
use Rattle.import_match.specs.Rules.{mismatch}
use Rattle.import_match.specs.Definitions.{Definition, TwoNames, names_eq, found_from, found}
use Rattle.import_match.specs.Linking.{engine_definition, export_of, exports_of, exported, CanExport, IsExportResolved}
use Rattle.import_match.proofs.Linked.{export-some}
use Rattle.import_match.proofs.Listing.{length-filter_map}
use Rattle.plan_link.specs.Answers.{judged, answer_by, answer_to, import_answers, IsBelow}

-- a definition that is found has its number among all
found-below : (k : ℕ) (ds : List Definition) (names : TwoNames) (have : ℕ × EntityType) → found_from k ds names ≡ Some have → have.0 < k + length ds
found-below k [] names have is = absurd (none-some have is)
found-below k (d ∷ ds) names have is =
    let rest = found-below (k + 1) ds names have in
    let equal = cases_Bool (names_eq names d.0) in
    grind arith

answer-below : (ds : List Definition) (count : ℕ) → length ds ≤ count → (want : Definition) → IsBelow count (answer_to ds want)
answer-below ds count few want = by (found ds want.0) refl where
  by : (o : Option (ℕ × EntityType)) → found ds want.0 ≡ o → IsBelow count (answer_by want.1 o)
  by None is = tt
  by (Some have) is =
      let lt : have.0 < count = omega (arith, few, found-below 0 ds want.0 have is) in
      elim (mismatch have.1 want.1) as (λ m. IsBelow count (judged have.0 m)) [ None ↦ lt | Some rule ↦ tt ]

pub answers-below : (ds wants : List Definition) (count : ℕ) → length ds ≤ count → All (IsBelow count) (import_answers ds wants)
answers-below ds wants count few =
    All-map (IsBelow count) (answer_to ds) wants (λ k d lt. answer-below ds count few (get_or wants k d))

-- a module makes a definition of each export
pub exported-long : (registry : RegistryState) (key : ModuleKey) (m : Module) (from : List ℕ) → CanExport registry key m from
    → length (exported registry key m from) ≡ length m.exports.entries
exported-long registry key m from can =
    length-map (exports_of (record_of m) from) (engine_definition (registry_of registry) (key_number key))
    ∙ length-filter_map (export_of (record_of m) from) (record_of m).exports
    (All-weaker (IsExportResolved (record_of m)) (λ (e : Atom × EntityIndex). IsSome (export_of (record_of m) from e)) (export-some (record_of m) from)
    (record_of m).exports can.resolved)
