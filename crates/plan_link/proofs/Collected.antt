-- Answers that are collected in order.
use Rattle.std.proofs.Common.{◌≡◌, ◌∙◌, ◌+◌, ℕ, List, [], ◌∷◌, ◌++◌, length, take, slice_get, Some, sym, ap}
use Rattle.std.proofs.Math.Seq.{take-length}
use Rattle.std.proofs.lemmas.List.{length-map, take_more}
use Rattle.std.proofs.lemmas.Option.{slice_get_within, get_or_from_slice_get}
use Rattle.wasm_module.specs.Record.{record_of}
use Rattle.wasm_module.specs.declared.module.Module.{Module}
use Rattle.type_registry.specs.declared.key.ModuleKey.{ModuleKey}
use Rattle.type_registry.specs.Keys.{key_number}
use Rattle.type_registry.specs.Registry.{RegistryState, registry_of}
use Rattle.import_match.specs.Definitions.{Definition}
use Rattle.import_match.specs.Linking.{engine_definition, wants_of, wanted, CanImport}
use Rattle.import_match.proofs.Linked.{wants-length}
use Rattle.plan_link.specs.declared.answer.ImportAnswer.{ImportAnswer}
use Rattle.plan_link.specs.Answers.{answer_to, import_answers}

-- one more
pub one-more : (some all : List ImportAnswer) (i : ℕ) (a : ImportAnswer) → some ≡ take i all → slice_get all i ≡ Some a
    → some ++ a ∷ [] ≡ take (i + 1) all
one-more some all i a is at = rw (is, ← get_or_from_slice_get all i a a at) (sym (take_more all i a (slice_get_within all i a at)))

-- all of them
pub all-of : (some all : List ImportAnswer) (i : ℕ) → some ≡ take i all → i ≡ length all → some ≡ all
all-of some all i is end = is ∙ ap (λ n. take n all) end ∙ take-length all

-- there is an answer to each import
pub answers-long : (ds : List Definition) (registry : RegistryState) (key : ModuleKey) (m : Module) → CanImport registry key m
    → length (import_answers ds (wanted registry key m)) ≡ length (record_of m).initializers
answers-long ds registry key m can =
    length-map (wanted registry key m) (answer_to ds)
    ∙ length-map (wants_of (record_of m)) (engine_definition (registry_of registry) (key_number key))
    ∙ wants-length (record_of m) can.resolved
