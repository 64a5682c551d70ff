-- The number that each function of a translated module has.
use Rattle.std.proofs.Common.{◌≡◌, ℕ, ◌<◌, Bool, List, Some, length, get_or, map, ap, ◌∙◌, arith}
use Rattle.std.specs.Prelude.{All, Contains}
use Rattle.std.specs.List.{enumerate_from}
use Rattle.std.specs.Option.{option_map}
use Rattle.std.proofs.lemmas.List.{get_or-map, length-map}
use Rattle.std.proofs.lemmas.List.Elements.{All-contains, Contains-get_or}
use Rattle.std.proofs.lemmas.List.FromFn.{length-enumerate_from, get_or-enumerate_from}
use Rattle.std.proofs.lemmas.Option.{slice_get-get_or}
use Rattle.wasm_spec.specs.Module.{Module}
use Rattle.wasm_spec.specs.Module as plain
use Rattle.rule_spec.specs.Lists.{lists_of_module}
use Rattle.wasm_index.specs.Index.{number_of, index_of}
use Rattle.wasm_module.specs.declared.function.FunctionType.{FunctionType}
use Rattle.interned_types.specs.Types.{declared_type}
use Rattle.module_sections.specs.Entities.{function_types}
use Rattle.module_sections.specs.Escapes.{number_among, references, escaping}
use Rattle.module_sections.specs.Causes.{reference_number}
use Rattle.init_plan.specs.declared.translation.ModuleTranslation.{ModuleTranslation}
use Rattle.module_sections.specs.Sections.{Escapes}
use Rattle.module_sections.proofs.Numbering.{place, place-le, number-met, number-none}
use Rattle.module_sections.proofs.FirstCauses.{contains-firsts, contained-met, firsts-once}

number-at : (m : Module) (order : List ℕ) (f : ℕ) → f < length (plain.functions m)
    → reference_number (function_types m order) f ≡ Some (number_among order f)
number-at m order f lt =
    let fs = plain.functions m in
    let at : ℕ × ℕ → FunctionType = λ x. record { signature = declared_type m x.1; func_ref = index_of (number_among order x.0) } in
    let long : f < length (enumerate_from 0 fs) = omega (arith, lt, length-enumerate_from 0 fs) in
    let there : get_or (enumerate_from 0 fs) f (0, 0) ≡ (f, get_or fs f 0) =
    get_or-enumerate_from 0 fs f (0, 0) lt ∙ ap (λ k. (k, get_or fs f 0)) (omega arith) in
    ap (option_map (λ (x : FunctionType). number_of x.func_ref))
    (slice_get-get_or (map at (enumerate_from 0 fs)) f (at (0, 0)) (omega (arith, long, length-map (enumerate_from 0 fs) at)))
    ∙ ap (λ (x : FunctionType). Some (number_of x.func_ref)) (get_or-map at (enumerate_from 0 fs) f (0, 0) (at (0, 0)) long ∙ ap at there)

translated-number : (debugged : Bool) (m : Module) (t : ModuleTranslation) → Escapes debugged m t → (f : ℕ) → f < length (plain.functions m)
    → reference_number t.module.functions f ≡ Some (number_among (escaping debugged (lists_of_module m)) f)
translated-number debugged m t h f lt = ap (λ l. reference_number l f) h.functions ∙ number-at m (escaping debugged (lists_of_module m)) f lt

pub escaping-numbered : (debugged : Bool) (m : Module) (t : ModuleTranslation) → Escapes debugged m t
    → All (λ f. f < length (plain.functions m)) (references debugged (lists_of_module m))
    → (k : ℕ) → k < t.module.num_escaped_funcs → reference_number t.module.functions (get_or (escaping debugged (lists_of_module m)) k 0) ≡ Some k
escaping-numbered debugged m t h in' k lt =
    let causes = references debugged (lists_of_module m) in
    let order = escaping debugged (lists_of_module m) in
    let f = get_or order k 0 in
    let below : k < length order = omega (arith, lt, h.count) in
    let at : place order f ≡ k = firsts-once causes k below in
    let known : f < length (plain.functions m) =
    All-contains (λ x. x < length (plain.functions m)) causes f in' ((contains-firsts causes f).0 (Contains-get_or order k 0 below)) in
    translated-number debugged m t h f known ∙ ap (λ n. Some n) (number-met order f (omega (arith, at, below)) ∙ at)

pub others-reserved : (debugged : Bool) (m : Module) (t : ModuleTranslation) → Escapes debugged m t → (f : ℕ) → f < length (plain.functions m)
    → (Contains (references debugged (lists_of_module m)) f → ⊥) → reference_number t.module.functions f ≡ Some 4294967295
others-reserved debugged m t h f lt none =
    let causes = references debugged (lists_of_module m) in
    let order = escaping debugged (lists_of_module m) in
    let unmet : place order f ≡ length order = grind (arith, place-le order f, contained-met order f, (contains-firsts causes f).0, none) in
    translated-number debugged m t h f lt ∙ ap (λ n. Some n) (number-none order f unmet)
