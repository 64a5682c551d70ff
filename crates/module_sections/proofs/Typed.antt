-- Functions with their types, one after another, and the types of those that escape.
use Rattle.std.proofs.Common.{◌≡◌, ℕ, ◌+◌, ◌<◌, List, [], ◌∷◌, ◌++◌, Some, length, get_or, map, take, refl, ap, sym, ◌∙◌, arith}
use Rattle.std.specs.Prelude.{All, option_and_then}
use Rattle.std.specs.List.{enumerate_from}
use Rattle.std.proofs.Math.ListN.{get_or-map}
use Rattle.std.proofs.lemmas.Option.{slice_get-get_or}
use Rattle.std.proofs.lemmas.List.Elements.{All-head, All-tail}
use Rattle.std.proofs.lemmas.List.{get_or-map as get_or-map-in, take_more, map_push, map_more, get_or_default, length-take-le}
use Rattle.wasm_spec.specs.Module.{Module}
use Rattle.wasm_spec.specs.Module as plain
use Rattle.wasm_index.specs.declared.index.Index.{Index}
use Rattle.wasm_index.specs.Index.{number_of, index_of}
use Rattle.wasm_types.specs.Views.{module_index}
use Rattle.module_types.specs.Views.{TypeIndex}
use Rattle.wasm_types.specs.declared.index.EngineOrModuleTypeIndex.{EngineOrModuleTypeIndex}
use Rattle.wasm_module.specs.declared.function.FuncRefSpace.{FuncRefSpace}
use Rattle.wasm_module.specs.declared.function.FunctionType.{FunctionType}
use Rattle.interned_types.specs.Types.{type_index, declared, interned_at}
use Rattle.module_sections.specs.Entities.{function_types}
use Rattle.interned_types.specs.Environment.{interned_in, number_or_zero}
use Rattle.module_sections.specs.Escapes.{number_among}

-- a function, by its number and its type
abbrev pub typed : List EngineOrModuleTypeIndex → List ℕ → ℕ × ℕ → FunctionType
typed declared order f = record { signature = get_or declared f.1 (type_index 0); func_ref = index_of (number_among order f.0) }

-- the interned type of a function of some types
abbrev pub interned_type : List EngineOrModuleTypeIndex → List ℕ → ℕ → ℕ
interned_type declared functions function = number_or_zero (interned_in declared (get_or functions function 0))

enumerate-push : (n : ℕ) (xs : List ℕ) (x : ℕ) → enumerate_from n (xs ++ x ∷ []) ≡ enumerate_from n xs ++ (n + length xs, x) ∷ []
enumerate-push n [] x = grind arith
enumerate-push n (y ∷ ys) x = grind (arith, enumerate-push (n + 1) ys x)

pub typed-more : (indices : List EngineOrModuleTypeIndex) (order functions : List ℕ) (i : ℕ) (types after : List FunctionType) (x : FunctionType)
    → i < length functions → types ≡ map (typed indices order) (enumerate_from 0 (take i functions))
    → x ≡ typed indices order (i, get_or functions i 0) → after ≡ types ++ x ∷ []
    → after ≡ map (typed indices order) (enumerate_from 0 (take (i + 1) functions))
typed-more indices order functions i types after x lt before is now =
    let f = get_or functions i 0 in
    grind (
      arith,
      enumerate-push 0 (take i functions) f,
      take_more functions i 0,
      length-take-le i functions,
      map_push (typed indices order) (enumerate_from 0 (take i functions)) (i, f),
    )

pub typed-is : (indices given : List EngineOrModuleTypeIndex) (order : List ℕ) (i ty n : ℕ) (d : EngineOrModuleTypeIndex) (ref : Index FuncRefSpace)
    → ty < length indices → given ≡ indices → number_of ref ≡ number_among order n → n ≡ i
    → record { signature = get_or given ty d; func_ref = ref } ≡ typed indices order (i, ty)
typed-is indices given order i ty n d ref lt same number e =
    let signature = ap (λ l. get_or l ty d) same ∙ get_or_default indices ty d (type_index 0) lt in
    let numbered = number ∙ ap (number_among order) e in
    λ k. record { signature = signature k; func_ref = index_of (numbered k) }

-- and all are the functions of a module
pub typed-all : (m : Module) (indices : List EngineOrModuleTypeIndex) (order functions : List ℕ) → indices ≡ map type_index (declared m)
    → functions ≡ plain.functions m
    → map (typed indices order) (enumerate_from 0 functions) ≡ function_types m order
typed-all m indices order functions is of =
    ap (λ l. map (typed l order) (enumerate_from 0 functions)) is ∙ ap (λ l. map (typed (map type_index (declared m)) order) (enumerate_from 0 l)) of
    ∙ ap (λ f. map f (enumerate_from 0 (plain.functions m)))
    (λ i. λ (f : ℕ × ℕ). record { signature = get_or-map type_index (declared m) f.1 0 i; func_ref = index_of (number_among order f.0) })

map-agree : {A B : Type 0} (f g : A → B) (xs : List A) → All (λ x. f x ≡ g x) xs → map f xs ≡ map g xs
map-agree f g [] h = refl
map-agree f g (x ∷ xs) h = cc (map-agree f g xs (All-tail (λ y. f y ≡ g y) x xs h), All-head (λ y. f y ≡ g y) x xs h)

interned-at : (indices : List EngineOrModuleTypeIndex) (ty : ℕ) (d : EngineOrModuleTypeIndex) (k : TypeIndex) → ty < length indices
    → module_index (get_or indices ty d) ≡ Some k → number_or_zero (interned_in indices ty) ≡ number_of k
interned-at indices ty d k lt is =
    ap (λ o. number_or_zero (option_and_then module_index o)) (slice_get-get_or indices ty d lt) ∙ ap number_or_zero is

-- the type of one more function that escapes
pub interned-more : (indices given : List EngineOrModuleTypeIndex) (functions order : List ℕ) (i : ℕ) (d : EngineOrModuleTypeIndex) (k : TypeIndex)
    (types after : List TypeIndex) → i < length order → given ≡ indices → get_or functions (get_or order i 0) 0 < length indices
    → module_index (get_or given (get_or functions (get_or order i 0) 0) d) ≡ Some k
    → map number_of types ≡ map (interned_type indices functions) (take i order) → after ≡ types ++ k ∷ []
    → map number_of after ≡ map (interned_type indices functions) (take (i + 1) order)
interned-more indices given functions order i d k types after lt same in' is before now =
    let f = get_or order i 0 in
    let one : number_of k ≡ interned_type indices functions f =
    sym (interned-at indices (get_or functions f 0) d k in' (ap (λ l. module_index (get_or l (get_or functions f 0) d)) (sym same) ∙ is)) in
    cc (map_push number_of types k, map_more (interned_type indices functions) order i 0 lt)

-- and of all of them, in a module
pub interned-all : (m : Module) (indices : List EngineOrModuleTypeIndex) (order functions : List ℕ) → indices ≡ map type_index (declared m)
    → functions ≡ plain.functions m
    → All (λ f. f < length functions) order → All (λ ty. ty < length indices) functions
    → map (interned_type indices functions) order ≡ map (λ f. get_or (map (interned_at m) (plain.functions m)) f 0) order
interned-all m indices order functions is of in' known =
    map-agree (interned_type indices functions) (λ f. get_or (map (interned_at m) (plain.functions m)) f 0) order
    (λ k d lt. one (get_or order k d) (in' k d lt))
  where
    one : (f : ℕ) → f < length functions → interned_type indices functions f ≡ get_or (map (interned_at m) (plain.functions m)) f 0
    one f lt =
        let ty = get_or functions f 0 in
        let there : get_or indices ty (type_index 0) ≡ type_index (interned_at m ty) =
        ap (λ l. get_or l ty (type_index 0)) is ∙ get_or-map type_index (declared m) ty 0 in
        interned-at indices ty (type_index 0) (index_of (interned_at m ty)) (known f 0 lt) (ap module_index there)
        ∙ sym (get_or-map-in (interned_at m) functions f 0 0 lt) ∙ ap (λ l. get_or (map (interned_at m) l) f 0) of
