-- Known values of globals are had back where integers have the bits of their types, and names of
-- functions and locals from what is found at each number.
use Rattle.std.proofs.Common.{◌≡◌, ◌∙◌, ◌+◌, ◌<◌, ◌≤◌, ℕ, Bool, true, false, cond, List, [], ◌∷◌, ◌++◌, length, get_or, take, map, Option, None, Some, nat_eq, refl, sym, ap, subst, arith}
use Rattle.std.specs.List.{All}
use Rattle.std.specs.Int.{cast_signed, w32, w64}
use Rattle.std.specs.Map.{lookup}
use Rattle.std.specs.BTreeMap.{BTreeMap}
use Rattle.std.specs.Option.{option_map}
use Rattle.std.proofs.lemmas.Int.{to_z-of_z}
use Rattle.std.proofs.lemmas.List.{take_more, take_all}
use Rattle.std.proofs.lemmas.List.Elements.{All-head, All-tail, All-push}
use Rattle.wasm_index.specs.declared.index.Index.{Index}
use Rattle.wasm_index.specs.declared.spaces.DefinedGlobalSpace.{DefinedGlobalSpace}
use Rattle.wasm_index.specs.declared.spaces.FuncSpace.{FuncSpace}
use Rattle.wasm_index.specs.Index.{number_of, index_of}
use Rattle.wasm_convert.specs.Constants.{plain_value_of}
use Rattle.wasm_convert.specs.declared.values.GlobalConstValue.{GlobalConstValue}
use Rattle.wasm_convert.specs.declared.values.GlobalConstValue.TheVariants as value
use Rattle.replay_spec.specs.Values.{Value, I32, I64, F32, F64, V128}
use Rattle.module_customs.specs.Names.{Text, named, HasLast, HasLocals, AreLocals, at_number}
use Rattle.module_customs.specs.Names.{local_names as names_at}
use Rattle.init_plan.specs.declared.debug_info.NameSection.{NameSection}
use Rattle.init_plan.specs.Held.{simple_global_of}
use Rattle.plan_laws.specs.Kept.{IsSized, Rises}
use Rattle.plan_laws.specs.Same.{local_names, locals_named}
use Rattle.plan_laws.proofs.Ascending.{same-pairs}

-- ---- known values

abbrev value_from : Value → GlobalConstValue
value_from (I32 n) = value.I32 (cast_signed w32 n)
value_from (I64 n) = value.I64 (cast_signed w64 n)
value_from (F32 bits) = value.F32 bits
value_from (F64 bits) = value.F64 bits
value_from (V128 bits) = value.V128 bits
value_from v = value.F32 0

value-from-is : (x : GlobalConstValue) → IsSized x → value_from (plain_value_of x) ≡ x
value-from-is (value.I32 n) sized = ap value.I32 (to_z-of_z w32 n sized)
value-from-is (value.I64 n) sized = ap value.I64 (to_z-of_z w64 n sized)
value-from-is (value.F32 bits) sized = refl
value-from-is (value.F64 bits) sized = refl
value-from-is (value.V128 bits) sized = refl

abbrev Known : Type 0
Known = Index DefinedGlobalSpace × GlobalConstValue

abbrev known_from : ℕ × Value → Known
known_from g = (index_of g.0, value_from g.1)

abbrev IsSizedAt : Known → Type 0
IsSizedAt g = IsSized g.1

known-from-is : (gs : List Known) → All IsSizedAt gs → map known_from (map simple_global_of gs) ≡ gs
known-from-is [] sized = refl
known-from-is (g ∷ gs) sized =
    let head = value-from-is g.1 (All-head IsSizedAt g gs sized) in
    let tail = known-from-is gs (All-tail IsSizedAt g gs sized) in
    λ i. (g.0, head i) ∷ tail i

pub values-told : (gs hs : List Known) → All IsSizedAt gs → All IsSizedAt hs → map simple_global_of gs ≡ map simple_global_of hs → gs ≡ hs
values-told gs hs a b same = sym (known-from-is gs a) ∙ ap (map known_from) same ∙ known-from-is hs b

-- one more value of a list, and all of them
pub sized-more : (gs : List Known) (k : ℕ) (g : Known) → k < length gs → g ≡ get_or gs k g → All IsSizedAt (take k gs) → IsSizedAt g → All IsSizedAt (take (k + 1) gs)
sized-more gs k g lt is so_far sized = subst (All IsSizedAt) (ap (λ (h : Known). take k gs ++ h ∷ []) is ∙ sym (take_more gs k g lt))
    (All-push IsSizedAt (take k gs) g so_far sized)

pub sized-all : (gs : List Known) (k : ℕ) → length gs ≤ k → All IsSizedAt (take k gs) → All IsSizedAt gs
sized-all gs k past sized = subst (All IsSizedAt) (take_all k gs past) sized

-- ---- what a map finds

module _ {K X V : Type 0} (number : K → ℕ) (see : X → V) where
  by-test : (b : Bool) (x : X) (o : Option X) → cond b (Some (see x)) (option_map see o) ≡ option_map see (cond b (Some x) o)
  by-test true x o = refl
  by-test false x o = refl

  pub found-at : (n : ℕ) (es : List (K × X)) → lookup (λ k. nat_eq n k) (map (λ (e : K × X). (number e.0, see e.1)) es) ≡ option_map see (lookup (λ key. nat_eq n (number key)) es)
  found-at n [] = refl
  found-at n (e ∷ es) = ap (cond (nat_eq n (number e.0)) (Some (see e.1))) (found-at n es) ∙ by-test (nat_eq n (number e.0)) e.1 (lookup (λ key. nat_eq n (number key)) es)

-- ---- names of functions

pub names-told : (names : List (ℕ × List ℕ)) (x y : NameSection) → HasLast names (at_number number_of x.func_names) → HasLast names (at_number number_of y.func_names)
    → Rises (map named x.func_names.entries) → Rises (map named y.func_names.entries) → map named x.func_names.entries ≡ map named y.func_names.entries
names-told names x y a b rise rises = same-pairs (map named x.func_names.entries) (map named y.func_names.entries) rise rises
    (λ n. found-at number_of (λ text. text.now) n x.func_names.entries ∙ a n ∙ sym (b n) ∙ sym (found-at number_of (λ text. text.now) n y.func_names.entries))

-- ---- names of locals

abbrev Locals : Type 0
Locals = Index FuncSpace × BTreeMap ℕ Text

abbrev RisesAt : Locals → Type 0
RisesAt entry = Rises (local_names entry.1)

-- what is found is in order
RisesIn : Option (BTreeMap ℕ Text) → Type 0
RisesIn None = Unit {0}
RisesIn (Some kept) = Rises (local_names kept)

rises-by : (b : Bool) (kept : BTreeMap ℕ Text) (o : Option (BTreeMap ℕ Text)) → Rises (local_names kept) → RisesIn o → RisesIn (cond b (Some kept) o)
unfolding RisesIn
rises-by true kept o here rest = here
rises-by false kept o here rest = rest

rises-in : (n : ℕ) (es : List Locals) → All RisesAt es → RisesIn (lookup (λ key. nat_eq n (number_of key)) es)
unfolding RisesIn
rises-in n [] all = tt
rises-in n (e ∷ es) all = rises-by (nat_eq n (number_of e.0)) e.1 (lookup (λ key. nat_eq n (number_of key)) es) (All-head RisesAt e es all)
    (rises-in n es (All-tail RisesAt e es all))

-- the names of one function's locals
locals-same : (names : List (ℕ × List ℕ)) (x y : Option (BTreeMap ℕ Text)) → AreLocals names x → AreLocals names y → RisesIn x → RisesIn y
    → option_map local_names x ≡ option_map local_names y
unfolding RisesIn
locals-same names None None a b rise rises = refl
locals-same names None (Some y) a b rise rises = absurd (omega (arith, ap length a, b.0))
locals-same names (Some x) None a b rise rises = absurd (omega (arith, ap length b, a.0))
locals-same names (Some x) (Some y) a b rise rises = ap Some (same-pairs (local_names x) (local_names y) rise rises
    (λ n. found-at (λ k. k) (λ text. text.now) n x.entries ∙ a.1 n ∙ sym (b.1 n) ∙ sym (found-at (λ k. k) (λ text. text.now) n y.entries)))

pub locals-told : (names : List (ℕ × List (ℕ × List ℕ))) (x y : BTreeMap (Index FuncSpace) (BTreeMap ℕ Text)) → HasLocals names x → HasLocals names y
    → Rises (map locals_named x.entries) → Rises (map locals_named y.entries) → All RisesAt x.entries → All RisesAt y.entries
    → map locals_named x.entries ≡ map locals_named y.entries
locals-told names x y a b rise rises each all = same-pairs (map locals_named x.entries) (map locals_named y.entries) rise rises
    (λ n. found-at number_of local_names n x.entries
    ∙ locals-same (names_at names n) _ _ (a n) (b n) (rises-in n x.entries each) (rises-in n y.entries all)
    ∙ sym (found-at number_of local_names n y.entries))
