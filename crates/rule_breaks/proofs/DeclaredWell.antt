-- Declared types that keep the first rule.
use Rattle.std.proofs.Common.{◌≡◌, ◌↔◌, ℕ, ◌+◌, Bool, true, false, List, [], ◌∷◌, ◌++◌, length, map, Option, Some, None, All, refl, sym, ap, subst, ◌∙◌, arith, append_assoc}
use Rattle.std.specs.Prelude.{IsSomeAnd, slice_get}
use Rattle.std.specs.Option.{option_map}
use Rattle.std.specs.List.{flat_map}
use Rattle.std.proofs.lemmas.List.{map-append, append-nil, length-map}
use Rattle.std.proofs.lemmas.Option.{slice_get-map}
use Rattle.wasm_spec.specs.declared.types.UnpackedIndex.{UnpackedIndex}
use Rattle.wasm_spec.specs.declared.types.UnpackedIndex.TheVariants.{Module}
use Rattle.wasm_spec.specs.TypeData.{Composite, Func, Array, Struct, Cont, Exn, SubType, Group}
use Rattle.wasm_spec.specs.Module as plain
use Rattle.rule_spec.specs.Lists.{Declared, declared_from, declared_groups, lists_of_module}
use Rattle.rule_spec.specs.TypeRules.{IsFunction, ContinuesFunction, IsDeclaredWell}
use Rattle.form_types.proofs.Ruled.{declared-types}
use Rattle.form_reader.specs.declared.types.SubType as listed
use Rattle.form_reader.specs.declared.types.RecGroup.{RecGroup}
use Rattle.form_reader.specs.Views.{composite_of, sub_type_of, group_of}
use Rattle.form_reader.specs.Input.{Takes}
use Rattle.rule_breaks.specs.Search.{Finds, IsFirstWithout}
use Rattle.rule_breaks.specs.TypeFlags.{is_function, function_flags, ContinuesFlagged, IsWell}
use Rattle.rule_breaks.proofs.Searching.{Passes, passes_all, passes_many, passes_many_fail, finds-same}

abbrev flag : SubType UnpackedIndex UnpackedIndex → Bool
flag t = is_function t.composite.inner

abbrev flag_declared : Declared → Bool
flag_declared d = is_function d.type.composite.inner

flags-joined : (gs : List (Group UnpackedIndex UnpackedIndex)) → map flag (flat_map (λ (g : Group UnpackedIndex UnpackedIndex). g) gs) ≡ function_flags gs
flags-joined [] = refl
flags-joined (g ∷ gs) = map-append flag g (flat_map (λ (h : Group UnpackedIndex UnpackedIndex). h) gs) ∙ ap (λ bs. map flag g ++ bs) (flags-joined gs)

flags-types : (ds : List Declared) → map flag_declared ds ≡ map flag (map (λ (d : Declared). d.type) ds)
flags-types [] = refl
flags-types (d ∷ ds) = ap (λ bs. flag_declared d ∷ bs) (flags-types ds)

pub flags-declared : (gs : List (Group UnpackedIndex UnpackedIndex)) → map flag_declared (declared_groups 0 gs) ≡ function_flags gs
flags-declared gs = flags-types (declared_groups 0 gs) ∙ ap (map flag) (declared-types 0 gs) ∙ flags-joined gs

function-flagged : (k : Composite UnpackedIndex UnpackedIndex) → (is_function k ≡ true) ↔ IsFunction k
function-flagged (Func type) = (λ is. tt, λ is. refl)
function-flagged (Array f) = (λ is. absurd cc, λ is. absurd is)
function-flagged (Struct fs) = (λ is. absurd cc, λ is. absurd is)
function-flagged (Cont f) = (λ is. absurd cc, λ is. absurd is)
function-flagged (Exn t) = (λ is. absurd cc, λ is. absurd is)

at-option : (o : Option Declared) → (option_map flag_declared o ≡ Some true)
    ↔ IsSomeAnd (option_map (λ (d : Declared). d.type.composite.inner) o) IsFunction
at-option None = (λ is. absurd cc, λ is. absurd is)
at-option (Some d) =
    let f = function-flagged d.type.composite.inner in
    (λ is. f.0 (let e : flag_declared d ≡ true = cc in e), λ is. ap (λ b. Some b) (f.1 is))

-- where the flags are those of all declared types, the rule is kept where they say so
module _ (m : plain.Module) (flags : List Bool) (are : flags ≡ function_flags (plain.groups m)) where
  pub flagged : (i : ℕ) → (slice_get flags i ≡ Some true)
      ↔ IsSomeAnd (option_map (λ (d : Declared). d.type.composite.inner) (slice_get (declared_groups 0 (plain.groups m)) i)) IsFunction
  flagged i =
      let e : slice_get flags i ≡ option_map flag_declared (slice_get (declared_groups 0 (plain.groups m)) i) =
      ap (λ bs. slice_get bs i) (are ∙ sym (flags-declared (plain.groups m))) ∙ slice_get-map flag_declared (declared_groups 0 (plain.groups m)) i in
      let o = at-option (slice_get (declared_groups 0 (plain.groups m)) i) in
      (λ is. o.0 (sym e ∙ is), λ is. e ∙ o.1 is)

  continues : (k : Composite UnpackedIndex UnpackedIndex) → ContinuesFlagged flags k ↔ ContinuesFunction (lists_of_module m) k
  continues (Func type) = (λ h. h, λ h. h)
  continues (Array f) = (λ h. h, λ h. h)
  continues (Struct fs) = (λ h. h, λ h. h)
  continues (Exn t) = (λ h. h, λ h. h)
  continues (Cont f) = named f where
    named : (i : UnpackedIndex) → ContinuesFlagged flags (Cont i) ↔ ContinuesFunction (lists_of_module m) (Cont i)
    named (Module i) = flagged i
    named i = (λ h. absurd h, λ h. absurd h)

  pub same : (d : Declared) → IsWell flags d ↔ IsDeclaredWell (lists_of_module m) d
  same d =
      let c = continues d.type.composite.inner in (
        λ w. record { indices = w.names.indices; supertype = w.names.supertype; continuation = c.0 w.continuation },
        λ w. record { names = record { indices = w.indices; supertype = w.supertype }; continuation = c.1 w.continuation },
      )

  -- the first type that breaks the rule, in the words of the definition
  pub found_well : (r : Option ℕ) → Finds (IsWell flags) (declared_groups 0 (plain.groups m)) r → Finds (IsDeclaredWell (lists_of_module m)) (lists_of_module m).types r
  found_well r found =
      finds-same (IsWell flags) (IsDeclaredWell (lists_of_module m)) (λ d. same d) (declared_groups 0 (plain.groups m)) r found

-- ---- flags, group by group

pub flags_of_types : (ts : List listed.SubType) → map flag (map sub_type_of ts) ≡ map (λ (t : listed.SubType). is_function (composite_of t.composite)) ts
flags_of_types [] = refl
flags_of_types (t ∷ ts) = ap (λ bs. is_function (composite_of t.composite) ∷ bs) (flags_of_types ts)

-- the flags of one group more are added
pub flags-more : (old new : List Bool) (left rest : List (Group UnpackedIndex UnpackedIndex)) (ts : List listed.SubType) (g : RecGroup) (all : List Bool)
    → left ≡ group_of g ∷ rest → ts ≡ g.types.items → new ≡ old ++ map flag (map sub_type_of ts)
    → old ++ function_flags left ≡ all → new ++ function_flags rest ≡ all
flags-more old new left rest ts g all at are added so_far =
    ap (λ (bs : List Bool). bs ++ function_flags rest) (added ∙ ap (λ us. old ++ map flag (map sub_type_of us)) are)
    ∙ append_assoc old (map flag (group_of g)) (function_flags rest) ∙ ap (λ gs. old ++ function_flags gs) (sym at) ∙ so_far

pub flags-ended : (flags : List Bool) (left rest : List (Group UnpackedIndex UnpackedIndex)) (g : Group UnpackedIndex UnpackedIndex) (more : Bool) (all : List Bool)
    → more ≡ false → Takes left g rest more → flags ++ function_flags left ≡ all → flags ≡ all
flags-ended flags left rest g more all ended takes so_far =
    let none : left ≡ [] = (subst (Takes left g rest) ended takes).0 in
    sym (append-nil flags) ∙ ap (λ gs. flags ++ function_flags gs) (sym none) ∙ so_far

-- ---- declared types, group by group

length-declared_from : (end index : ℕ) (g : Group UnpackedIndex UnpackedIndex) → length (declared_from end index g) ≡ length g
length-declared_from end index [] = refl
length-declared_from end index (t ∷ ts) = omega (arith, length-declared_from end (index + 1) ts)

-- the declared types of a group whose members are listed
listed-group : (number : ℕ) (ts : List listed.SubType) (g : RecGroup) → ts ≡ g.types.items
    → declared_from (number + length ts) number (map sub_type_of ts) ≡ declared_from (number + length (group_of g)) number (group_of g)
listed-group number ts g are =
    ap (λ us. declared_from (number + length us) number (map sub_type_of us)) are
    ∙ ap (λ n. declared_from (number + n) number (group_of g)) (sym (length-map g.types.items sub_type_of))

module _ (P : Declared → Type 0) (number : ℕ) (left rest : List (Group UnpackedIndex UnpackedIndex)) (all : List Declared) (g : RecGroup) (ts : List listed.SubType)
    (passes : Passes P number (declared_groups number left) all) (at : left ≡ group_of g ∷ rest) (are : ts ≡ g.types.items) where
  split : declared_groups number left
      ≡ declared_from (number + length (group_of g)) number (group_of g) ++ declared_groups (number + length (group_of g)) rest
  split = ap (declared_groups number) at

  -- all members have the property
  pub group_passes : (next : ℕ) → next ≡ number + length ts → All P (declared_from (number + length ts) number (map sub_type_of ts))
      → Passes P next (declared_groups next rest) all
  group_passes next is here =
      let ends : number + length (group_of g) ≡ next = omega (arith, is, ap length are, length-map g.types.items sub_type_of) in
      let more = passes_many P number _ _ _ all passes split next (omega (arith, ends, length-declared_from (number + length (group_of g)) number (group_of g)))
      (subst (All P) (listed-group number ts g are) here) in
      subst (λ n. Passes P next (declared_groups n rest) all) ends more

  -- a member lacks it
  pub group_fails : (place found : ℕ) → found ≡ number + place → IsFirstWithout P (declared_from (number + length ts) number (map sub_type_of ts)) place
      → IsFirstWithout P all found
  group_fails place found is first =
      passes_many_fail P number _ _ _ all passes split place found is (subst (λ ds. IsFirstWithout P ds place) (listed-group number ts g are) first)

-- all groups were seen
pub groups_end : (P : Declared → Type 0) (number : ℕ) (left rest : List (Group UnpackedIndex UnpackedIndex)) (g : Group UnpackedIndex UnpackedIndex) (more : Bool)
    (all : List Declared) → Passes P number (declared_groups number left) all → more ≡ false → Takes left g rest more → All P all
groups_end P number left rest g more all passes ended takes =
    let none : left ≡ [] = (subst (Takes left g rest) ended takes).0 in
    passes_all P number _ all passes (ap (declared_groups number) none)
