-- The interned type at the index of a declared type is of the declared type's kind.
use Rattle.std.proofs.Common.{◌≡◌, ◌∙◌, ◌<◌, ℕ, zero, suc, false, IsTrue, List, [], ◌∷◌, length, get_or, map, refl, sym, ap, arith}
use Rattle.std.specs.Prelude.{slice_get, IsSomeAnd}
use Rattle.std.specs.Option.{option_map}
use Rattle.std.proofs.lemmas.List.{length-map}
use Rattle.wasm_spec.specs.declared.types.UnpackedIndex.{UnpackedIndex}
use Rattle.wasm_spec.specs.TypeData.{Composite, Func, SubType, Group, map_composite, map_sub_type}
use Rattle.wasm_spec.specs.Module as plain
use Rattle.type_spec.specs.Names.{Named, FuncName}
use Rattle.type_spec.specs.Interned.{kind_of_type, kind_at, composite_at, taken, interned}
use Rattle.type_spec.specs.Taken.{NameEarlier}
use Rattle.type_spec.proofs.Homes.{size}
use Rattle.type_spec.proofs.ByNames.{some_type, joined-kind, same-kind}
use Rattle.rule_spec.specs.Lists.{Declared, declared_groups, lists_of_module}
use Rattle.rule_spec.specs.TypeRules.{IsFunction, NamesFunctionType}
use Rattle.form_types.specs.Placed.{place_of, placed_groups}
use Rattle.form_types.proofs.Ruled.{declared-types, places-joined, size-places}
use Rattle.module_types.specs.Builder.{is_function}
use Rattle.module_types.specs.ListGroups.{list_groups}
use Rattle.module_types.proofs.Taking.{number_in, whole}
use Rattle.module_types.proofs.NamedLists.{well-named}
use Rattle.module_types.proofs.SameIndex.{same-index}
use Rattle.module_types.proofs.Standing.{list-size, list-kind}

pub declared-kind : (gs : List (Group ℕ ℕ)) → NameEarlier 0 gs → (i : ℕ) → i < length (taken gs).declared
    → kind_of_type (composite_at (taken gs).built.types (get_or (taken gs).declared i 0)) ≡ kind_at gs i
declared-kind gs near i lt =
    let w = whole gs near in
    let b = interned gs [] false in
    let well = well-named gs near [] false in
    let inside : i < size gs = omega (arith, lt, w.counted) in
    let held : number_in gs i < length b.types = w.below i inside in
    sym (same-kind gs (list_groups b) i (number_in gs i) inside (omega (arith, held, list-size b well)) (same-index gs near [] false i lt)
    ∙ list-kind b well (number_in gs i) held)

-- ---- function types

abbrev type_of : Declared → SubType UnpackedIndex UnpackedIndex
type_of d = d.type

pub types-long : (m : plain.Module) → length (lists_of_module m).types ≡ length (plain.types m)
types-long m = sym (length-map (lists_of_module m).types type_of) ∙ ap length (declared-types 0 (plain.groups m))

function-kind : (c : Composite UnpackedIndex UnpackedIndex) → IsFunction c → kind_of_type (map_composite place_of place_of c) ≡ FuncName
function-kind (Func f) is = refl
function-kind _ is = absurd is

pub function-is : (c : Composite (Named ℕ) ℕ) → kind_of_type c ≡ FuncName → IsTrue (is_function c)
function-is (Func f) e = refl
function-is _ e = absurd (cc)

-- a declared function type, read by position
pub record IsFunctionAt (ts : List (SubType ℕ ℕ)) (i count : ℕ) : Type 0 where
  pub lt : i < count
  pub kind : kind_of_type (get_or ts i some_type).composite.inner ≡ FuncName

function-read : (ds : List Declared) (i : ℕ) → IsSomeAnd (option_map (λ (d : Declared). d.type.composite.inner) (slice_get ds i)) IsFunction
    → IsFunctionAt (map (map_sub_type place_of place_of) (map type_of ds)) i (length ds)
function-read [] i is = absurd is
function-read (d ∷ ds) zero is = record { lt = omega arith; kind = function-kind d.type.composite.inner is }
function-read (d ∷ ds) (suc i) is = let r = function-read ds i is in record { lt = omega (arith, r.lt); kind = r.kind }

module _ (m : plain.Module) (i : ℕ) (is : NamesFunctionType (lists_of_module m) i) where
  abbrev read : IsFunctionAt (map (map_sub_type place_of place_of) (map type_of (declared_groups 0 (plain.groups m)))) i
      (length (declared_groups 0 (plain.groups m)))
  read = function-read (declared_groups 0 (plain.groups m)) i is

  pub function-below : i < length (plain.types m)
  function-below = omega (arith, read.lt, types-long m)

  pub function-declared : kind_at (placed_groups m) i ≡ FuncName
  function-declared =
      joined-kind (placed_groups m) i (omega (arith, function-below, size-places (plain.groups m)))
      ∙ ap (λ (ts : List (SubType ℕ ℕ)). kind_of_type (get_or ts i some_type).composite.inner)
      (places-joined (plain.groups m) ∙ ap (map (map_sub_type place_of place_of)) (sym (declared-types 0 (plain.groups m))))
      ∙ read.kind
