-- What a step of an interner does to what it holds, and what its types are named by.
use Rattle.std.proofs.Common.{[], arith}
use Rattle.std.proofs.Common.{◌≡◌, ℕ, zero, suc, ◌+◌, List, ◌∷◌, ◌++◌, length, map, replicate, take, Bool, true, false, cond, Option, Some, None, refl, sym, ap, ◌∙◌, IsTrue}
use Rattle.std.specs.Prelude.{if◌then◌else◌, slice_get}
use Rattle.std.specs.Option.{option_map}
use Rattle.std.specs.declared.ops.Range.{Range}
use Rattle.std.proofs.lemmas.List.{length-map, length-append, map-append, map-set}
use Rattle.wasm_spec.specs.TypeData.{Func, map_field, map_value}
use Rattle.type_spec.specs.Interned.{Interned, Called, Built, mapped, same_mapped, plain, alone, now_known, knows, with_trampoline, assign_at, assign_trampoline, composite_at, next_span, opened, kind_of_type, field_for, with_exception}
use Rattle.wasm_index.specs.Index.{number_of, index_of}
use Rattle.wasm_types.specs.declared.func.WasmFuncType.{WasmFuncType}
use Rattle.wasm_types.specs.declared.composite.WasmCompositeInnerType.{WasmCompositeInnerType}
use Rattle.wasm_types.specs.declared.composite.WasmCompositeInnerType.TheVariants as inner
use Rattle.wasm_types.specs.declared.sub.WasmSubType.{WasmSubType}
use Rattle.wasm_types.specs.contracts.equal.WasmFuncTypePartialEq.TheImpl as func
use Rattle.wasm_types.specs.Trampolines.{trampoline_of}
use Rattle.module_types.specs.Views.{TypeIndex, inner_of, interned_of, called_of, function_at, index_at, interned_number, field_at}
use Rattle.module_types.specs.TypeList.{TypeList, with_type, with_types, with_range, called_by}
use Rattle.module_types.specs.Held.{built_of}
use Rattle.module_types.specs.declared.interner.Interner.{Interner}
use Rattle.module_types.specs.Interner.{with_next_trampoline}
use Rattle.module_types.proofs.Keys.{function-back, mapped-is, called-mapped, key-is}
use Rattle.wasm_types.specs.ValueViews.{Name, value_of, field_of}
use Rattle.wasm_types.specs.TypeViews.{composite_of}
use Rattle.module_types.specs.Builder.{BuilderState, is_function}
use Rattle.module_types.specs.Converter.{interned_name}
use Rattle.wasm_spec.specs.TypeData as types
use Rattle.type_spec.specs.Names.{named}
use Rattle.wasm_types.specs.declared.value.WasmValType.{WasmValType}
use Rattle.wasm_types.specs.declared.field.WasmFieldType.{WasmFieldType}

-- ---- lists

map-replicate : {A B : Type 0} (f : A → B) (n : ℕ) (v : A) → map f (replicate n v) ≡ replicate n (f v)
map-replicate f zero v = refl
map-replicate f (suc n) v = λ j. f v ∷ map-replicate f n v j

-- ---- types that were read

read-at : (ts : List WasmSubType) (i : ℕ) (x : WasmSubType) → slice_get ts i ≡ Some x → composite_at (map interned_of ts) i ≡ inner_of x.composite_type.inner
read-at [] i x h = absurd cc
read-at (t ∷ ts) zero x h = let e : t ≡ x = cc in ap (λ y. inner_of y.composite_type.inner) e
read-at (t ∷ ts) (suc i) x h = read-at ts i x h

-- the composite type of an element that was read
pub composite-read : (ts : List WasmSubType) (i : ℕ) (x : WasmSubType) → slice_get ts i ≡ Some x
    → (c : WasmCompositeInnerType) → x.composite_type.inner ≡ c → composite_at (map interned_of ts) i ≡ inner_of c
composite-read ts i x read c is = read-at ts i x read ∙ ap inner_of is

-- ---- a type alone

module _ (l : TypeList) (get : WasmFuncType → Option TypeIndex) where
  abbrev held : Built
  held = built_of l get

  called-is : (i : ℕ) (k : TypeIndex) → built_of (called_by l i k) get ≡ with_trampoline held i (number_of k)
  called-is i k = λ j. record held { trampolines = map-set (option_map number_of) l.trampolines i (Some k) j }

  -- types in a group after the others, each with its trampoline if it has one
  more-is : (ts : List WasmSubType) (ks : List (Option TypeIndex)) (r : Range TypeIndex) → r.start ≡ index_of (length l.types)
      → r.end ≡ index_of (length (l.types ++ ts))
      → built_of (record { types = l.types ++ ts; groups = l.groups ++ r ∷ []; trampolines = l.trampolines ++ ks }) get ≡ record held {
        types = held.types ++ map interned_of ts;
        groups = held.groups ++ next_span held (length (map interned_of ts)) ∷ [];
        trampolines = held.trampolines ++ map (option_map number_of) ks;
      }
  more-is ts ks r start end = grind (arith, length-map, map-append, length-append)

  pub alone-is : (t : WasmSubType) (k : Option TypeIndex) (r : Range TypeIndex) → r.start ≡ index_of (length l.types)
      → r.end ≡ index_of (length (l.types ++ t ∷ []))
      → built_of (with_range (with_type l t k) r) get ≡ alone held (interned_of t) (option_map number_of k)
  alone-is t k r start end = more-is (t ∷ []) (k ∷ []) r start end

  pub opened-is : (ts : List WasmSubType) (r : Range TypeIndex) → r.start ≡ index_of (length l.types)
      → r.end ≡ index_of (length (l.types ++ ts))
      → built_of (with_range (with_types l ts) r) get ≡ opened held (map interned_of ts)
  opened-is ts r start end = grind (arith, more-is, map-replicate, length-map)

-- the first types of a group were appended, which are in no group yet and have no trampolines
pub record Grown (old now : Interner) (ts : List Interned) (n : ℕ) : Type 0 where
  pub more : List WasmSubType
  pub is : now ≡ record old { list = with_types old.list more }
  pub are : map interned_of more ≡ take n ts

-- what is known once a key that represents a type is recorded
noted-by : (get : WasmFuncType → Option TypeIndex) (key : WasmFuncType) (m : Called) → ((g : Called) → func.ghosts.eq key (function_at g) ≡ same_mapped m g)
    → (later : WasmFuncType → Option TypeIndex) (k : TypeIndex) → ((q : WasmFuncType) → later q ≡ cond (func.ghosts.eq key q) (Some k) (get q)) → (g : Called)
    → option_map number_of (later (function_at g)) ≡ now_known (λ h. option_map number_of (get (function_at h))) m (number_of k) g
noted-by get key m tests later k puts g = grind arith

-- ---- a function and its trampoline

module _ (l : TypeList) (get : WasmFuncType → Option TypeIndex) (i : ℕ) (f : WasmFuncType)
    (kind : composite_at (map interned_of l.types) i ≡ Func (called_of f)) where
  abbrev old : Built
  old = built_of l get

  made : (o : Option TypeIndex) → o ≡ get (trampoline_of f) → assign_trampoline old i (composite_at old.types i) ≡ assign_at old i (called_of f) (option_map number_of o)
  made o e = ap (assign_trampoline old i) kind ∙ ap (assign_at old i (called_of f)) (sym (ap (option_map number_of) (e ∙ ap get (mapped-is f))))

  own : (b : Bool) → func.ghosts.eq (trampoline_of f) f ≡ b → same_mapped (mapped (called_of f)) (called_of f) ≡ b
  own b e = sym (key-is f f) ∙ e

  -- the trampoline is known
  pub known-before : (k : TypeIndex) → Some k ≡ get (trampoline_of f) → built_of (called_by l i k) get ≡ assign_trampoline old i (composite_at old.types i)
  known-before k e = called-is l get i k ∙ sym (made (Some k) e)

  -- what came next where the trampoline was not known
  abbrev unmet : Bool → Built
  unmet b =
      if b then with_trampoline (knows old (mapped (called_of f)) i) i i
      else alone (with_trampoline (knows old (mapped (called_of f)) (length old.types)) i (length old.types)) (plain (Func (mapped (called_of f)))) (Some (length old.types))

  pub made-new : None ≡ get (trampoline_of f) → (b : Bool) → func.ghosts.eq (trampoline_of f) f ≡ b → assign_trampoline old i (composite_at old.types i) ≡ unmet b
  made-new none b e = made None none ∙ ap unmet (own b e)

  module _ (none : None ≡ get (trampoline_of f)) (later : WasmFuncType → Option TypeIndex) (k : TypeIndex)
      (puts : (q : WasmFuncType) → later q ≡ cond (func.ghosts.eq (trampoline_of f) q) (Some k) (get q)) where
    mapped-test : (g : Called) → func.ghosts.eq (trampoline_of f) (function_at g) ≡ same_mapped (mapped (called_of f)) g
    mapped-test g = key-is f (function_at g) ∙ ap (same_mapped (mapped (called_of f))) (function-back g)

    pub known-now : built_of (called_by l i k) later ≡ with_trampoline (knows old (mapped (called_of f)) (number_of k)) i (number_of k)
    known-now = λ j. record (called-is l get i k j) {
      known_trampolines = λ g. noted-by get (trampoline_of f) (mapped (called_of f)) mapped-test later k puts g j;
    }

  -- it is its own mapped type
  pub known-itself : (none : None ≡ get (trampoline_of f)) (later : WasmFuncType → Option TypeIndex) (k : TypeIndex) → number_of k ≡ i
      → ((q : WasmFuncType) → later q ≡ cond (func.ghosts.eq (trampoline_of f) q) (Some k) (get q)) → func.ghosts.eq (trampoline_of f) f ≡ true
      → built_of (called_by l i k) later ≡ assign_trampoline old i (composite_at old.types i)
  known-itself none later k at puts is_own = grind (arith, known-now none later k puts, made-new none true is_own)

  -- a new type is appended
  pub known-next : None ≡ get (trampoline_of f) → func.ghosts.eq (trampoline_of f) f ≡ false → (g : Called) → g ≡ mapped (called_of f)
      → with_next_trampoline old i g ≡ assign_trampoline old i (composite_at old.types i)
  known-next none not_own g is = ap (with_next_trampoline old i) is ∙ sym (made-new none false not_own)

  -- then there is one type more
  pub new-long : None ≡ get (trampoline_of f) → func.ghosts.eq (trampoline_of f) f ≡ false
      → length (assign_trampoline old i (composite_at old.types i)).types ≡ length l.types + 1
  new-long none not_own = grind (arith, made-new none false not_own, length-append old.types (plain (Func (mapped (called_of f))) ∷ []), length-map l.types interned_of)

-- ---- the trampoline that comes next

module _ (l : TypeList) (get : WasmFuncType → Option TypeIndex) where
  pub next-is : (i : ℕ) (k : TypeIndex) (f : Called) → number_of k ≡ length (map interned_of l.types)
      → knows (alone (built_of (called_by l i k) get) (plain (Func f)) (Some (number_of k))) f (number_of k) ≡ with_next_trampoline (built_of l get) i f
  next-is i k f count =
      (λ j. knows (alone (called-is l get i k j) (plain (Func f)) (Some (number_of k))) f (number_of k))
      ∙ ap (λ n. alone (with_trampoline (knows (built_of l get) f n) i n) (plain (Func f)) (Some n)) count

  -- a type that is its own mapped type is recorded
  module _ (f : WasmFuncType) (own : trampoline_of f ≡ f) (later : WasmFuncType → Option TypeIndex) (k : TypeIndex)
      (puts : (q : WasmFuncType) → later q ≡ cond (func.ghosts.eq f q) (Some k) (get q)) where
    pub noted-is : built_of l later ≡ knows (built_of l get) (called_of f) (number_of k)
    noted-is = λ j. record (built_of l get) {
      known_trampolines = λ g. noted-by get f (called_of f)
          (λ h. grind (arith, own, key-is f (function_at h), called-mapped f, function-back h)) later k puts g j;
    }

-- only a function has a trampoline
pub assign_trampoline-other : (l : TypeList) (get : WasmFuncType → Option TypeIndex) (i : ℕ) (x : WasmSubType)
    → slice_get l.types i ≡ Some x → ((f : WasmFuncType) → x.composite_type.inner ≡ inner.Func f → ⊥)
    → built_of l get ≡ assign_trampoline (built_of l get) i (composite_at (map interned_of l.types) i)
assign_trampoline-other l get i x read other = grind (arith, composite-read l.types i x read x.composite_type.inner refl)

-- ---- what an interned type is named by

abbrev named_as : WasmSubType → ℕ → Name
named_as t n = record { kind = kind_of_type (composite_of t.composite_type.inner); index = index_at n }

pub name-is : (b : BuilderState) (i : TypeIndex) (t : WasmSubType) → slice_get b.list.types (number_of i) ≡ Some t → (n : ℕ) → number_of i ≡ n
    → named_as t (number_of i) ≡ interned_name b n
name-is b i t read n is = grind (arith, composite-read)

-- ---- the exception type of a function type

pub no-function : (ts : List WasmSubType) (i : ℕ) (x : WasmSubType) → slice_get ts i ≡ Some x
    → ((f : WasmFuncType) → x.composite_type.inner ≡ inner.Func f → ⊥) → IsTrue (is_function (composite_at (map interned_of ts) i)) → ⊥
no-function ts i x read other is = grind (arith, composite-read ts i x read x.composite_type.inner refl)

fields-made : (vs : List WasmValType)
    → map (map_field (named interned_number)) (map field_of (map field_at vs)) ≡ map field_for (map (map_value (named interned_number)) (map value_of vs))
fields-made [] = refl
fields-made (v ∷ vs) = λ i. field_for (map_value (named interned_number) (value_of v)) ∷ fields-made vs i

pub exception-made : (b : Built) (i : ℕ) (f : WasmFuncType) → composite_at b.types i ≡ types.Func (called_of f)
    → (fields : List WasmFieldType) → fields ≡ map field_at f.params
    → alone b (plain (types.Exn (record { function = i; fields = map (map_field (named interned_number)) (map field_of fields) }))) None ≡ with_exception b i
exception-made b i f kind fields is = grind (arith, fields-made)
