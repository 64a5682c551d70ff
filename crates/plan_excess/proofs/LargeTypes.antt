-- The interned types of a module, of which a list of types is the data: which of them are large.
use Rattle.std.proofs.Common.{◌≡◌, ◌∙◌, ℕ, zero, suc, ◌<◌, ◌≤◌, Bool, true, false, List, [], ◌∷◌, ◌++◌, length, map, Option, Some, None, refl, sym, ap, arith}
use Rattle.std.specs.Prelude.{IfSome, slice_get}
use Rattle.std.specs.Option.{option_map}
use Rattle.std.proofs.lemmas.List.{length-append}
use Rattle.std.proofs.lemmas.Option.{slice_get_within, slice_get-map, same_Some}
use Rattle.wasm_spec.specs.Module as plain
use Rattle.type_spec.specs.Names.{named}
use Rattle.type_spec.specs.Interned.{Interned, startup_type}
use Rattle.wasm_types.specs.declared.sub.WasmSubType.{WasmSubType}
use Rattle.module_types.specs.Views.{interned_number, interned_of}
use Rattle.command_words.specs.declared.command.Collector.{Collector}
use Rattle.gc_layout.specs.Objects.{gc_layout_of, fixed_size}
use Rattle.interned_types.specs.Types.{interned_list}
use Rattle.translate.specs.Options.{header_size}
use Rattle.translate.proofs.ObjectSizes.{same-size}
use Rattle.plan_excess.specs.Found.{IsSmallAt}
use Rattle.plan_excess.specs.Large.{IsLargeAt}

-- ---- with a startup type and without

pub slice-front : {X : Type 0} (xs ys : List X) (k : ℕ) → k < length xs → slice_get (xs ++ ys) k ≡ slice_get xs k
slice-front [] ys k lt = absurd (omega (arith, lt))
slice-front (x ∷ xs) ys zero lt = refl
slice-front (x ∷ xs) ys (suc k) lt = slice-front xs ys k (omega (arith, lt))

module _ (m : plain.Module) where
  abbrev listed : Bool → List Interned
  listed startup = (interned_list m startup).types

  pub listed-front : (startup : Bool) (k : ℕ) → k < length (interned_list m false).types
      → slice_get (interned_list m startup).types k ≡ slice_get (interned_list m false).types k
  listed-front false k lt = refl
  listed-front true k lt = slice-front (listed false) (startup_type ∷ []) k lt

  pub listed-long : (startup : Bool) → length (interned_list m false).types ≤ length (interned_list m startup).types
  listed-long false = omega arith
  listed-long true = omega (arith, length-append (listed false) (startup_type ∷ []))

-- ---- sizes

-- types that are the same data have objects of one size
pub one-size : (header : ℕ) (t u : WasmSubType) → interned_of t ≡ interned_of u
    → fixed_size (gc_layout_of header t.composite_type.inner) ≡ fixed_size (gc_layout_of header u.composite_type.inner)
one-size header t u same =
    same-size (named interned_number) interned_number header t.composite_type.inner u.composite_type.inner (ap (λ (x : Interned). x.composite.inner) same)

module _ (c : Collector) (m : plain.Module) (startup : Bool) (types : List WasmSubType) (is : map interned_of types ≡ (interned_list m startup).types) where
  abbrev small : WasmSubType → Type 0
  small t = fixed_size (gc_layout_of (header_size c) t.composite_type.inner) ≤ 4294967295

  -- a type at a position, as data
  data-at : (k : ℕ) → k < length (interned_list m false).types → option_map interned_of (slice_get types k) ≡ slice_get (interned_list m false).types k
  data-at k lt = sym (slice_get-map interned_of types k) ∙ ap (λ (ts : List Interned). slice_get ts k) is ∙ listed-front m startup k lt

  pub small-not-large : (k : ℕ) → IsSmallAt (header_size c) types k → IsLargeAt c m k → ⊥
  small-not-large k fits x = by (slice_get types k) (data-at k (slice_get_within _ k _ x.interned) ∙ x.interned) fits where
    by : (o : Option WasmSubType) → option_map interned_of o ≡ Some (interned_of x.type) → IfSome o small → ⊥
    by None at fits = absurd cc
    by (Some t) at fits = omega (arith, fits, x.large, one-size (header_size c) t x.type (same_Some _ _ at))

  pub not-small-large : (k : ℕ) → k < length (interned_list m false).types → (IsSmallAt (header_size c) types k → ⊥) → IsLargeAt c m k
  not-small-large k lt large = by (slice_get types k) (data-at k lt) large where
    by : (o : Option WasmSubType) → option_map interned_of o ≡ slice_get (interned_list m false).types k → (IfSome o small → ⊥) → IsLargeAt c m k
    by None at large = absurd (large tt)
    by (Some t) at large = record { type = t; interned = sym at; large = omega (arith, large) }
