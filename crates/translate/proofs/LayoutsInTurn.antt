-- The layouts of the types so far.
use Rattle.std.proofs.Common.{◌≡◌, ◌∙◌, ℕ, ◌+◌, ◌<◌, ◌≤◌, List, [], ◌∷◌, ◌++◌, length, map, Option, All, Any, refl, sym, ap, subst, arith, length-append}
use Rattle.std.specs.Option.{option_map}
use Rattle.std.proofs.lemmas.List.{map-append, length-map, append_assoc, append-nil}
use Rattle.std.proofs.lemmas.List.Elements.{All-nil, All-push}
use Rattle.std.proofs.Math.Seq.{get_or-append_seam}
use Rattle.entity_map.specs.Keyed.{keyed_from}
use Rattle.wasm_types.specs.declared.sub.WasmSubType.{WasmSubType}
use Rattle.gc_layout.specs.declared.object.GcLayout.{GcLayout}
use Rattle.gc_layout.specs.declared.error.LayoutError.{LayoutError}
use Rattle.gc_layout.specs.declared.error.LayoutError.TheVariants as layout
use Rattle.plan_text.specs.Errors.{error_of_layout}
use Rattle.plan_text.specs.declared.error.TranslateError.{TranslateError}
use Rattle.plan_text.specs.declared.error.TranslateError.TheVariants as refusal
use Rattle.gc_layout.specs.Objects.{ObjectLayout, object_layout, gc_layout_of, fixed_size}

abbrev layout_by : ℕ → WasmSubType → Option ObjectLayout
layout_by header t = gc_layout_of header t.composite_type.inner

abbrev IsSmall : ℕ → WasmSubType → Type 0
IsSmall header t = fixed_size (gc_layout_of header t.composite_type.inner) ≤ 4294967295

abbrev types_of : {K : Type 0} → List (K × WasmSubType) → List WasmSubType
types_of left = map (λ p. p.1) left

types-keyed : {K : Type 0} (at : ℕ → K) (n : ℕ) (types : List WasmSubType) → types ≡ types_of (keyed_from at n types)
types-keyed at n [] = refl
types-keyed at n (t ∷ types) = ap (λ ts. t ∷ ts) (types-keyed at (n + 1) types)

module _ {K : Type 0} (header : ℕ) where
  -- these are the layouts of all types but those that remain, and their objects are small
  pub record AreLaidOut (types : List WasmSubType) (so_far : List (Option GcLayout)) (left : List (K × WasmSubType)) : Type 0 where
    pub done : List WasmSubType
    pub parts : types ≡ done ++ map (λ p. p.1) left
    pub layouts : map (option_map object_layout) so_far ≡ map (λ t. gc_layout_of header t.composite_type.inner) done
    pub fits : All (λ t. fixed_size (gc_layout_of header t.composite_type.inner) ≤ 4294967295) done

  pub laid-none : (at : ℕ → K) (types : List WasmSubType) (left : List (K × WasmSubType)) → left ≡ keyed_from at 0 types → AreLaidOut types [] left
  laid-none at types left is = record {
    done = [];
    parts = types-keyed at 0 types ∙ ap types_of (sym is);
    layouts = refl;
    fits = All-nil (IsSmall header);
  }

  module _ {types : List WasmSubType} {layouts : List (Option GcLayout)} {left : List (K × WasmSubType)} (laid : AreLaidOut types layouts left) where
    module _ {rest : List (K × WasmSubType)} {k : K} {t : WasmSubType} (is : left ≡ (k, t) ∷ rest) where
      whole : types ≡ laid.done ++ t ∷ types_of rest
      whole = laid.parts ∙ ap (λ ts. laid.done ++ types_of ts) is

      pub laid-more : (layout : Option GcLayout) → option_map object_layout layout ≡ gc_layout_of header t.composite_type.inner
          → fixed_size (gc_layout_of header t.composite_type.inner) ≤ 4294967295 → AreLaidOut types (layouts ++ layout ∷ []) rest
      laid-more next exact small = record {
        done = laid.done ++ t ∷ [];
        parts = whole ∙ sym (append_assoc laid.done (t ∷ []) (types_of rest));
        layouts = map-append (option_map object_layout) layouts (next ∷ [])
            ∙ (λ i. laid.layouts i ++ exact i ∷ []) ∙ sym (map-append (layout_by header) laid.done (t ∷ []));
        fits = All-push (IsSmall header) laid.done t laid.fits small;
      }

      count : length layouts ≡ length laid.done
      count = sym (length-map layouts (option_map object_layout)) ∙ ap length laid.layouts ∙ length-map laid.done (layout_by header)

      -- there are fewer layouts than types
      pub laid-fewer : length layouts < length types
      laid-fewer = omega (arith, count, simp length-append at (ap length whole))

      pub laid-large : 4294967295 < fixed_size (gc_layout_of header t.composite_type.inner)
          → Any (λ t. 4294967295 < fixed_size (gc_layout_of header t.composite_type.inner)) types
      laid-large large =
          rw whole (length laid.done, t, omega (arith, length-append laid.done (t ∷ types_of rest)), get_or-append_seam laid.done t (types_of rest) t, large)

    module _ (is : left ≡ []) where
      all-done : laid.done ≡ types
      all-done = sym (laid.parts ∙ ap (λ ts. laid.done ++ types_of ts) is ∙ append-nil laid.done)

      pub laid-all : map (option_map object_layout) layouts ≡ map (λ t. gc_layout_of header t.composite_type.inner) types
      laid-all = laid.layouts ∙ ap (map (layout_by header)) all-done

      pub laid-small : All (λ t. fixed_size (gc_layout_of header t.composite_type.inner) ≤ 4294967295) types
      laid-small = subst (All (IsSmall header)) all-done laid.fits

-- only an overflow becomes one
pub overflow-only : (e : LayoutError) (error : TranslateError) → error ≡ error_of_layout e → error ≡ refusal.OffsetOverflow → e ≡ layout.OffsetOverflow
overflow-only layout.OffsetOverflow error is large = refl
overflow-only layout.OutOfMemory error is large = cc
