-- Searches for the first export whose name an earlier export has.
use Rattle.std.proofs.Common.{◌≡◌, ℕ, ◌+◌, ◌<◌, true, false, List, [], ◌∷◌, ◌++◌, length, take, get_or, map, Option, Some, None, refl, sym, ap, subst, ◌∙◌, arith}
use Rattle.std.specs.Prelude.{IfSome, Contains, slice_get}
use Rattle.std.specs.List.{list_any}
use Rattle.std.specs.Str.{bytes_eq}
use Rattle.std.proofs.Math.Seq.{take-append_seam}
use Rattle.std.proofs.lemmas.List.{length-append, length-map, length-take, get_or-take, get_or-map}
use Rattle.std.proofs.lemmas.Option.{get_or_from_slice_get}
use Rattle.std.proofs.lemmas.Map.Views.{Contains-from_any}
use Rattle.std.proofs.lemmas.Slice.Eq.{bytes_eq-Decides}
use Rattle.wasm_spec.specs.Module.{Export}
use Rattle.rule_spec.specs.Rules.{AreDistinct}
use Rattle.entity_map.specs.Pool.{with_text}
use Rattle.form_rules.specs.Names.{exported_names}
use Rattle.form_rules.proofs.ExportNames.{Gathers}
use Rattle.rule_breaks.specs.Breaks.{IsFirstRepeated}
use Rattle.rule_breaks.proofs.Searching.{inside, seam}

-- where all names are distinct, none is repeated
pub none-repeated : (es : List Export) (entry : ℕ) → IsFirstRepeated es entry → AreDistinct es → ⊥
none-repeated es entry first distinct = found (slice_get es entry) refl first.repeats where
  found : (o : Option Export) → slice_get es entry ≡ o
      → IfSome o (λ (e : Export). Contains (map (λ (earlier : Export). earlier.name) (take entry es)) e.name) → ⊥
  found None is repeats = inside es entry first.listed is
  found (Some e) is repeats =
      let k = repeats.0 in
      let inner : k < length (take entry es) = omega (arith, repeats.1, length-map (take entry es) (λ (x : Export). x.name)) in
      let small : k < entry = omega (arith, inner, length-take entry es) in
      let there : get_or es entry e ≡ e = get_or_from_slice_get es entry e e is in
      let named : (get_or es k e).name ≡ e.name =
      ap (λ (x : Export). x.name) (sym (get_or-take entry es k e small))
      ∙ sym (get_or-map (λ (x : Export). x.name) (take entry es) k e e.name inner) ∙ repeats.2 in
      distinct k entry e small first.listed (named ∙ sym (ap (λ (x : Export). x.name) there))

-- a name that the pool has is that of an earlier export
pub repeated-from_Gathers : (count : ℕ) (texts : List (List ℕ)) (left rest all : List Export) (e : Export) → Gathers texts left all → count ≡ length texts
    → left ≡ e ∷ rest → list_any (bytes_eq e.name) texts ≡ true → IsFirstRepeated all count
repeated-from_Gathers count texts left rest all e gathers counted at present =
    let through : gathers.done ++ e ∷ rest ≡ all = ap (λ (es : List Export). gathers.done ++ es) (sym at) ∙ gathers.whole in
    let place : count ≡ length gathers.done = counted ∙ ap length gathers.names ∙ length-map gathers.done (λ (x : Export). x.name) in
    let before : take count all ≡ gathers.done =
    sym (ap (λ es. take count es) through) ∙ ap (λ n. take n (gathers.done ++ e ∷ rest)) place ∙ take-append_seam gathers.done (e ∷ rest) in
    let there : slice_get all count ≡ Some e =
    sym (ap (λ es. slice_get es count) through) ∙ ap (slice_get (gathers.done ++ e ∷ rest)) place ∙ seam gathers.done rest e in
    let named : Contains texts e.name = Contains-from_any (λ x y. (bytes_eq-Decides x y).0) e.name texts present in
    record {
      before = subst AreDistinct (sym before) gathers.distinct;
      listed = omega (arith, ap length through, length-append gathers.done (e ∷ rest), place);
      repeats = subst (λ o. IfSome o (λ (x : Export). Contains (map (λ (earlier : Export). earlier.name) (take count all)) x.name)) (sym there)
          (subst (λ ns. Contains ns e.name) (gathers.names ∙ ap exported_names (sym before)) named);
    }

-- the pool grows by a name that is new
pub counted-more : (count next : ℕ) (texts more : List (List ℕ)) (name : List ℕ) → count ≡ length texts → next ≡ count + 1
    → list_any (bytes_eq name) texts ≡ false → more ≡ with_text texts name → next ≡ length more
counted-more count next texts more name counted is absent grown =
    let pushed : more ≡ texts ++ name ∷ [] = grown ∙ rw absent refl in
    omega (arith, counted, is, ap length pushed, length-append texts (name ∷ []))
