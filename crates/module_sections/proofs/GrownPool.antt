-- A text keeps its position in a pool that grows.
use Rattle.std.proofs.Common.{◌≡◌, ◌≤◌, ◌<◌, ◌^◌, ◌*◌, ℕ, ◌+◌, Bool, true, false, zero, suc, List, [], ◌∷◌, ◌++◌, length, map, slice_get, unwrap_or, All, refl, sym, ap, ◌∙◌, cond, append_assoc, arith}
use Rattle.std.specs.List.{list_any, flat_map}
use Rattle.std.specs.Str.{bytes_eq}
use Rattle.std.proofs.lemmas.List.Sums.{fold-append}
use Rattle.std.proofs.lemmas.List.{append-nil, length-append, length-map}
use Rattle.std.proofs.lemmas.List.Elements.{All-head, All-tail}
use Rattle.entity_map.specs.Pool.{atom_number, with_text}
use Rattle.entity_map.specs.declared.pool.Atom.{Atom}
use Rattle.wasm_spec.specs.Module.{Import, HasFewEntries}
use Rattle.wasm_spec.specs.Module as plain
use Rattle.rule_spec.specs.Lists.{lists_of_module}
use Rattle.wasm_types.specs.declared.entity.EntityIndex.{EntityIndex}
use Rattle.wasm_module.specs.declared.initializer.Initializer.{Initializer}
use Rattle.wasm_module.specs.declared.initializer.Initializer.TheVariants as initializer
use Rattle.module_sections.specs.Entities.{text_at, resolved_import, resolved_export}
use Rattle.form_rules.specs.Names.{import_names, imported_names, exported_names}
use Rattle.module_sections.specs.Pooled.{with_texts, HasText, HasTexts}

-- ---- growing

-- at most so many texts are added, after those that were there
pub record GrowsBy (count : ℕ) (old new : List (List ℕ)) : Type 0 where
  pub added : List (List ℕ)
  pub whole : new ≡ old ++ added
  pub few : length added ≤ count

pub grows-then : (m n both : ℕ) → both ≡ m + n → (old now new : List (List ℕ)) → GrowsBy m old now → GrowsBy n now new → GrowsBy both old new
grows-then m n both sum old now new first second = record {
  added = first.added ++ second.added;
  whole = second.whole ∙ ap (λ (ts : List (List ℕ)). ts ++ second.added) first.whole ∙ append_assoc old first.added second.added;
  few = omega (arith, sum, first.few, second.few, length-append first.added second.added);
}

pub grows-text : (texts : List (List ℕ)) (text : List ℕ) → GrowsBy 1 texts (with_text texts text)
grows-text texts text = by (list_any (bytes_eq text) texts) where
  by : (b : Bool) → GrowsBy 1 texts (cond b texts (texts ++ text ∷ []))
  by true = record { added = []; whole = sym (append-nil texts); few = omega arith }
  by false = record { added = text ∷ []; whole = refl; few = omega arith }

-- by at most the texts that are put in
pub grows-texts : (more texts : List (List ℕ)) → GrowsBy (length more) texts (with_texts texts more)
grows-texts [] texts = record { added = []; whole = sym (append-nil texts); few = omega arith }
grows-texts (t ∷ ts) texts =
    let now = with_text texts t in
    grows-then 1 (length ts) (suc (length ts)) (omega arith) texts now (with_texts now ts) (grows-text texts t) (grows-texts ts now)

pub grows-within : (n : ℕ) (more old new : List (List ℕ)) → new ≡ with_texts old more → length more ≤ n → GrowsBy n old new
grows-within n more old new is le =
    let g = grows-texts more old in
    record { added = g.added; whole = is ∙ g.whole; few = omega (arith, g.few, le) }

pub length-grown : (n : ℕ) (old new : List (List ℕ)) → GrowsBy n old new → length new ≤ length old + n
length-grown n old new grows = omega (arith, grows.few, ap length grows.whole ∙ length-append old grows.added)

-- ---- the names of a module

-- texts that are added after others
pub texts-then : (old now new : List (List ℕ)) (first second both : List (List ℕ)) → both ≡ first ++ second → now ≡ with_texts old first
    → new ≡ with_texts now second → new ≡ with_texts old both
texts-then old now new first second both whole is then =
    cc (fold-append with_text old first second)

pub imported-few : (is : List Import) → length (flat_map import_names is) ≡ 2 * length is
imported-few [] = refl
imported-few (i ∷ is) = omega (arith, imported-few is)

-- imports bring at most two names each
pub imports-pooled : (was : List (List ℕ)) (is : List Import) (texts : List (List ℕ)) → texts ≡ with_texts was (flat_map import_names is)
    → length texts ≤ length was + 2 * length is
imports-pooled was is texts whole =
    length-grown (2 * length is) was texts (grows-within (2 * length is) (flat_map import_names is) was texts whole (omega (arith, imported-few is)))

pub exported-few : (m : plain.Module) → HasFewEntries m → length (exported_names (lists_of_module m).exports) < 2 ^ 30
exported-few m few = omega (arith, length-map (lists_of_module m).exports (λ (e : plain.Export). e.name), few.exports)

-- imports and exports have so few names that there is capacity for that of the module
pub names-pooled : (m : plain.Module) → HasFewEntries m → (texts : List (List ℕ))
    → texts ≡ with_texts (exported_names (lists_of_module m).exports) (imported_names m) → length texts < 2 ^ 31 + 2 ^ 30
names-pooled m few texts whole =
    omega (arith, imports-pooled (exported_names (lists_of_module m).exports) (plain.imports m) texts whole, few.imports, exported-few m few)

-- ---- texts

front : {X : Type 0} (xs ys : List X) (n : ℕ) → n < length xs → slice_get (xs ++ ys) n ≡ slice_get xs n
front [] ys n lt = absurd (omega arith)
front (x ∷ xs) ys zero lt = refl
front (x ∷ xs) ys (suc n) lt = front xs ys n (omega arith)

module _ (n : ℕ) (old new : List (List ℕ)) (grows : GrowsBy n old new) where
  pub read-grown : (a : Atom) → HasText old a → slice_get new (atom_number a) ≡ slice_get old (atom_number a)
  read-grown a pooled = ap (λ (ts : List (List ℕ)). slice_get ts (atom_number a)) grows.whole ∙ front old grows.added (atom_number a) pooled

  pub pooled-grown : (a : Atom) → HasText old a → HasText new a
  pooled-grown a pooled = omega (arith, ap length grows.whole ∙ length-append old grows.added)

  pub text-grown : (a : Atom) → HasText old a → text_at new a ≡ text_at old a
  text-grown a pooled = ap (λ r. unwrap_or r []) (read-grown a pooled)

  -- ---- imports

  pub names-grown : (i : Initializer) → HasTexts old i → HasTexts new i
  names-grown (initializer.Import name field index) pooled = (pooled-grown name pooled.0, pooled-grown field pooled.1)

  pub import-grown : (i : Initializer) → HasTexts old i → resolved_import new i ≡ resolved_import old i
  import-grown (initializer.Import name field index) pooled = λ j. (text-grown name pooled.0 j, text-grown field pooled.1 j, index)

  -- imports come by the same names
  pub imports-grown : (is : List Initializer) → All (HasTexts old) is → map (resolved_import new) is ≡ map (resolved_import old) is
  imports-grown [] pooled = refl
  imports-grown (i ∷ is) pooled =
      cc (import-grown i (All-head (HasTexts old) i is pooled), imports-grown is (All-tail (HasTexts old) i is pooled))

  -- ---- exports

  pub exports-grown : (es : List (Atom × EntityIndex)) → All (λ e. HasText old e.0) es → map (resolved_export new) es ≡ map (resolved_export old) es
  exports-grown [] pooled = refl
  exports-grown (e ∷ es) pooled =
      let P : Atom × EntityIndex → Type 0 = λ x. HasText old x.0 in
      cc (text-grown e.0 (All-head P e es pooled), exports-grown es (All-tail P e es pooled))
