-- What a module exports and imports, item by item, and exports that are planned one by one.
use Rattle.std.proofs.Common.{◌≡◌, ℕ, List, length, slice_get, All, Option, Some, None, refl, sym, ap, ◌∙◌, eq-eqb, ◌<◌, [], ◌∷◌, ◌++◌, map, get_or, subst, arith, length-append}
use Rattle.std.specs.Prelude.{IsSome, is_some, option_and_then, Any}
use Rattle.std.specs.List.{IsDistinct, filter_map, cons_option}
use Rattle.std.specs.Borrow.{Bor}
use Rattle.std.specs.Map.{keys_of}
use Rattle.std.specs.Option.{option_map}
use Rattle.std.proofs.lemmas.Option.{none-some, same_Some, slice_get-map}
use Rattle.std.proofs.lemmas.List.{length-map, append_assoc, get_or_at, map_push}
use Rattle.std.proofs.lemmas.List.Elements.{All-weaker, All-head, All-tail}
use Rattle.entity_map.specs.Pool.{HasEachOnce, atom_number}
use Rattle.entity_map.specs.declared.pool.Atom.{Atom}
use Rattle.entity_map.specs.contracts.pool.AtomPartialEq.TheImpl as atoms
use Rattle.wasm_types.specs.declared.entity.EntityIndex.{EntityIndex}
use Rattle.wasm_types.specs.declared.entity.EntityType.{EntityType}
use Rattle.wasm_module.specs.declared.initializer.Initializer.{Initializer}
use Rattle.wasm_module.specs.declared.initializer.Initializer.TheVariants as initializer
use Rattle.wasm_module.specs.declared.module.Module.{Module as Record}
use Rattle.wasm_module.specs.Record.{ModuleRecord, record_of}
use Rattle.wasm_module.specs.Entities.{entity_type}
use Rattle.wasm_module.specs.Imports.{text_of, import_of, imports_of, lent_import, IsResolved}
use Rattle.type_registry.specs.Keys.{key_number}
use Rattle.type_registry.specs.Registry.{RegistryState, registry_of}
use Rattle.type_registry.specs.declared.key.ModuleKey.{ModuleKey}
use Rattle.import_match.specs.Definitions.{Definition, TwoNames, AreOnce, names_of}
use Rattle.import_match.specs.Linking.{engine_definition, export_of, exports_of, wants_of, exported, IsExportResolved, wanted, engine_definitions, engine_type}
use Rattle.import_match.proofs.Listing.{value_of, slice_get-filter_map, length-filter_map, slice_get-from_map, one-place}
use Rattle.import_match.specs.declared.names.DefinitionNames.{DefinitionNames}
use Rattle.import_match.specs.Kept.{definition_of}

-- ---- exports

pub export-is : (m : ModuleRecord) (from own : List ℕ) (x : Atom × EntityIndex) (t : EntityType) → text_of m x.0 ≡ Some own → entity_type m x.1 ≡ Some t
    → export_of m from x ≡ Some ((from, own), t)
export-is m from own x t text type =
    ap (option_and_then (λ (o : List ℕ). option_map (λ (u : EntityType). ((from, o), u)) (entity_type m x.1))) text
    ∙ ap (option_map (λ (u : EntityType). ((from, own), u))) type

pub export-some : (m : ModuleRecord) (from : List ℕ) (x : Atom × EntityIndex) → IsExportResolved m x → IsSome (export_of m from x)
export-some m from x h =
    let own = value_of (text_of m x.0) h.0 in
    let t = value_of (entity_type m x.1) h.1 in
    ap is_some (export-is m from own.0 x t.0 own.1 t.1)

-- the text of an export's own name
export-text : (m : ModuleRecord) (from : List ℕ) (x : Atom × EntityIndex) (d : Definition) → export_of m from x ≡ Some d → text_of m x.0 ≡ Some d.0.1
export-text m from x d is = by (text_of m x.0) (entity_type m x.1) is
  where
    by : (o : Option (List ℕ)) (t : Option EntityType)
        → option_and_then (λ (own : List ℕ). option_map (λ (u : EntityType). ((from, own), u)) t) o ≡ Some d → o ≡ Some d.0.1
    by (Some own) (Some u) h = ap (λ (c : Definition). Some c.0.1) (same_Some ((from, own), u) d h)
    by _ _ h = absurd (none-some d h)

-- an export at a position
pub record ExportAt (m : ModuleRecord) (from : List ℕ) (i : ℕ) (d : Definition) : Type 0 where
  pub entry : Atom × EntityIndex
  pub at : slice_get m.exports i ≡ Some entry
  pub text : text_of m entry.0 ≡ Some d.0.1

export-at : (m : ModuleRecord) (from : List ℕ) → All (IsExportResolved m) m.exports → (i : ℕ) (d : Definition) → slice_get (exports_of m from) i ≡ Some d
    → ExportAt m from i d
export-at m from all i d is =
    let some = All-weaker (IsExportResolved m) (λ x. IsSome (export_of m from x)) (export-some m from) m.exports all in
    by (slice_get m.exports i) refl (sym (slice_get-filter_map (export_of m from) m.exports some i) ∙ is)
  where
    by : (o : Option (Atom × EntityIndex)) → slice_get m.exports i ≡ o → option_and_then (export_of m from) o ≡ Some d → ExportAt m from i d
    by None at h = absurd (none-some d h)
    by (Some x) at h = record { entry = x; at = at; text = export-text m from x d h }

-- no two exports have the same names
pub exported-once : (registry : RegistryState) (key : ModuleKey) (m : Record) (from : List ℕ) → All (IsExportResolved (record_of m)) (record_of m).exports
    → HasEachOnce (record_of m).strings → IsDistinct atoms.ghosts.eq (keys_of (record_of m).exports) → AreOnce (exported registry key m from)
exported-once registry key m from all once distinct i j d e at_i at_j same =
    let engine = engine_definition (registry_of registry) (key_number key) in
    let x = slice_get-from_map engine (exports_of (record_of m) from) i d at_i in
    let y = slice_get-from_map engine (exports_of (record_of m) from) j e at_j in
    let a = export-at (record_of m) from all i x.0 x.1 in
    let b = export-at (record_of m) from all j y.0 y.1 in
    let own : x.0.0.1 ≡ y.0.0.1 =
    ap (λ (c : Definition). c.0.1) x.2 ∙ ap (λ (n : TwoNames). n.1) same ∙ ap (λ (c : Definition). c.0.1) (sym y.2)
    in
    let number : atom_number a.entry.0 ≡ atom_number b.entry.0 =
    once (atom_number a.entry.0) (atom_number b.entry.0) y.0.0.1 (a.text ∙ ap (λ (t : List ℕ). Some t) own) b.text
    in
    one-place atoms.ghosts.eq (keys_of (record_of m).exports) distinct i j a.entry.0 b.entry.0
    (slice_get-map (λ (c : Atom × EntityIndex). c.0) (record_of m).exports i ∙ ap (option_map (λ (c : Atom × EntityIndex). c.0)) a.at)
    (slice_get-map (λ (c : Atom × EntityIndex). c.0) (record_of m).exports j ∙ ap (option_map (λ (c : Atom × EntityIndex). c.0)) b.at)
    (eq-eqb (atom_number a.entry.0) (atom_number b.entry.0) number) (eq-eqb (atom_number b.entry.0) (atom_number a.entry.0) (sym number))

-- ---- imports

pub import-some : (m : ModuleRecord) (x : Initializer) → IsResolved m x → IsSome (import_of m x)
import-some m (initializer.Import name field index) h =
    let from = value_of (text_of m name) h.0 in
    let own = value_of (text_of m field) h.1 in
    ap is_some (
    ap (option_and_then (λ (f : List ℕ). option_and_then (λ (o : List ℕ). option_map (λ (u : EntityType). (f, o, u)) (entity_type m index)) (text_of m field))) from.1
    ∙ ap (option_and_then (λ (o : List ℕ). option_map (λ (u : EntityType). (from.0, o, u)) (entity_type m index))) own.1
    ∙ ap (option_map (λ (u : EntityType). (from.0, own.0, u))) (value_of (entity_type m index) h.2).1
    )

abbrev pub Import : Type 0
Import = List ℕ × List ℕ × EntityType

abbrev pub want_of : Import → Definition
want_of i = ((i.0, i.1), i.2)

module _ (m : ModuleRecord) (all : All (IsResolved m) m.initializers) where
  some : All (λ x. IsSome (import_of m x)) m.initializers
  some = All-weaker (IsResolved m) (λ x. IsSome (import_of m x)) (import-some m) m.initializers all

  pub want-at : (k : ℕ) (i : Import) → option_and_then (import_of m) (slice_get m.initializers k) ≡ Some i → slice_get (wants_of m) k ≡ Some (want_of i)
  want-at k i is =
      slice_get-map want_of (imports_of m m.initializers) k
      ∙ ap (option_map want_of) (slice_get-filter_map (import_of m) m.initializers some k ∙ is)

  pub wants-length : length (wants_of m) ≡ length m.initializers
  wants-length = length-map (imports_of m m.initializers) want_of ∙ length-filter_map (import_of m) m.initializers some

-- an import as it is borrowed
abbrev pub Lent : Type 0
Lent = Bor (List ℕ) × Bor (List ℕ) × EntityType

abbrev pub lent_want : Lent → Definition
lent_want x = want_of (lent_import x)

module _ (registry : RegistryState) (key : ModuleKey) (m : Record) (all : All (IsResolved (record_of m)) (record_of m).initializers) (k : ℕ) (o : Option Lent)
    (x : Lent) (read : option_map lent_import o ≡ option_and_then (import_of (record_of m)) (slice_get (record_of m).initializers k)) (is : o ≡ Some x) where
  -- the import that was read at a position, as the module wants it
  pub read-at : slice_get (wants_of (record_of m)) k ≡ Some (lent_want x)
  read-at = want-at (record_of m) all k (lent_import x) (sym read ∙ ap (option_map lent_import) is)

  -- and with the engine's types
  pub wanted-at : slice_get (wanted registry key m) k ≡ Some (engine_definition (registry_of registry) (key_number key) (lent_want x))
  wanted-at =
      let engine = engine_definition (registry_of registry) (key_number key) in
      slice_get-map engine (wants_of (record_of m)) k ∙ ap (option_map engine) read-at

-- ---- exports that are planned one by one

-- some item, between others
pub any-at : {X : Type 0} (P : X → Type 0) (xs ys all : List X) (x : X) → xs ++ x ∷ ys ≡ all → P x → Any P all
any-at P xs ys all x is holds =
    let less : length xs < length (xs ++ x ∷ ys) = omega (arith, length-append xs (x ∷ ys)) in
    (length xs, x, subst (λ l. length xs < length l) is less, subst (λ l. get_or l (length xs) x ≡ x) is (get_or_at xs x ys x (length xs) refl), holds)

module _ (registry : RegistryState) (key : ModuleKey) (m : Record) (from : List ℕ) where
  abbrev pub listing : List (Atom × EntityIndex) → List Definition
  listing es = filter_map (export_of (record_of m) from) es

  abbrev pub planned : List (Atom × EntityIndex) → List Definition
  planned es = engine_definitions (registry_of registry) (key_number key) (listing es)

  -- the next export is the first of the remaining ones
  module _ (it rest : List (Atom × EntityIndex)) (x : Atom × EntityIndex) (own : List ℕ) (t : EntityType) (is : it ≡ x ∷ rest)
      (text : text_of (record_of m) x.0 ≡ Some own) (type : entity_type (record_of m) x.1 ≡ Some t) where
    listing-cons : listing it ≡ ((from, own), t) ∷ listing rest
    listing-cons = ap listing is ∙ ap (λ o. cons_option o (listing rest)) (export-is (record_of m) from own x t text type)

    pub next : (ds : List Definition) → ds ++ planned it ≡ exported registry key m from
        → ds ++ ((from, own), engine_type (registry_of registry) (key_number key) t) ∷ planned rest ≡ exported registry key m from
    next ds listed = sym (ap (λ l. ds ++ engine_definitions (registry_of registry) (key_number key) l) listing-cons) ∙ listed

    pub types-next : (P : Definition → Type 0) → All P (listing it) → P ((from, own), t) × All P (listing rest)
    types-next P all =
        let both = subst (All P) listing-cons all in
        (All-head P ((from, own), t) (listing rest) both, All-tail P ((from, own), t) (listing rest) both)

    -- once it is planned
    pub pushed : (ps qs : List (DefinitionNames × EntityType)) (names : DefinitionNames) (u : EntityType) → qs ≡ ps ++ (names, u) ∷ [] → names_of names ≡ (from, own)
        → u ≡ engine_type (registry_of registry) (key_number key) t → map definition_of ps ++ planned it ≡ exported registry key m from
        → map definition_of qs ++ planned rest ≡ exported registry key m from
    pushed ps qs names u grown named is-type listed =
        let both : definition_of (names, u) ≡ ((from, own), engine_type (registry_of registry) (key_number key) t) = λ i. (named i, is-type i) in
        ap (λ l. map definition_of l ++ planned rest) grown ∙ ap (λ l. l ++ planned rest) (map_push definition_of ps (names, u))
        ∙ append_assoc (map definition_of ps) (definition_of (names, u) ∷ []) (planned rest)
        ∙ ap (λ d. map definition_of ps ++ d ∷ planned rest) both ∙ next (map definition_of ps) listed
