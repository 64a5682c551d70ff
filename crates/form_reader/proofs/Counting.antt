-- The index spaces of sections that are joined.
use Rattle.std.proofs.Common.{◌≡◌, ℕ, ◌+◌, ◌<◌, suc, List, [], ◌∷◌, ◌++◌, length, map, take, drop, get_or, Option, refl, sym, ap, subst, ◌∙◌, arith, length-append, drop-cons}
use Rattle.std.specs.List.{filter_map, flat_map}
use Rattle.std.proofs.lemmas.List.{append-nil, length-map, map-append, map_more, take-append-drop}
use Rattle.std.proofs.lemmas.List.Concat.{flat_map-append}
use Rattle.std.proofs.lemmas.List.Elements.{filter_map-append}
use Rattle.wasm_spec.specs.declared.entities.TypeRef.{TypeRef}
use Rattle.wasm_spec.specs.declared.types.UnpackedIndex.{UnpackedIndex}
use Rattle.wasm_spec.specs.TypeData.{Group}
use Rattle.wasm_spec.specs.Module as plain
use Rattle.wasm_spec.specs.Module.{Module, Types, Imports, imports, imports_of_section, imported_of, groups_of_section, function_types_of_section, tables_of_section, memories_of_section, tags_of_section, globals_of_section, types, functions, tables, memories, globals, tags, function_import, table_import, memory_import, global_import, tag_import, HasFewEntries}
use Rattle.form_reader.specs.declared.form.Counts.{Counts}
use Rattle.form_reader.specs.Counted.{counts_of, SizesFit, CountsMore}

-- each index space of the complete module is as long as those of two parts together
pub record Joins (whole one other : Module) : Type 0 where
  pub types : length (types whole) ≡ length (types one) + length (types other)
  pub functions : length (functions whole) ≡ length (functions one) + length (functions other)
  pub tables : length (tables whole) ≡ length (tables one) + length (tables other)
  pub memories : length (memories whole) ≡ length (memories one) + length (memories other)
  pub globals : length (globals whole) ≡ length (globals one) + length (globals other)
  pub tags : length (tags whole) ≡ length (tags one) + length (tags other)

-- ---- what joins

-- what is defined in sections
defined_joins : {A : Type 0} (list : plain.Payload → List A) (m n : Module)
    → length (flat_map list (m ++ n)) ≡ length (flat_map list m) + length (flat_map list n)
defined_joins list m n = ap length (flat_map-append list m n) ∙ length-append (flat_map list m) (flat_map list n)

mapped_joins : {A B : Type 0} (f : A → B) (list : plain.Payload → List A) (m n : Module)
    → length (map f (flat_map list (m ++ n))) ≡ length (map f (flat_map list m)) + length (map f (flat_map list n))
mapped_joins f list m n = omega (
  arith,
  length-map (flat_map list (m ++ n)) f,
  length-map (flat_map list m) f,
  length-map
      (flat_map list n) f,
  defined_joins list m n,
)

-- and what is imported
space_joins : {A : Type 0} (kind : TypeRef → Option A) (defined : Module → List A) (m n : Module)
    → length (defined (m ++ n)) ≡ length (defined m) + length (defined n)
    → length (imported_of kind (m ++ n) ++ defined (m ++ n)) ≡ length (imported_of kind m ++ defined m) + length (imported_of kind n ++ defined n)
space_joins kind defined m n both =
    let some = ap length (ap (filter_map (λ i. kind i.type)) (flat_map-append imports_of_section m n)
    ∙ filter_map-append (λ i. kind i.type) (imports m) (imports n)) ∙ length-append (imported_of kind m) (imported_of kind n) in
    omega (
      arith,
      both,
      some,
      length-append (imported_of kind (m ++ n)) (defined (m ++ n)),
      length-append (imported_of kind m)
          (defined m),
      length-append (imported_of kind n) (defined n),
    )

pub sections_join : (m n : Module) → Joins (m ++ n) m n
sections_join m n = record {
  types = ap length (ap (flat_map (λ g. g)) (flat_map-append groups_of_section m n)
      ∙ flat_map-append (λ g. g) (flat_map groups_of_section m) (flat_map groups_of_section n)) ∙ length-append (types m) (types n);
  functions = space_joins function_import (flat_map function_types_of_section) m n (defined_joins function_types_of_section m n);
  tables = space_joins table_import (λ (x : Module). map (λ t. t.type) (flat_map tables_of_section x)) m n
      (mapped_joins (λ t. t.type) tables_of_section m n);
  memories = space_joins memory_import (flat_map memories_of_section) m n (defined_joins memories_of_section m n);
  globals = space_joins global_import (λ (x : Module). map (λ g. g.type) (flat_map globals_of_section x)) m n
      (mapped_joins (λ g. g.type) globals_of_section m n);
  tags = space_joins tag_import (flat_map tags_of_section) m n (defined_joins tags_of_section m n);
}

kind_joins : {A : Type 0} (kind : TypeRef → Option A) (xs ys : List plain.Import)
    → length (imported_of kind (Imports (xs ++ ys) ∷ []) ++ []) ≡ length (imported_of kind (Imports xs ∷ []) ++ [])
    + length (imported_of kind (Imports ys ∷ []) ++ [])
kind_joins kind xs ys = simp (append-nil, filter_map-append, length-append)

-- one section of imports
pub imports_join : (xs ys : List plain.Import) → Joins (Imports (xs ++ ys) ∷ []) (Imports xs ∷ []) (Imports ys ∷ [])
imports_join xs ys = record {
  types = refl;
  functions = kind_joins function_import xs ys;
  tables = kind_joins table_import xs ys;
  memories = kind_joins memory_import xs ys;
  globals = kind_joins global_import xs ys;
  tags = kind_joins tag_import xs ys;
}

-- one section of types
pub groups_join : (gs hs : List (Group UnpackedIndex UnpackedIndex)) → Joins (Types (gs ++ hs) ∷ []) (Types gs ∷ []) (Types hs ∷ [])
groups_join gs hs = record {
  types = simp (append-nil, flat_map-append, length-append);
  functions = refl;
  tables = refl;
  memories = refl;
  globals = refl;
  tags = refl;
}

-- ---- counting of one after another

CountsMore-both : (a b c : Counts) (whole one other : Module) → Joins whole one other → CountsMore a b one → CountsMore b c other
    → CountsMore a c whole
CountsMore-both a b c whole one other j ab bc = record {
  types = omega (arith, j.types, ab.types, bc.types);
  functions = omega (arith, j.functions, ab.functions, bc.functions);
  tables = omega (arith, j.tables, ab.tables, bc.tables);
  memories = omega (arith, j.memories, ab.memories, bc.memories);
  globals = omega (arith, j.globals, ab.globals, bc.globals);
  tags = omega (arith, j.tags, ab.tags, bc.tags);
}

-- the sizes fit in 32 bits with the second of three parts
SizesFit-next : (a b : Counts) (whole one rest other last : Module) → Joins whole one rest → Joins rest other last → SizesFit a whole
    → CountsMore a b one → SizesFit b other
SizesFit-next a b whole one rest other last j k room ab = record {
  types = omega (arith, j.types, k.types, ab.types, room.types);
  functions = omega (arith, j.functions, k.functions, ab.functions, room.functions);
  tables = omega (arith, j.tables, k.tables, ab.tables, room.tables);
  memories = omega (arith, j.memories, k.memories, ab.memories, room.memories);
  globals = omega (arith, j.globals, k.globals, ab.globals, room.globals);
  tags = omega (arith, j.tags, k.tags, ab.tags, room.tags);
}

-- items that are counted one at a time, each made of a value that is held
module _ {X Y : Type 0} (item_of : X → Y) (made : List Y → Module) (join : (xs ys : List Y) → Joins (made (xs ++ ys)) (made xs) (made ys)) where
  pub CountsMore-next : (a b c : Counts) (xs : List X) (k : ℕ) (x : X) → k < length xs → x ≡ get_or xs k x
      → CountsMore a b (made (map item_of (take k xs))) → CountsMore b c (made (item_of x ∷ []))
      → CountsMore a c (made (map item_of (take (k + 1) xs)))
  CountsMore-next a b c xs k x lt is ab bc =
      let more = map_more item_of xs k x lt ∙ ap (λ (y : X). map item_of (take k xs) ++ item_of y ∷ []) (sym is) in
      subst (λ (ys : List Y). CountsMore a c (made ys)) (sym more)
      (CountsMore-both a b c _ _ _ (join (map item_of (take k xs)) (item_of x ∷ [])) ab bc)

  pub SizesFit-item : (a b : Counts) (xs : List X) (k : ℕ) (x : X) → k < length xs → x ≡ get_or xs k x → SizesFit a (made (map item_of xs))
      → CountsMore a b (made (map item_of (take k xs))) → SizesFit b (made (item_of x ∷ []))
  SizesFit-item a b xs k x lt is room ab =
      let front = map item_of (take k xs) in
      let back = map item_of (drop (suc k) xs) in
      let parts : map item_of xs ≡ front ++ ((item_of x ∷ []) ++ back) =
      ap (map item_of) (sym (take-append-drop k xs)
      ∙ ap (λ (ys : List X). take k xs ++ ys) (drop-cons xs k x lt ∙ ap (λ (y : X). y ∷ drop (suc k) xs) (sym is)))
      ∙ map-append item_of (take k xs) (x ∷ drop (suc k) xs) in
      SizesFit-next a b _ _ _ _ _ (join front ((item_of x ∷ []) ++ back)) (join (item_of x ∷ []) back)
      (subst (λ (ys : List Y). SizesFit a (made ys)) parts room) ab

-- ---- counting of a complete module

abbrev pub no_entries : Counts
no_entries = counts_of []

pub SizesFit-few : (m : Module) → HasFewEntries m → SizesFit no_entries m
SizesFit-few m few = record {
  types = omega (arith, few.types);
  functions = omega (arith, few.functions);
  tables = omega (arith, few.tables);
  memories = omega (arith, few.memories);
  globals = omega (arith, few.globals);
  tags = omega (arith, few.tags);
}

abbrev counts : ℕ → ℕ → ℕ → ℕ → ℕ → ℕ → Counts
counts a b c d e f = record { types = a; functions = b; tables = c; memories = d; globals = e; tags = f }

-- counts that begin at zero are the sizes of the complete module
pub counted : (all : Counts) (m : Module) → CountsMore no_entries all m → all ≡ counts_of m
counted all m more =
    let whole = counts_of m in
    ap (λ (n : ℕ). counts n all.functions all.tables all.memories all.globals all.tags)
    (let e : all.types ≡ whole.types = omega (arith, more.types) in e)
    ∙ ap (λ (n : ℕ). counts whole.types n all.tables all.memories all.globals all.tags)
    (let e : all.functions ≡ whole.functions = omega (arith, more.functions) in e)
    ∙ ap (λ (n : ℕ). counts whole.types whole.functions n all.memories all.globals all.tags)
    (let e : all.tables ≡ whole.tables = omega (arith, more.tables) in e)
    ∙ ap (λ (n : ℕ). counts whole.types whole.functions whole.tables n all.globals all.tags)
    (let e : all.memories ≡ whole.memories = omega (arith, more.memories) in e)
    ∙ ap (λ (n : ℕ). counts whole.types whole.functions whole.tables whole.memories n all.tags)
    (let e : all.globals ≡ whole.globals = omega (arith, more.globals) in e)
    ∙ ap (λ (n : ℕ). counts whole.types whole.functions whole.tables whole.memories whole.globals n)
    (let e : all.tags ≡ whole.tags = omega (arith, more.tags) in e)
