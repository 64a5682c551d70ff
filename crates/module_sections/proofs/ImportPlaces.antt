-- Each imported entity has a position among the imports.
use Rattle.std.proofs.Common.{◌≡◌, ◌<◌, ℕ, ◌+◌, zero, suc, List, [], ◌∷◌, ◌++◌, length, slice_get, Option, None, Some, is_some, IsSome, refl, sym, ap, ◌∙◌, zero-add, arith}
use Rattle.std.specs.List.{filter_map, cons_option}
use Rattle.std.specs.Option.{option_map}
use Rattle.std.proofs.lemmas.Option.{slice_get-map}
use Rattle.wasm_spec.specs.declared.entities.TypeRef.{TypeRef}
use Rattle.wasm_spec.specs.declared.entities.TypeRef.TheVariants as imported
use Rattle.wasm_spec.specs.Module.{Import, function_import, table_import, memory_import, global_import, tag_import}
use Rattle.wasm_spec.specs.Module as plain
use Rattle.wasm_index.specs.Index.{number_of, index_of}
use Rattle.wasm_types.specs.declared.entity.EntityIndex.{EntityIndex}
use Rattle.wasm_types.specs.declared.entity.EntityIndex.TheVariants as entity
use Rattle.wasm_module.specs.declared.initializer.Initializer.{Initializer}
use Rattle.wasm_module.specs.declared.initializer.Initializer.TheVariants as initializer
use Rattle.wasm_module.specs.Entities.{IsImported}
use Rattle.wasm_module.specs.Imports.{imported_entity, entity_at, IsFirstImport}
use Rattle.wasm_module.specs.Record.{record_of}
use Rattle.init_plan.specs.declared.translation.ModuleTranslation.{ModuleTranslation}
use Rattle.module_sections.specs.Entities.{NamedEntity, count_of, brought, imports_after, resolved_import}
use Rattle.module_sections.specs.Sections.{HasEntities, CountsImports}
use Rattle.module_sections.proofs.ImportsInTurn.{count_of-push}

-- the entity at a position among those that are imported
abbrev pub named_at : List NamedEntity → ℕ → Option EntityIndex
named_at es place = option_map (λ (x : NamedEntity). x.2) (slice_get es place)

-- an import of a kind brings the next entity of this kind
abbrev Makes : {A : Type 0} → (TypeRef → Option A) → (ℕ → EntityIndex) → Type 0
Makes kind make = (before : List Import) (type : TypeRef) → IsSome (kind type) → brought before type ≡ make (count_of kind before)

module _ {A : Type 0} (kind : TypeRef → Option A) (make : ℕ → EntityIndex) (makes : Makes kind make) where
  pub brought-at : (before is : List Import) (n : ℕ) → n < count_of kind is
      → (place : ℕ) × (named_at (imports_after before is) place ≡ Some (make (count_of kind before + n)))
  brought-at before [] n lt = absurd (omega arith)
  brought-at before (i ∷ is) n lt =
      by (kind i.type) refl n lt (λ m below. brought-at (before ++ i ∷ []) is m below) where
        rest : List A
        rest = filter_map (λ (j : Import). kind j.type) is

        by : (o : Option A) → kind i.type ≡ o → (m : ℕ) → m < length (cons_option o rest)
            → ((k : ℕ) → k < length rest
            → (place : ℕ) × (named_at (imports_after (before ++ i ∷ []) is) place ≡ Some (make (count_of kind (before ++ i ∷ []) + k))))
            → (place : ℕ) × (named_at (imports_after before (i ∷ is)) place ≡ Some (make (count_of kind before + m)))
        by None none m below others =
            let found = others m below in (suc found.0, grind (arith, found.1, count_of-push kind before i, none))
        by (Some x) is_one zero below others = (zero, grind (arith, makes before i.type (ap is_some is_one)))
        by (Some x) is_one (suc m) below others =
            let found = others m (omega (arith, below)) in (suc found.0, grind (arith, found.1, count_of-push kind before i, is_one))

  pub placed : (is : List Import) (n : ℕ) → n < count_of kind is → (place : ℕ) × (named_at (imports_after [] is) place ≡ Some (make n))
  placed is n lt = let found = brought-at [] is n lt in (found.0, found.1 ∙ ap (λ (k : ℕ). Some (make k)) (zero-add n))

-- ---- of each kind

functions_make : Makes function_import (λ n. entity.Function (index_of n))
functions_make before (imported.Func t) some = refl
functions_make before _ some = absurd (cc)

tables_make : Makes table_import (λ n. entity.Table (index_of n))
tables_make before (imported.Table t) some = refl
tables_make before _ some = absurd (cc)

memories_make : Makes memory_import (λ n. entity.Memory (index_of n))
memories_make before (imported.Memory t) some = refl
memories_make before _ some = absurd (cc)

globals_make : Makes global_import (λ n. entity.Global (index_of n))
globals_make before (imported.Global t) some = refl
globals_make before _ some = absurd (cc)

tags_make : Makes tag_import (λ n. entity.Tag (index_of n))
tags_make before (imported.Tag t) some = refl
tags_make before _ some = absurd (cc)

-- its number is below how many of its kind are imported
abbrev pub IsAmong : List Import → EntityIndex → Type 0
IsAmong is (entity.Function i) = number_of i < count_of function_import is
IsAmong is (entity.Table i) = number_of i < count_of table_import is
IsAmong is (entity.Memory i) = number_of i < count_of memory_import is
IsAmong is (entity.Global i) = number_of i < count_of global_import is
IsAmong is (entity.Tag i) = number_of i < count_of tag_import is

pub place-of : (is : List Import) (e : EntityIndex) → IsAmong is e → (place : ℕ) × (named_at (imports_after [] is) place ≡ Some e)
place-of is (entity.Function i) lt = placed function_import (λ n. entity.Function (index_of n)) functions_make is (number_of i) lt
place-of is (entity.Table i) lt = placed table_import (λ n. entity.Table (index_of n)) tables_make is (number_of i) lt
place-of is (entity.Memory i) lt = placed memory_import (λ n. entity.Memory (index_of n)) memories_make is (number_of i) lt
place-of is (entity.Global i) lt = placed global_import (λ n. entity.Global (index_of n)) globals_make is (number_of i) lt
place-of is (entity.Tag i) lt = placed tag_import (λ n. entity.Tag (index_of n)) tags_make is (number_of i) lt

-- ---- in a record

-- what is resolved is the entity
resolved_entity : (texts : List (List ℕ)) (o : Option Initializer)
    → option_map (λ (x : NamedEntity). x.2) (option_map (resolved_import texts) o) ≡ option_map imported_entity o
resolved_entity texts None = refl
resolved_entity texts (Some (initializer.Import name field index)) = refl

among : (m : plain.Module) (t : ModuleTranslation) → CountsImports m t.module → (e : EntityIndex) → IsImported (record_of t.module) e
    → IsAmong (plain.imports m) e
among m t counts (entity.Function i) lt = omega (arith, lt, counts.functions)
among m t counts (entity.Table i) lt = omega (arith, lt, counts.tables)
among m t counts (entity.Memory i) lt = omega (arith, lt, counts.memories)
among m t counts (entity.Global i) lt = omega (arith, lt, counts.globals)
among m t counts (entity.Tag i) lt = omega (arith, lt, counts.tags)

-- an imported entity is the one that some import brings
import-of : (m : plain.Module) (t : ModuleTranslation) (e : EntityIndex) → HasEntities m t → CountsImports m t.module → IsImported (record_of t.module) e
    → (place : ℕ) × (entity_at (record_of t.module) place ≡ Some e)
import-of m t e has counts lt =
    let is = t.module.initializers.items in
    let found = place-of (plain.imports m) e (among m t counts e lt) in (
      found.0,
      sym (resolved_entity t.module.strings (slice_get is found.0))
          ∙ ap (option_map (λ (x : NamedEntity). x.2)) (sym (slice_get-map (resolved_import t.module.strings) is found.0))
          ∙ ap (λ (es : List NamedEntity). named_at es found.0) has.imports ∙ found.1,
    )

pub import-place : (m : plain.Module) (t : ModuleTranslation) (e : EntityIndex) (answer : Option ℕ) → HasEntities m t → CountsImports m t.module
    → IsImported (record_of t.module) e → IsFirstImport (record_of t.module) e answer
    → (place : ℕ) × (answer ≡ Some place) × (entity_at (record_of t.module) place ≡ Some e)
import-place m t e None has counts lt first = let found = import-of m t e has counts lt in absurd (first lt found.0 found.1)
import-place m t e (Some place) has counts lt first = (place, refl, first.1)
