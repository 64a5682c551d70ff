-- Imports, counted and given their entities one after another.
use Rattle.std.proofs.Common.{◌≡◌, ◌≤◌, ◌<◌, ◌^◌, ℕ, ◌+◌, List, [], ◌∷◌, ◌++◌, length, get_or, Option, sym, ap, subst, ◌∙◌, append_assoc, arith}
use Rattle.std.specs.List.{filter_map, flat_map}
use Rattle.std.proofs.lemmas.List.{append-nil, length-append, map_push}
use Rattle.std.proofs.lemmas.List.Concat.{flat_map-append}
use Rattle.std.proofs.lemmas.List.Elements.{All-push, filter_map-append}
use Rattle.wasm_spec.specs.declared.entities.TypeRef.{TypeRef}
use Rattle.wasm_spec.specs.declared.entities.TypeRef.TheVariants as imported
use Rattle.wasm_spec.specs.Module.{Import, function_import, table_import, memory_import, global_import, tag_import}
use Rattle.wasm_index.specs.Index.{index_of}
use Rattle.wasm_types.specs.declared.entity.EntityIndex.{EntityIndex}
use Rattle.wasm_types.specs.declared.entity.EntityIndex.TheVariants as entity
use Rattle.wasm_module.specs.declared.initializer.Initializer.{Initializer}
use Rattle.module_sections.specs.declared.imports.ImportCounts.{ImportCounts}
use Rattle.module_sections.specs.Entities.{NamedEntity, count_of, brought, imports_after, resolved_import}
use Rattle.module_sections.specs.Imported.{AreCounted, HaveIndices, BecomeInitializers, one_if, counted, next_entity}
use Rattle.form_rules.specs.Names.{import_names}
use Rattle.module_sections.specs.Pooled.{with_texts, HasTexts}
use Rattle.module_sections.proofs.Filling.{length-filter_map}
use Rattle.module_sections.proofs.GrownPool.{GrowsBy, grows-within, texts-then, imports-pooled, names-grown, imports-grown}

-- ---- counts

pub count_of-push : {A : Type 0} (kind : TypeRef → Option A) (is : List Import) (i : Import)
    → count_of kind (is ++ i ∷ []) ≡ count_of kind is + one_if (kind i.type)
count_of-push kind is i =
    grind (arith, filter_map-append (λ (j : Import). kind j.type) is (i ∷ []), length-append {A = _} (filter_map (λ (j : Import). kind j.type) is))

count_of-le : {A : Type 0} (kind : TypeRef → Option A) (is : List Import) → count_of kind is ≤ length is
count_of-le kind is = length-filter_map (λ (i : Import). kind i.type) is

pub counted-push : (is : List Import) (i : Import) (c : ImportCounts) → AreCounted is c → AreCounted (is ++ i ∷ []) (counted c i.type)
counted-push is i c h = record {
  functions = ap (λ (n : ℕ). n + one_if (function_import i.type)) h.functions ∙ sym (count_of-push function_import is i);
  tables = ap (λ (n : ℕ). n + one_if (table_import i.type)) h.tables ∙ sym (count_of-push table_import is i);
  memories = ap (λ (n : ℕ). n + one_if (memory_import i.type)) h.memories ∙ sym (count_of-push memory_import is i);
  globals = ap (λ (n : ℕ). n + one_if (global_import i.type)) h.globals ∙ sym (count_of-push global_import is i);
  tags = ap (λ (n : ℕ). n + one_if (tag_import i.type)) h.tags ∙ sym (count_of-push tag_import is i);
}

-- the counts of few imports are numbers of indices
pub counted-few : (is : List Import) (c : ImportCounts) → AreCounted is c → length is < 2 ^ 30 → HaveIndices c
counted-few is c h few = record {
  functions = omega (arith, few, h.functions, count_of-le function_import is);
  tables = omega (arith, few, h.tables, count_of-le table_import is);
  memories = omega (arith, few, h.memories, count_of-le memory_import is);
  globals = omega (arith, few, h.globals, count_of-le global_import is);
  tags = omega (arith, few, h.tags, count_of-le tag_import is);
}

-- ---- entities

pub next-brought : (is : List Import) (c : ImportCounts) → AreCounted is c → (type : TypeRef) → next_entity c type ≡ brought is type
next-brought is c h (imported.Func type) = ap (λ (n : ℕ). entity.Function (index_of n)) h.functions
next-brought is c h (imported.Table type) = ap (λ (n : ℕ). entity.Table (index_of n)) h.tables
next-brought is c h (imported.Memory type) = ap (λ (n : ℕ). entity.Memory (index_of n)) h.memories
next-brought is c h (imported.Global type) = ap (λ (n : ℕ). entity.Global (index_of n)) h.globals
next-brought is c h (imported.Tag type) = ap (λ (n : ℕ). entity.Tag (index_of n)) h.tags

pub imports_after-push : (before is : List Import) (i : Import)
    → imports_after before (is ++ i ∷ []) ≡ imports_after before is ++ (i.space, i.name, brought (before ++ is) i.type) ∷ []
imports_after-push before [] i =
    ap (λ (bs : List Import). (let one : NamedEntity = (i.space, i.name, brought bs i.type) in one) ∷ []) (sym (append-nil before))
imports_after-push before (j ∷ is) i =
    ap (λ (es : List NamedEntity). (j.space, j.name, brought before j.type) ∷ es) (imports_after-push (before ++ j ∷ []) is i
    ∙ ap (λ (bs : List Import). imports_after (before ++ j ∷ []) is ++ (i.space, i.name, brought bs i.type) ∷ []) (append_assoc before (j ∷ []) is))

-- ---- as they are converted

pub imported-push : (was : List (List ℕ)) (is : List Import) (i : Import) (old new : List (List ℕ)) (before : List Initializer) (one : Initializer) (c : ImportCounts)
    → new ≡ with_texts old (import_names i) → HasTexts new one → resolved_import new one ≡ (i.space, i.name, next_entity c i.type)
    → BecomeInitializers was is old before c → BecomeInitializers was (is ++ i ∷ []) new (before ++ one ∷ []) (counted c i.type)
imported-push was is i old new before one c put pooled resolved h =
    let grows : GrowsBy 2 old new = grows-within 2 (import_names i) old new put (omega arith) in
    record {
      entities = map_push (resolved_import new) before one
          ∙ ap (λ (es : List NamedEntity). es ++ resolved_import new one ∷ []) (imports-grown 2 old new grows before h.pooled ∙ h.entities)
          ∙ ap (λ (e : NamedEntity). imports_after [] is ++ e ∷ []) (resolved
          ∙ ap (λ (x : EntityIndex). (let named : NamedEntity = (i.space, i.name, x) in named)) (next-brought is c h.counted i.type))
          ∙ sym (imports_after-push [] is i);
      pooled = All-push (HasTexts new) before one (λ k d lt. names-grown 2 old new grows (get_or before k d) (h.pooled k d lt)) pooled;
      counted = counted-push is i c h.counted;
      pool = texts-then was old new (flat_map import_names is) (import_names i) (flat_map import_names (is ++ i ∷ []))
          (flat_map-append import_names is (i ∷ [])) h.pool put;
    }

-- one import more, converted
pub imported-step : (was : List (List ℕ)) (is : List Import) (i : Import) (old new : List (List ℕ)) (now after : List Initializer) (one : Initializer) (c d : ImportCounts)
    → d ≡ counted c i.type → new ≡ with_texts old (import_names i) → HasTexts new one → resolved_import new one ≡ (i.space, i.name, next_entity c i.type)
    → after ≡ now ++ one ∷ [] → BecomeInitializers was is old now c → BecomeInitializers was (is ++ i ∷ []) new after d
imported-step was is i old new now after one c d counts put pooled resolved pushed h =
    subst (λ (x : ImportCounts). BecomeInitializers was (is ++ i ∷ []) new after x) (sym counts)
    (subst (λ (xs : List Initializer). BecomeInitializers was (is ++ i ∷ []) new xs (counted c i.type)) (sym pushed)
    (imported-push was is i old new now one c put pooled resolved h))

-- there is capacity for the names of few imports
pub room-for-imports : (was : List (List ℕ)) (is : List Import) (texts : List (List ℕ)) (before : List Initializer) (c : ImportCounts)
    → BecomeInitializers was is texts before c → length was < 2 ^ 30 → length is < 2 ^ 30 → length texts < 4294967293
room-for-imports was is texts before c h short few = omega (arith, short, few, imports-pooled was is texts h.pool)
