-- The names of a plan have no more bytes than those of imports and exports, and the custom sections.
use Rattle.std.proofs.Common.{◌≡◌, ◌∙◌, ◌≤◌, ◌+◌, ℕ, List, [], ◌∷◌, ◌++◌, length, map, reverse, Option, Some, None, sum_by, refl, sym, ap, arith}
use Rattle.std.specs.List.{flat_map}
use Rattle.std.specs.Option.{option_map}
use Rattle.std.proofs.lemmas.List.Sorted.{sum_by-IsPermutation, IsPermutation-reverse}
use Rattle.std.proofs.lemmas.List.Sums.{sum_by-cons}
use Rattle.entity_map.specs.declared.pool.Atom.{Atom}
use Rattle.wasm_spec.specs.Module as plain
use Rattle.wasm_spec.specs.Module.{Import, Export}
use Rattle.wasm_index.specs.declared.index.Index.{Index}
use Rattle.wasm_index.specs.declared.spaces.FuncSpace.{FuncSpace}
use Rattle.wasm_index.specs.Index.{number_of}
use Rattle.wasm_types.specs.declared.entity.EntityIndex.{EntityIndex}
use Rattle.wasm_module.specs.declared.initializer.Initializer.{Initializer}
use Rattle.wasm_module.specs.declared.initializer.Initializer.TheVariants as initializer
use Rattle.module_customs.specs.Names.{Text, named, module_names, HasLast, at_number}
use Rattle.init_plan.specs.declared.translation.ModuleTranslation.{ModuleTranslation}
use Rattle.module_sections.specs.Entities.{NamedEntity, brought, imports_after, exported_entities, text_at, resolved_import, resolved_export}
use Rattle.translate.specs.Initialised.{IsInitialised}
use Rattle.translate.specs.Options.{InitOptions}
use Rattle.plan_laws.specs.Kept.{Rises}
use Rattle.plan_laws.specs.TextCosts.{name_bytes, import_bytes, module_name_bytes}
use Rattle.plan_laws.proofs.CustomNames.{module-names-few}
use Rattle.plan_laws.proofs.FoundBytes.{found-few}
use Rattle.plan_laws.proofs.Globals.{found-at}
use Rattle.plan_laws.proofs.ModuleContents.{import_name_bytes, export_name_bytes, custom_bytes}
use Rattle.plan_laws.proofs.NameBytes.{entry_bytes, title_bytes}
use Rattle.plan_laws.proofs.Rest.{HasRest, has-rest}
use Rattle.plan_laws.proofs.SumLaws.{sum-mapped}

-- ---- imports and exports

abbrev entity_bytes : NamedEntity → ℕ
entity_bytes x = length x.0 + length x.1

import-same : (pool : List (List ℕ)) (x : Initializer) → import_bytes pool x ≡ entity_bytes (resolved_import pool x)
import-same pool (initializer.Import name field e) = refl

imports-same : (before is : List Import) → sum_by entity_bytes (imports_after before is) ≡ sum_by import_name_bytes is
imports-same before [] = refl
imports-same before (i ∷ is) = omega (
  arith,
  imports-same (before ++ i ∷ []) is,
  sum_by-cons import_name_bytes i is,
  sum_by-cons entity_bytes (i.space, i.name, brought before i.type) (imports_after (before ++ i ∷ []) is),
)

abbrev Exported : Type 0
Exported = List ℕ × EntityIndex

exports-same : (es : List Export) → sum_by export_name_bytes es ≡ sum_by (λ (x : Exported). length x.0) (exported_entities es)
exports-same es = sum-mapped _ (λ (x : Exported). length x.0) export_name_bytes (λ e. refl) es

-- ---- names of a module and of its functions

title-same : (pool : List (List ℕ)) (o : Option Atom) → module_name_bytes pool o ≡ title_bytes (option_map (text_at pool) o)
title-same pool None = refl
title-same pool (Some name) = refl

abbrev Name : Type 0
Name = Index FuncSpace × Text

abbrev text_bytes : Name → ℕ
text_bytes name = length name.1.now

entries-same : (es : List Name) → sum_by entry_bytes (map named es) ≡ length es + sum_by text_bytes es
entries-same [] = refl
entries-same (e ∷ es) = omega (arith, entries-same es, sum_by-cons entry_bytes (named e) (map named es), sum_by-cons text_bytes e es)

module _ (t : ModuleTranslation) where
  abbrev entries : List Name
  entries = t.debuginfo.name_section.func_names.entries

  kept-few : (names : List (ℕ × List ℕ)) → HasLast names (at_number number_of t.debuginfo.name_section.func_names) → Rises (map named entries)
      → length entries + sum_by text_bytes entries ≤ sum_by entry_bytes names
  kept-few names last rises = omega (
    arith,
    entries-same entries,
    found-few (map named entries) (reverse names) rises (λ n v is. sym (last n) ∙ sym (found-at number_of (λ text. text.now) n entries) ∙ is),
    sum_by-IsPermutation entry_bytes names (reverse names) (IsPermutation-reverse names),
  )

-- ---- a planned translation

module _ (i : InitOptions) (bytes : List ℕ) (m : plain.Module) (t : ModuleTranslation) (is : IsInitialised i bytes m t) where
  rest : HasRest i bytes m t
  rest = has-rest i bytes m t is

  abbrev Named : Type 0
  Named = Atom × EntityIndex

  imports : sum_by (import_bytes t.module.strings) t.module.initializers.items ≡ sum_by import_name_bytes (plain.imports m)
  imports =
      sum-mapped (resolved_import t.module.strings) entity_bytes (import_bytes t.module.strings) (import-same t.module.strings) t.module.initializers.items
      ∙ ap (sum_by entity_bytes) rest.entities.imports ∙ imports-same [] (plain.imports m)

  exports : sum_by (λ (e : Named). name_bytes t.module.strings e.0) t.module.exports.entries ≡ sum_by export_name_bytes (flat_map plain.exports_of_section m)
  exports =
      sum-mapped (resolved_export t.module.strings) (λ (x : Exported). length x.0) (λ (e : Named). name_bytes t.module.strings e.0) (λ e. refl) t.module.exports.entries
      ∙ ap (sum_by (λ (x : Exported). length x.0)) rest.entities.exports ∙ sym (exports-same (flat_map plain.exports_of_section m))

  title : module_name_bytes t.module.strings t.module.name ≡ title_bytes (module_names i.tunables.debug_native m).module_name
  title = title-same t.module.strings t.module.name ∙ ap title_bytes rest.customs.names.of_module

  -- each name of a function has a byte in addition to its text
  pub names-few : Rises (map named (entries t))
      → sum_by (import_bytes t.module.strings) t.module.initializers.items
      + sum_by (λ (e : Named). name_bytes t.module.strings e.0) t.module.exports.entries + module_name_bytes t.module.strings t.module.name
      + (length (entries t) + sum_by text_bytes (entries t))
      ≤ sum_by import_name_bytes (plain.imports m) + sum_by export_name_bytes (flat_map plain.exports_of_section m) + sum_by custom_bytes m
  names-few rises = omega (
    arith,
    imports,
    exports,
    title,
    kept-few t (module_names i.tunables.debug_native m).functions rest.customs.names.section.functions rises,
    module-names-few i.tunables.debug_native m,
  )
