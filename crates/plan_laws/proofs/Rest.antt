-- What the plans of memories and tables leave of a translation is what the translation of the module has.
use Rattle.std.proofs.Common.{◌≡◌, ℕ, List, map, None, sym, subst}
use Rattle.std.specs.Prelude.{slice_get, unwrap_or}
use Rattle.std.specs.Option.{option_map}
use Rattle.entity_map.specs.Secondary.{value_at}
use Rattle.wasm_spec.specs.Module as plain
use Rattle.rule_spec.specs.Lists.{lists_of_module}
use Rattle.wasm_index.specs.Index.{number_of, index_of}
use Rattle.wasm_module.specs.Elements.{element_type, element_count}
use Rattle.init_plan.specs.declared.translation.ModuleTranslation.{ModuleTranslation}
use Rattle.init_plan.specs.Views.{passive_data_of}
use Rattle.module_environ.specs.Customs.{HasCustoms}
use Rattle.module_sections.specs.Initialisers.{passive_items, view_items, passive_numbers, passive_data_from}
use Rattle.module_environ.specs.Pooled.{pool_of}
use Rattle.module_environ.specs.Translation.{HasCode, HasTypes}
use Rattle.module_sections.specs.Sections.{HasEntities, CountsImports, Escapes, NeedsHeap, HasGlobals}
use Rattle.interned_types.specs.Types.{look_up_in}
use Rattle.translate.specs.Options.{InitOptions}
use Rattle.translate.specs.Initialised.{IsInitialised}

pub record HasRest (i : InitOptions) (bytes : List ℕ) (m : plain.Module) (t : ModuleTranslation) : Type 0 where
  pub types : HasTypes m 0 t
  pub entities : HasEntities m t
  pub counts : CountsImports m t.module
  pub escapes : Escapes i.tunables.debug_guest m t
  pub heap : NeedsHeap t.module
  pub globals : HasGlobals m t
  pub passive : map view_items t.passive_elements ≡ passive_items (look_up_in m) (lists_of_module m).elements
  pub kinds : t.module.passive_elements ≡ map (λ items. (element_type items, element_count items)) t.passive_elements
  pub numbers : (index : ℕ) → option_map number_of (value_at t.passive_elem_map index)
      ≡ unwrap_or (slice_get (passive_numbers 0 (lists_of_module m).elements) index) None
  pub data_segments : passive_data_of t ≡ passive_data_from 0 (plain.segments m)
  pub customs : HasCustoms i.tunables m t
  pub strings : t.module.strings ≡ pool_of i.tunables.debug_native m
  pub code : HasCode m t
  pub index : t.module.module_index ≡ index_of 0
  pub wasm : t.wasm.now ≡ bytes
  pub offset : t.wasm_module_offset ≡ 0

pub has-rest : (i : InitOptions) (bytes : List ℕ) (m : plain.Module) (t : ModuleTranslation) → IsInitialised i bytes m t → HasRest i bytes m t
has-rest i bytes m t is =
    let tr = is.rest.translation in
    subst (HasRest i bytes m) (sym is.rest.same) (record {
      types = tr.types;
      entities = tr.sections.entities;
      counts = tr.sections.counts;
      escapes = tr.sections.escapes;
      heap = tr.sections.heap;
      globals = tr.sections.globals;
      passive = tr.sections.elements.passive;
      kinds = tr.sections.elements.kinds;
      numbers = tr.sections.elements.numbers;
      data_segments = tr.sections.data_segments.passive;
      customs = tr.customs;
      strings = tr.strings;
      code = tr.code;
      index = tr.index;
      wasm = tr.wasm;
      offset = tr.offset;
    })
