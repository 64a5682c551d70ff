-- Why bytes have no translation, by the result of each step, and the translation of what was read.
use Rattle.std.proofs.Common.{◌≡◌, ◌∙◌, ◌+◌, ◌≤◌, ◌^◌, ℕ, Bool, inl, inr, List, length, map, Result, Ok, Err, sym, ap, subst, arith}
use Rattle.std.specs.Prelude.{◌↔◌}
use Rattle.std.specs.List.{flat_map}
use Rattle.std.proofs.lemmas.Bool.{cases_lt}
use Rattle.std.proofs.lemmas.List.{length-map, length-append}
use Rattle.wasm_spec.specs.declared.operators.What.{What}
use Rattle.wasm_spec.specs.Module as plain
use Rattle.wasm_spec.specs.Module.{GlobalDef, Module, bodies_of_section, HasFewEntries}
use Rattle.wasm_spec.specs.Grammar.{Spells, Stops}
use Rattle.wasm_spec.specs.Interfaces.{HasNoInterfaceTypes}
use Rattle.rule_spec.specs.Lists.{lists_of_module}
use Rattle.rule_spec.specs.Rules.{Keeps}
use Rattle.form_reader.specs.declared.input.InputForm.{InputForm}
use Rattle.form_reader.specs.Views.{body_of}
use Rattle.form_reader.specs.Input.{input_module_of}
use Rattle.form_reader.specs.declared.error.ReadError.{ReadError}
use Rattle.form_reader.specs.declared.error.ReadError.TheVariants as read
use Rattle.form_reader.specs.Outcomes.{ReadsInputAs}
use Rattle.wasm_index.specs.declared.index.Index.{Index}
use Rattle.wasm_index.specs.declared.spaces.StaticModuleSpace.{StaticModuleSpace}
use Rattle.wasm_types.specs.declared.tunables.Tunables.{Tunables}
use Rattle.wasm_types.specs.EntityViews.{global_of}
use Rattle.module_types.specs.Builder.{BuilderState}
use Rattle.init_plan.specs.declared.translation.ModuleTranslation.{ModuleTranslation}
use Rattle.init_plan.specs.Views.{IsNewTranslation}
use Rattle.module_environ.specs.declared.error.EnvironError.{EnvironError}
use Rattle.module_environ.specs.declared.error.EnvironError.TheVariants as refusal
use Rattle.module_environ.specs.Errors.{error_of_read}
use Rattle.module_environ.specs.Readable.{IsReadable, HasTranslationCause}
use Rattle.module_environ.specs.Translation.{code_places, first_or_zero}
use Rattle.module_sections.specs.Sections.{HasEntities, CountsImports, HasSections}
use Rattle.module_environ.specs.Translated.{IsReady, IsTranslated}
use Rattle.module_environ.specs.Forming.{IsFormed, FormCause}
use Rattle.module_environ.proofs.HoldsLists.{holds_memories, holds_tables, holds_globals}
use Rattle.module_environ.proofs.MemoriesReady.{memories-ready}
use Rattle.module_environ.proofs.TablesReady.{tables-ready}

-- ---- why there is none

pub read_cause : {A : Type 0} (bytes : List ℕ) (poisoned : Bool) (r : Result A ReadError) (e : ReadError)
    → ((r ≡ Err read.TooLarge) ↔ (2 ^ 30 ≤ length bytes))
    → ((what : What) → r ≡ Err (read.Unsupported what) → Stops bytes what)
    → (r ≡ Err read.Malformed → (m : Module) → ¬ Spells bytes m)
    → (r ≡ Err read.Malformed → (what : What) → ¬ Stops bytes what) → r ≡ Err e → HasTranslationCause bytes poisoned (error_of_read e)
read_cause bytes poisoned r read.Malformed too_large unsupported malformed stops_nowhere is = (malformed is, stops_nowhere is)
read_cause bytes poisoned r (read.Unsupported what) too_large unsupported malformed stops_nowhere is = unsupported what is
read_cause bytes poisoned r read.TooLarge too_large unsupported malformed stops_nowhere is = too_large.0 is
read_cause bytes poisoned r read.OutOfMemory too_large unsupported malformed stops_nowhere is = tt

-- input that can be read is refused only where memory runs out
pub read_complete : (r : Result InputForm ReadError) (e : ReadError) (m : Module) → ReadsInputAs r m → r ≡ Err e → error_of_read e ≡ refusal.OutOfMemory
read_complete r e m reads is = ap error_of_read (subst (λ (q : Result InputForm ReadError). ReadsInputAs q m) is reads)

-- what was read can be read: it is not long
pub was_readable : (bytes : List ℕ) (form : InputForm)
    → ((let r : Result InputForm ReadError = Ok form in r ≡ Err read.TooLarge) ↔ (2 ^ 30 ≤ length bytes)) → Spells bytes (input_module_of form) → HasNoInterfaceTypes (input_module_of form) → IsReadable bytes (input_module_of form)
was_readable bytes form too_large spelled no_interface_types = record {
  short = elim (cases_lt (length bytes) (2 ^ 30)) [ inl lt ↦ lt | inr long ↦ absurd (let no = too_large.1 long in cc) ];
  spelled = spelled;
  no_interface_types = no_interface_types;
}

-- why the form becomes none is why the bytes have none
pub form_cause : (bytes : List ℕ) (m : Module) (poisoned : Bool) (e : EnvironError) → IsReadable bytes m → FormCause m poisoned e
    → HasTranslationCause bytes poisoned e
form_cause bytes m poisoned (refusal.Invalid rule) readable cause =
    record { meaning = m; read = readable; broken = cause.0; first = cause.1 }
form_cause bytes m poisoned refusal.Poisoned readable cause = cause
form_cause bytes m poisoned refusal.OutOfMemory readable cause = tt
form_cause bytes m poisoned _ readable cause = absurd cause

-- ---- the translation

-- a translation with the bytes and the code of another
abbrev pub with_code : ModuleTranslation → ModuleTranslation → ModuleTranslation
with_code t other = record t {
  wasm = other.wasm;
  function_body_inputs = other.function_body_inputs;
  debuginfo = record t.debuginfo {
    wasm_file = record t.debuginfo.wasm_file { code_section_offset = other.debuginfo.wasm_file.code_section_offset };
  };
}

-- the defined globals are those after the imported ones
pub globals_split : (m : Module) (t : ModuleTranslation) → HasEntities m t → CountsImports m t.module
    → length t.module.globals ≡ t.module.num_imported_globals + length (lists_of_module m).globals
globals_split m t entities counts =
    let all = sym (length-map t.module.globals global_of) ∙ ap length entities.globals ∙ length-map (plain.globals m) _
    ∙ length-append (plain.imported_of plain.global_import m) (map (λ (g : GlobalDef). g.type) (lists_of_module m).globals) in
    let own = length-map (lists_of_module m).globals (λ (g : GlobalDef). g.type) in
    omega (arith, all, own, counts.globals)

-- a translation of all sections may be planned
pub is_ready : (debugged : Bool) (m : Module) (t : ModuleTranslation) → HasSections debugged m t → Keeps m → HasFewEntries m → IsReady m t
is_ready debugged m t has keeps few = record {
  memories = memories-ready m t has.data_segments has.entities has.counts keeps few;
  tables = tables-ready debugged m t has.elements has.entities has.counts has.escapes keeps few;
  holds_memories = holds_memories m t has.entities has.counts has.data_segments;
  holds_tables = holds_tables m t keeps has.entities has.counts has.elements;
  holds_globals = holds_globals m t has.globals (omega (arith, globals_split m t has.entities has.counts));
}

-- with the bytes and the code, what the form became is the translation
pub is_translated : (tunables : Tunables) (module_index : Index StaticModuleSpace) (validator : ℕ) (bytes : List ℕ) (m : Module)
    (empty formed other : ModuleTranslation) (b : BuilderState) → IsReadable bytes m → HasFewEntries m → IsNewTranslation module_index empty
    → IsFormed tunables validator m empty formed b → other.wasm.now ≡ bytes
    → map (λ input. body_of input.body) other.function_body_inputs ≡ flat_map bodies_of_section m
    → other.debuginfo.wasm_file.code_section_offset ≡ first_or_zero (flat_map code_places m)
    → IsTranslated tunables module_index validator bytes (with_code formed other) b
is_translated tunables module_index validator bytes m empty formed other b readable few is_new is wasm bodies place =
    record {
      meaning = m;
      read = readable;
      keeps = is.keeps;
      translation = record {
        types = is.types;
        sections = is.sections;
        customs = is.customs;
        strings = is.strings;
        code = record { bodies = bodies; place = place; imports = is.imports };
        startup = is.startup;
        index = is.index ∙ ap (λ r. r.module_index) is_new.record_of_module;
        wasm = wasm;
        offset = is.offset ∙ is_new.at_the_beginning;
      };
      ready = is_ready tunables.debug_guest m (with_code formed other) is.sections is.keeps few;
      types = is.builder;
    }
