use Rattle.std.proofs.Common.{◌≡◌, ◌++◌, List, All}
use Rattle.std.specs.List.{flat_map}
use Rattle.wasm_spec.specs.Module.{Export, exports_of_section}
use Rattle.form_reader.specs.Views.{export_of}
use Rattle.form_rules.specs.Source.{source_module}
use Rattle.form_rules.specs.Sections.{entries_left}
use Rattle.module_sections.specs.Exported.{HasExportableIndex, exported_functions, entered}
use Rattle.module_sections.specs.EscapeLog.{after_escapes}
use Rattle.module_sections.proofs.exports.convert_exports.Given as goal

-- the exports so far are entered, and with the functions of the remaining ones all are recorded
abbrev pub invariant-loop-export : goal.invariant-loop-export
invariant-loop-export l =
    let all = flat_map exports_of_section (source_module l.source) in
    let exports = entries_left export_of exports_of_section l.export-iterator in
    record {
      in_range : All (HasExportableIndex l.initial.escaping.count) exports;
      noted : after_escapes l.escaping (exported_functions exports) ≡ after_escapes l.initial.escaping (exported_functions all);
      entered : (came : List Export) × (l.exports.entries ≡ entered came) × (came ++ exports ≡ all);
    }
