use Rattle.std.proofs.Common.{◌≡◌, map, take}
use Rattle.wasm_index.specs.Index.{number_of}
use Rattle.module_sections.specs.EscapeLog.{after_escapes}
use Rattle.module_sections.proofs.element_items.convert_functions.Given as goal

-- the functions so far are converted and recorded
abbrev pub invariant-loop-index : goal.invariant-loop-index
invariant-loop-index l = record {
  converted : map number_of l.functions.items ≡ take l.index-index l.indices;
  noted : l.escaping ≡ after_escapes l.initial.escaping (take l.index-index l.indices);
}
