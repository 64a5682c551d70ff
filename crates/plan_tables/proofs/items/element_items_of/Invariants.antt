use Rattle.std.proofs.Common.{◌≡◌, ◌++◌, length, map, take, drop}
use Rattle.std.specs.List.{flat_map}
use Rattle.wasm_index.specs.Index.{number_of}
use Rattle.plan_tables.specs.Items.{functions_in, expressions_in, items_rows}
use Rattle.plan_tables.specs.Operators.{operator_row}
use Rattle.plan_tables.specs.Spans.{spans_from}
use Rattle.plan_tables.proofs.items.element_items_of.Given as goal

abbrev pub invariant-loop-holder : goal.invariant-loop-holder
invariant-loop-holder g l = record {
  rows : l.rows.items ++ items_rows (length l.functions.items) (length l.parts.items) (map g.T.HasElements.elements (drop l.holder-index l.holders))
      ≡ items_rows 0 0 (map g.T.HasElements.elements l.holders);
  functions : l.functions.items ≡ flat_map (λ h. map number_of (functions_in (g.T.HasElements.elements h))) (take l.holder-index l.holders);
  parts : l.parts.items ++ spans_from (length l.operators.items) (map (λ e. length e) (flat_map (λ h. expressions_in (g.T.HasElements.elements h)) (drop l.holder-index l.holders)))
      ≡ spans_from 0 (map (λ e. length e) (flat_map (λ h. expressions_in (g.T.HasElements.elements h)) l.holders));
  operators : l.operators.items ++ flat_map (λ e. map operator_row e) (flat_map (λ h. expressions_in (g.T.HasElements.elements h)) (drop l.holder-index l.holders))
      ≡ flat_map (λ e. map operator_row e) (flat_map (λ h. expressions_in (g.T.HasElements.elements h)) l.holders);
}
