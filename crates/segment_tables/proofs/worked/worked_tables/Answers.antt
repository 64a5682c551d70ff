use Rattle.std.proofs.Common.{[], ◌∙◌, length, map, ap, sym, subst, arith}
use Rattle.std.proofs.lemmas.List.{length-map}
use Rattle.segment_tables.specs.DataSegments.{data_told}
use Rattle.segment_tables.specs.References.{ListsOnce}
use Rattle.segment_tables.proofs.worked.worked_tables.Goals as goal

pub returns-clause-empty : goal.returns-clause-empty
returns-clause-empty c = λ r segments elements functions parts operators references. record {
  data_segments = ap (map data_told) segments;
  element_segments = elements;
  functions = functions;
  expressions = record { parts = parts; operators = operators };
  references = subst (ListsOnce []) (sym references) (record { ascend = λ i j lt in'. omega (arith, in'); exact = λ k. (λ h. h, λ h. h) });
}

pub returns-clause-one : goal.returns-clause-one
returns-clause-one c = λ r told. sym (length-map r.data_segments.now data_told) ∙ ap length told.data_segments
