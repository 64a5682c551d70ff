-- What the tables say of how tables begin.
use Rattle.std.specs.Prelude.{◌≡◌, length, map}
use Rattle.std.specs.List.{flat_map}
use Rattle.wasm_index.specs.Index.{number_of}
use Rattle.init_plan.specs.declared.translation.ModuleTranslation.{ModuleTranslation}
use Rattle.plan_tables.specs.declared.record.TablesRecord.{TablesRecord}
use Rattle.plan_tables.specs.Segments.{element_row}
use Rattle.plan_tables.specs.Spans.{spans_from}

pub record TellsTables (t : ModuleTranslation) (r : TablesRecord) : Type 0 where
  -- the cells of the images of the defined tables, end to end
  pub images : r.images.now ≡ spans_from 0 (map (λ image. length image.items) t.module.table_initialization)
  pub cells : r.cells.now ≡ flat_map (λ image. map number_of image.items) t.module.table_initialization
  -- what remains to be written, in order
  pub elements : r.elements.now ≡ map element_row t.table_initialization.segments.items
