-- After the plan of memories the tables are still ready to be planned.
use Rattle.std.proofs.Common.{sym, subst}
use Rattle.init_plan.specs.declared.translation.ModuleTranslation.{ModuleTranslation}
use Rattle.init_plan.specs.Views.{OnlyMemoryInitChanges}
use Rattle.init_plan.specs.Tables.{TableHalfIsReady}

pub TableHalfIsReady-same : (old new : ModuleTranslation) → OnlyMemoryInitChanges old new → TableHalfIsReady old → TableHalfIsReady new
TableHalfIsReady-same old new same h = subst TableHalfIsReady (sym same) (record {
  imports = h.imports;
  few_tables = h.few_tables;
  few_functions = h.few_functions;
  each_value = h.each_value;
  each_image = h.each_image;
  no_images = h.no_images;
  few_segments = h.few_segments;
  in_range = h.in_range;
  functions = h.functions;
  initial_functions = h.initial_functions;
})
