use Rattle.std.proofs.Common.{refl, map, ap, ◌∙◌}
use Rattle.plan_tables.specs.Context.{region_told}
use Rattle.plan_tables.proofs.filling.fill_record.Goals as goal

pub returns : goal.returns
returns c = record {
  planned = (refl, refl, refl);
  entities = c.entities_row-out.ensures;
  facts = c.facts_row-out.ensures;
  context = c.context_row-out.ensures;
  types = c.in_ok-out.ensures;
  kinds = c.in_ok-out-2.ensures;
  memories = c.in_ok-out-10.ensures;
  tables = c.in_ok-out-3.ensures;
  regions = ap (map region_told) c.leak.ensures.value ∙ c.in_ok-regions_of.ensures;
  functions = c.in_ok-out-4.ensures;
  globals = c.in_ok-out-5.ensures;
  places = c.in_ok-fill_places.ensures;
  names = c.in_ok-fill_names.ensures.names;
  module_text = c.in_ok-fill_names.ensures.text;
  layouts = c.in_ok-out-6.ensures;
  interned = c.in_ok-out-7.ensures;
  structs = c.structs_row-out.ensures;
  items = c.in_ok-fill_items.ensures;
  bodies = c.in_ok-out-8.ensures;
  debug = c.in_ok-out-9.ensures;
}
