-- What was gathered, as the plain lists of the definitions.
use Rattle.rule_spec.specs.Lists as rule
use Rattle.form_rules.specs.Source.{source_module}
use Rattle.form_rules.specs.declared.lists.Lists.{Lists}

-- the entries of sections stay where they are
abbrev pub lists_of : Lists → rule.Lists
lists_of l = record (rule.lists_of_module (source_module l.source)) {
  types = l.types;
  functions = l.spaces.functions.items;
  table_types = l.spaces.table_types.items;
  memories = l.spaces.memories.items;
  global_types = l.spaces.global_types.items;
  tags = l.spaces.tags.items;
  imported_functions = l.imported_functions;
  imported_globals = l.imported_globals;
}
