-- Entries of the lists that rules speak of.
use Rattle.std.specs.Prelude.{ℕ, length, ◌<◌}
use Rattle.wasm_spec.specs.Module.{Module}
use Rattle.rule_spec.specs.Lists.{Lists, lists_of_module}
use Rattle.rule_breaks.specs.declared.lists.ModuleList.{ModuleList}
use Rattle.rule_breaks.specs.declared.lists.ModuleList.TheVariants as list

-- how many entries a list has
abbrev pub list_length : Lists → ModuleList → ℕ
list_length l list.Types = length l.types
list_length l list.Functions = length l.functions
list_length l list.TableTypes = length l.table_types
list_length l list.Memories = length l.memories
list_length l list.Tags = length l.tags
list_length l list.Imports = length l.imports
list_length l list.Tables = length l.tables
list_length l list.Globals = length l.globals
list_length l list.Exports = length l.exports
list_length l list.Starts = length l.starts
list_length l list.Elements = length l.elements
list_length l list.DataCounts = length l.data_counts
list_length l list.Bodies = length l.bodies
list_length l list.Segments = length l.segments

-- the list has this entry
abbrev pub IsListed : Module → ModuleList → ℕ → Type 0
IsListed m ls n = n < list_length (lists_of_module m) ls
