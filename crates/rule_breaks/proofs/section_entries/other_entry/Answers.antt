use Rattle.std.proofs.Common.{sym, subst}
use Rattle.std.specs.Prelude.{IfOk}
use Rattle.wasm_spec.specs.Module as plain
use Rattle.wasm_spec.specs.declared.entities.ExternalKind.TheVariants as external
use Rattle.refusal_place.specs.declared.kind.SectionKind.TheVariants as kind
use Rattle.form_rules.specs.Source.{source_module}
use Rattle.rule_breaks.specs.declared.lists.ModuleList.{ModuleList}
use Rattle.rule_breaks.specs.SectionEntries.{IsEntryOf}
use Rattle.rule_breaks.proofs.IndexedImports.{indexed_in_space, functions_alike, tables_alike, memories_alike, tags_alike}
use Rattle.rule_breaks.proofs.section_entries.other_entry.Goals as goal

pub returns-in-Functions : goal.returns-in-Functions
returns-in-Functions c =
    let m = source_module c.args.source in
    subst (λ (ls : ModuleList). IfOk c.indexed_entry.result (λ e. IsEntryOf m ls c.args.place.entry e.section e.entry)) (sym c.in-Functions.is)
    (indexed_in_space plain.function_import external.Func functions_alike kind.Function m c.args.place.entry c.indexed_entry.result c.indexed_entry.ensures)

pub returns-in-TableTypes : goal.returns-in-TableTypes
returns-in-TableTypes c =
    let m = source_module c.args.source in
    subst (λ (ls : ModuleList). IfOk c.indexed_entry-in-TableTypes.result (λ e. IsEntryOf m ls c.args.place.entry e.section e.entry)) (sym c.in-TableTypes.is)
    (indexed_in_space plain.table_import external.Table tables_alike kind.Table m c.args.place.entry c.indexed_entry-in-TableTypes.result
    c.indexed_entry-in-TableTypes.ensures)

pub returns-in-Memories : goal.returns-in-Memories
returns-in-Memories c =
    let m = source_module c.args.source in
    subst (λ (ls : ModuleList). IfOk c.indexed_entry-in-Memories.result (λ e. IsEntryOf m ls c.args.place.entry e.section e.entry)) (sym c.in-Memories.is)
    (indexed_in_space plain.memory_import external.Memory memories_alike kind.Memory m c.args.place.entry c.indexed_entry-in-Memories.result
    c.indexed_entry-in-Memories.ensures)

pub returns-in-Tags : goal.returns-in-Tags
returns-in-Tags c =
    let m = source_module c.args.source in
    subst (λ (ls : ModuleList). IfOk c.indexed_entry-in-Tags.result (λ e. IsEntryOf m ls c.args.place.entry e.section e.entry)) (sym c.in-Tags.is)
    (indexed_in_space plain.tag_import external.Tag tags_alike kind.Tag m c.args.place.entry c.indexed_entry-in-Tags.result c.indexed_entry-in-Tags.ensures)
