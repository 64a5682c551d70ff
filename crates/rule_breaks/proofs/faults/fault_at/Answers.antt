use Rattle.std.proofs.Common.{subst}
use Rattle.form_rules.specs.Views.{lists_of}
use Rattle.rule_breaks.specs.Breaks.{IsFirstBreak}
use Rattle.rule_breaks.proofs.Lacking.{lacks_function, lacks_tag, lacks_table_type, lacks_memory, lacks_import, lacks_table, lacks_global, lacks_export, lacks_start, lacks_element, lacks_data_count, lacks_body, lacks_segment, no_type_broken}
use Rattle.rule_breaks.proofs.faults.fault_at.Goals as goal

pub fault_of_function-requires-clause-breaks : goal.fault_of_function-requires-clause-breaks
fault_of_function-requires-clause-breaks c =
    let l = lists_of c.args.lists.now in
    lacks_function l c.args.place.entry c.args.rule (subst (λ ls. IsFirstBreak c.args.rule l ls c.args.place.entry) c.in-Functions.is c.requires.first)

pub fault_of_tag-requires : goal.fault_of_tag-requires
fault_of_tag-requires c =
    let l = lists_of c.args.lists.now in
    lacks_tag l c.args.place.entry c.args.rule (subst (λ ls. IsFirstBreak c.args.rule l ls c.args.place.entry) c.in-Tags.is c.requires.first)

pub fault_of_table_type-requires : goal.fault_of_table_type-requires
fault_of_table_type-requires c =
    let l = lists_of c.args.lists.now in
    lacks_table_type l c.args.place.entry c.args.rule (subst (λ ls. IsFirstBreak c.args.rule l ls c.args.place.entry) c.in-TableTypes.is c.requires.first)

pub fault_of_memory-requires : goal.fault_of_memory-requires
fault_of_memory-requires c =
    let l = lists_of c.args.lists.now in
    lacks_memory l c.args.place.entry c.args.rule (subst (λ ls. IsFirstBreak c.args.rule l ls c.args.place.entry) c.in-Memories.is c.requires.first)

pub fault_of_import-requires : goal.fault_of_import-requires
fault_of_import-requires c =
    let l = lists_of c.args.lists.now in
    lacks_import l c.args.place.entry c.args.rule (subst (λ ls. IsFirstBreak c.args.rule l ls c.args.place.entry) c.in-Imports.is c.requires.first)

pub fault_of_table-requires : goal.fault_of_table-requires
fault_of_table-requires c =
    let l = lists_of c.args.lists.now in
    lacks_table l c.args.place.entry c.args.rule (subst (λ ls. IsFirstBreak c.args.rule l ls c.args.place.entry) c.in-Tables.is c.requires.first)

pub fault_of_global-requires : goal.fault_of_global-requires
fault_of_global-requires c =
    let l = lists_of c.args.lists.now in
    lacks_global l c.args.place.entry c.args.rule (subst (λ ls. IsFirstBreak c.args.rule l ls c.args.place.entry) c.in-Globals.is c.requires.first)

pub fault_of_export-requires : goal.fault_of_export-requires
fault_of_export-requires c =
    let l = lists_of c.args.lists.now in
    lacks_export l c.args.place.entry c.args.rule (subst (λ ls. IsFirstBreak c.args.rule l ls c.args.place.entry) c.in-Exports.is c.requires.first)

pub fault_of_start-requires : goal.fault_of_start-requires
fault_of_start-requires c =
    let l = lists_of c.args.lists.now in
    lacks_start l c.args.place.entry c.args.rule (subst (λ ls. IsFirstBreak c.args.rule l ls c.args.place.entry) c.in-Starts.is c.requires.first)

pub fault_of_element-requires : goal.fault_of_element-requires
fault_of_element-requires c =
    let l = lists_of c.args.lists.now in
    lacks_element l c.args.place.entry c.args.rule (subst (λ ls. IsFirstBreak c.args.rule l ls c.args.place.entry) c.in-Elements.is c.requires.first)

pub fault_of_data_count-requires : goal.fault_of_data_count-requires
fault_of_data_count-requires c =
    let l = lists_of c.args.lists.now in
    lacks_data_count l c.args.place.entry c.args.rule (subst (λ ls. IsFirstBreak c.args.rule l ls c.args.place.entry) c.in-DataCounts.is c.requires.first)

pub fault_of_body-requires-clause-breaks : goal.fault_of_body-requires-clause-breaks
fault_of_body-requires-clause-breaks c =
    let l = lists_of c.args.lists.now in
    lacks_body l c.args.place.entry c.args.rule (subst (λ ls. IsFirstBreak c.args.rule l ls c.args.place.entry) c.in-Bodies.is c.requires.first)

pub fault_of_segment-requires : goal.fault_of_segment-requires
fault_of_segment-requires c =
    let l = lists_of c.args.lists.now in
    lacks_segment l c.args.place.entry c.args.rule (subst (λ ls. IsFirstBreak c.args.rule l ls c.args.place.entry) c.in-Segments.is c.requires.first)

pub unreachable-requires : goal.unreachable-requires
unreachable-requires c =
    let l = lists_of c.args.lists.now in
    no_type_broken l c.args.place.entry c.args.rule c.requires.well (subst (λ ls. IsFirstBreak c.args.rule l ls c.args.place.entry) c.in-Types.is c.requires.first)
