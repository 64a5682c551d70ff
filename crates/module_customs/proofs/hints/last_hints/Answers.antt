use Rattle.std.proofs.Common.{ℕ, List, map, sym, ap, ◌∙◌}
use Rattle.std.specs.Global.{Vec}
use Rattle.std.specs.List.{filter_map, cons_option}
use Rattle.wasm_spec.specs.Module.{Payload}
use Rattle.custom_sections.specs.declared.hints.Hint.{Hint}
use Rattle.custom_sections.specs.Views.{hint_entry_of}
use Rattle.form_rules.specs.Singles.{singles_left}
use Rattle.module_customs.specs.Hints.{HintLists, hint_lists, last_or}
use Rattle.module_customs.proofs.HintsInTurn.{hints-after}
use Rattle.module_customs.proofs.hints.last_hints.Goals as goal

pub loop-section-preserved : goal.loop-section-preserved
loop-section-preserved c =
    let entries : Vec (ℕ × Vec Hint) → HintLists = λ all. map hint_entry_of all.items in
    let rest = filter_map hint_lists (singles_left c.next.new.self) in
    ap (λ (last : Vec (ℕ × Vec Hint)). last_or (entries last) rest) c.entries_after-last.ensures
    ∙ sym (hints-after entries c.loop-section.last c.in_ok-entries.entries rest)
    ∙ ap (λ o. last_or (entries c.loop-section.last) (cons_option o rest)) c.in_ok-entries.ensures
    ∙ sym (ap (λ (ps : List Payload). last_or (entries c.loop-section.last) (filter_map hint_lists ps)) c.in-Some.ensures.steps)
    ∙ c.loop-section.invariant
