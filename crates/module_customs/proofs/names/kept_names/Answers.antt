use Rattle.std.proofs.Common.{[], ◌∷◌, ◌++◌, ◌∙◌, ◌^◌, List, subst, sym, ap, append_assoc, arith}
use Rattle.std.proofs.lemmas.List.{append-nil}
use Rattle.wasm_spec.specs.Module as plain
use Rattle.form_rules.specs.Source.{source_module}
use Rattle.form_rules.specs.Singles.{single_of, singles_left}
use Rattle.module_customs.specs.Names.{names_after, KeepsNames}
use Rattle.module_customs.proofs.NamesInTurn.{next-names, declared-more, declared-few}
use Rattle.module_customs.proofs.names.kept_names.Goals as goal

pub add_section-requires : goal.add_section-requires
add_section-requires c =
    let had = c.loop-section.invariant in
    omega (arith, had.declared, declared-few had.came (singles_left c.loop-section.section-iterator) (source_module c.args.source) (2 ^ 30) had.whole c.requires.functions)

pub overflow_add-declared : goal.overflow_add-declared
overflow_add-declared c =
    let had = c.loop-section.invariant in
    let p = single_of c.in-Some.section in
    let whole = append_assoc had.came (p ∷ []) (singles_left c.next.new.self) ∙ sym (ap (λ (ps : List plain.Payload). had.came ++ ps) c.in-Some.ensures.steps) ∙ had.whole in
    omega (
      arith,
      declared-more had.came p c.loop-section.declared c.in_ok-more.more had.declared c.in_ok-more.ensures,
      declared-few (had.came ++ p ∷ []) (singles_left c.next.new.self) (source_module c.args.source) (2 ^ 30) whole c.requires.functions,
    )

pub loop-section-preserved : goal.loop-section-preserved
loop-section-preserved c =
    let had = c.loop-section.invariant in
    let p = single_of c.in-Some.section in
    record {
      came = had.came ++ p ∷ [];
      whole = append_assoc had.came (p ∷ []) (singles_left c.next.new.self) ∙ sym (ap (λ (ps : List plain.Payload). had.came ++ ps) c.in-Some.ensures.steps) ∙ had.whole;
      declared = declared-more had.came p c.loop-section.declared c.in_ok-more.more had.declared c.in_ok-more.ensures;
      kept = next-names had.came p c.args.locals c.loop-section.declared had.declared c.add_section.new.kept
          (c.in_ok-add_section.ensures (names_after c.args.locals [] had.came) had.kept);
    }

pub returns : goal.returns
returns c =
    let had = c.loop-section.invariant in
    let whole = sym (append-nil had.came) ∙ sym (ap (λ (ps : List plain.Payload). had.came ++ ps) c.in-None.ensures.steps.0) ∙ had.whole in
    subst (λ (ps : List plain.Payload). KeepsNames (names_after c.args.locals [] ps) c.loop-section.kept) whole had.kept
