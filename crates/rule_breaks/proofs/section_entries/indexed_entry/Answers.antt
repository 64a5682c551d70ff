use Rattle.std.proofs.Common.{sym, subst, rules}
use Rattle.form_reader.specs.Views.{import_of}
use Rattle.form_rules.specs.Source.{source_module}
use Rattle.wasm_spec.specs.Module.{imports}
use Rattle.rule_breaks.specs.declared.section_entries.SectionEntry.{SectionEntry}
use Rattle.rule_breaks.specs.ImportKinds.{IsIndexed}
use Rattle.rule_breaks.proofs.SoughtEntries.{seeks_import, seeks_past, seeks_other, is_import}
use Rattle.rule_breaks.proofs.section_entries.indexed_entry.Goals.{then-is_of_kind+else-left-eq0, else-is_of_kind}
use Rattle.rule_breaks.proofs.section_entries.indexed_entry.Goals as goal

pub imports-init : goal.imports-init
imports-init c = seeks_import c.args.kind _ _ _ (search rules)

pub returns-then-left-eq0 : goal.returns-then-left-eq0
returns-then-left-eq0 c =
    let P : SectionEntry → Type 0 = λ e. IsIndexed c.args.kind c.args.defining (imports (source_module c.args.source)) c.args.index e.section e.entry in
    subst P (sym c.entry_in.ensures)
    (is_import c.args.kind c.args.defining _ _ _ _ _ _ (import_of c.in-Some.import.now) c.imports.invariant c.in-Some.ensures.steps
    (sym c.if-is_of_kind.ensures) c.if-left-eq0.true)

pub imports-preserved : goal.imports-preserved
imports-preserved c = elim c.if-is_of_kind.branch [
  | then-is_of_kind+else-left-eq0 w ↦
      seeks_past c.args.kind c.args.defining _ _ _ _ _ _ (import_of c.in-Some.import.now) c.imports.invariant c.in-Some.ensures.steps _ c.in_ok-number.ensures
      _ w.left-is (sym w.if-is_of_kind.ensures) w.if-left-eq0.false
  | else-is_of_kind w ↦
      seeks_other c.args.kind c.args.defining _ _ _ _ _ _ (import_of c.in-Some.import.now) c.imports.invariant c.in-Some.ensures.steps _ c.in_ok-number.ensures
      _ w.left-is (sym w.if-is_of_kind.ensures)
]
