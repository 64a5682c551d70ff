use Rattle.std.proofs.Common.{◌≡◌, ℕ, List, ◌++◌, subst, append_assoc}
use Rattle.std.specs.Prelude.{codes, decimal}
use Rattle.std.specs.Result.{IsOk}
use Rattle.std.specs.Fmt.{IsPlainFormatter, HasWritten}
use Rattle.rule_breaks.specs.declared.fault.IndexSpace.{IndexSpace}
use Rattle.rule_breaks.specs.FaultTexts.{space_text, spaces_text, verb_text, amount_text, no_such_entry_text}
use Rattle.rule_breaks.proofs.fault_text.NoSuchEntryDisplay.fmt.Goals as goal

-- the parts of the sentence, one written after the other
abbrev written : List ℕ → ℕ → List ℕ → List ℕ → List ℕ
written name index verb there = name ++ (codes " index " ++ (decimal index ++ (codes ", but there " ++ (verb ++ (codes " " ++ there)))))

says : (s : IndexSpace) (index count : ℕ) {name many verb : List ℕ} → name ≡ space_text s → many ≡ spaces_text s → verb ≡ verb_text count
    → written name index verb (amount_text count name many) ≡ no_such_entry_text s index count
says s index count name many verb = rw name (rw many (rw verb (simp append_assoc)))

pub returns-clause-writes : goal.returns-clause-writes
returns-clause-writes g c =
    subst (λ (text : List ℕ). IsPlainFormatter c.args.f.now → IsOk c.write.result → HasWritten g.W.Write.write_str_gives c.args.f.now text c.write.new.self)
    (says c.args.self.now.0 c.args.self.now.1 c.args.self.now.2 c.entry_name-name.ensures c.entries_name.ensures c.is_or_are-verb.ensures)
    c.write.ensures.writes
