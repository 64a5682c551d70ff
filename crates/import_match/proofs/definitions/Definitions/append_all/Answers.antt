use Rattle.std.proofs.Common.{◌≡◌, ◌∙◌, ℕ, true, Result, Ok, Err, ap, sym, subst, rules, true≢false}
use Rattle.std.specs.Prelude.{OnErr, is_err, filter}
use Rattle.std.proofs.lemmas.Map.Made.{filter_same_pairs}
use Rattle.std.proofs.lemmas.Result.{on_err_weaker}
use Rattle.import_match.specs.Definitions.{AreOnce}
use Rattle.import_match.specs.Kept.{in_order, is_below, DefinitionsAreKept}
use Rattle.import_match.proofs.definitions.Definitions.append_all.Goals as goal

on-err : {T E P : Type 0} (r : Result T E) → is_err r ≡ true → OnErr r P → P
on-err (Ok v) is told = absurd (true≢false (sym is))
on-err (Err e) is told = told

-- the entries are unchanged
restored : (c : goal.After-retain) → c.retain.new.self.entries ≡ c.self.inside.numbered.entries
restored c =
    filter_same_pairs _ (is_below c.len-before.result) _ (λ k v b w f' t. search rules) c.insert_all-inserted.new.numbered.entries c.retain.new.self.entries
    c.retain.ensures.filtered
    ∙ ap (λ (n : ℕ). filter (is_below n) c.insert_all-inserted.new.numbered.entries) c.len-before.ensures.len
    ∙ on-err c.insert_all-inserted.result (sym c.if-is_err.ensures.value) c.insert_all-inserted.ensures.err

pub invariant_of-self : goal.invariant_of-self
invariant_of-self c = subst DefinitionsAreKept (sym (restored c)) c.self.invariant

pub returns-then-is_err-clause-err : goal.returns-then-is_err-clause-err
returns-then-is_err-clause-err c =
    on_err_weaker c.insert_all-inserted.result (λ told. ap in_order (restored c) ∙ c.self.view_is) c.insert_all-inserted.ensures.err

pub returns-then-is_err-clause-once : goal.returns-then-is_err-clause-once
returns-then-is_err-clause-once c = subst (λ es. AreOnce (in_order es)) (sym (restored c)) c.self.invariant.once
