use Rattle.std.proofs.Common.{◌≡◌, ◌∙◌, ◌+◌, ℕ, Option, Some, length, ap, if◌then◌else◌}
use Rattle.std.specs.Prelude.{cond, is_some, filter}
use Rattle.std.specs.BTreeMap.{is_at, insert_entry}
use Rattle.std.specs.Map.{lookup}
use Rattle.std.specs.Ordering.{is_eq}
use Rattle.import_match.specs.contracts.names.DefinitionNamesOrd.TheImpl as ordered
use Rattle.wasm_types.specs.declared.entity.EntityType.{EntityType}
use Rattle.import_match.specs.Kept.{in_order, is_below}
use Rattle.std.proofs.lemmas.Bool.{le-ltb}
use Rattle.import_match.proofs.Keeping.{kept-grown, listed, new-key, insert-filter}
use Rattle.import_match.proofs.definitions.insert.Goals as goal

-- the map with the new entry, whose number is the count
entries-are : (c : goal.In_ok-insert) → c.insert.new.self.entries
    ≡ insert_entry ordered.ghosts.cmp c.args.numbered.now.entries c.args.names (length c.args.numbered.now.entries, c.args.ty)
entries-are c =
    c.in_ok-insert.ensures.entries
    ∙ ap (λ (n : ℕ). insert_entry ordered.ghosts.cmp c.args.numbered.now.entries c.args.names (n, c.args.ty)) c.len-number.ensures.len

pub returns-clause-kept : goal.returns-clause-kept
returns-clause-kept c =
    let es = c.args.numbered.now.entries in
    let none = c.in_ok-insert.ensures.old ∙ new-key es c.requires.kept c.args.names c.args.ty c.requires.new in
    kept-grown es c.requires.kept c.args.names c.args.ty c.requires.new c.insert.new.self.entries (entries-are c)
    (c.in_ok-insert.ensures.len ∙ ap (λ (o : Option (ℕ × EntityType)). length es + (if is_some o then 0 else 1)) none)
    (λ q. c.in_ok-insert.ensures.updates.0 q
    ∙ ap (λ (n : ℕ). cond (is_eq (ordered.ghosts.cmp c.args.names q)) (Some (n, c.args.ty)) (lookup (is_at (ordered.ghosts.cmp q)) es)) c.len-number.ensures.len)

pub returns-clause-ok : goal.returns-clause-ok
returns-clause-ok c =
    ap in_order (entries-are c) ∙ listed c.args.numbered.now.entries c.requires.kept c.args.names c.args.ty c.requires.new

pub returns-clause-others : goal.returns-clause-others
returns-clause-others c = λ n less.
    let es = c.args.numbered.now.entries in
    ap (filter (is_below n)) (entries-are c)
    ∙ insert-filter ordered.ghosts.cmp c.args.names (length es, c.args.ty) (is_below n) (le-ltb (length es) n less) es
    (new-key es c.requires.kept c.args.names c.args.ty c.requires.new)
