use Rattle.std.proofs.Common.{◌++◌, map, ap, ◌∙◌, subst}
use Rattle.std.proofs.lemmas.List.Filters.{dedup_is}
use Rattle.form_reader.specs.Views.{payload_of}
use Rattle.segment_tables.specs.References.{module_references, ListsOnce}
use Rattle.segment_tables.proofs.Listing.{listed}
use Rattle.segment_tables.proofs.references.references_of.Goals as goal

pub returns : goal.returns
returns c =
    let all = module_references (map payload_of c.args.payloads.now) in
    subst (λ xs. ListsOnce xs c.dedup.new.self.items) (c.in_ok-push_all.ensures ∙ ap (λ xs. xs ++ all) c.new-functions.ensures.items)
    (listed _ _ _ c.sort_unstable.ensures.permutation c.sort_unstable.ensures.sorted (dedup_is _ _ _ c.dedup.ensures.filtered))
