use Rattle.std.proofs.Common.{◌≡◌, ◌<◌, ◌++◌, [], length, map, drop, subst, sym, ◌∙◌, arith}
use Rattle.std.proofs.lemmas.List.{append-nil, drop_all, length-map}
use Rattle.init_plan.specs.Views.{bytes_of, passive_segment_of}
use Rattle.init_plan.proofs.Entered.{All-read_map, entered, entered-found, entered-others}
use Rattle.init_plan.proofs.runtime_data.keep_passive.Goals as goal

pub insert-requires : goal.insert-requires
insert-requires c = subst (λ s. (passive_segment_of s).0 < 4294967295) (sym c.loop-index-item.is)
    (All-read_map passive_segment_of (λ p. p.0 < 4294967295) c.args.segments.now c.loop-index.index-index c.loop-index-item.result
    c.loop-index-test.true c.requires.numbered)

pub returns-clause-found : goal.returns-clause-found
returns-clause-found c =
    let ps = map passive_segment_of c.args.segments.now in
    let before = map bytes_of c.args.runtime_data.now in
    let none : drop c.loop-index.index-index c.args.segments.now ≡ [] = drop_all c.loop-index.index-index c.args.segments.now (omega arith) in
    let runtime : map bytes_of c.loop-index.runtime_data ≡ before ++ map (λ p. p.1) ps =
    sym (append-nil (map bytes_of c.loop-index.runtime_data)) ∙ rw none at c.loop-index.invariant.bytes in
    let found : c.loop-index.found ≡ entered (length c.args.runtime_data.now) c.args.found.now (map (λ p. p.0) ps) =
    rw none at c.loop-index.invariant.entries in
    rw (runtime, found) (entered-found before (length c.args.runtime_data.now) c.args.found.now ps
    (sym (length-map c.args.runtime_data.now bytes_of)) c.requires.distinct)

pub returns-clause-others : goal.returns-clause-others
returns-clause-others c = λ n absent.
    let ks = map (λ p. p.0) (map passive_segment_of c.args.segments.now) in
    let none : drop c.loop-index.index-index c.args.segments.now ≡ [] = drop_all c.loop-index.index-index c.args.segments.now (omega arith) in
    let found : c.loop-index.found ≡ entered (length c.args.runtime_data.now) c.args.found.now ks = rw none at c.loop-index.invariant.entries in
    rw found (entered-others (length c.args.runtime_data.now) c.args.found.now ks n absent)
