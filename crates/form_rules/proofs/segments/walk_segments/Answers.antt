use Rattle.std.proofs.Common.{length, ap, arith}
use Rattle.wasm_spec.specs.Module.{Segment}
use Rattle.form_reader.specs.Views.{segment_of}
use Rattle.rule_spec.specs.Expressions.{HasMemoryOffset}
use Rattle.rule_spec.specs.Indices.{NamesMemory}
use Rattle.rule_spec.specs.References.{DataKindRefersIn}
use Rattle.form_rules.specs.Views.{lists_of}
use Rattle.form_rules.proofs.Taking.{taken}
use Rattle.form_rules.proofs.Walking.{by_All, asked_more, asked_all, all_counted}
use Rattle.form_rules.proofs.segments.walk_segments.Goals as goal

pub loop-segments-preserved : goal.loop-segments-preserved
loop-segments-preserved c =
    let l = lists_of c.args.typing.now.lists.now in
    let s = segment_of c.entry.result.now in
    let at = taken _ _ _ _ _ c.if-branch.true c.in_ok-advance.ensures c.entry.ensures in
    let so_far = c.loop-segments.invariant in
    let added = c.in_ok-kept.ensures in
    record {
      count = omega (arith, ap length at, so_far.count, added.count);
      typed = asked_more (by_All (λ (s : Segment). HasMemoryOffset l s.kind)) _ _ _ _ s so_far.typed _ at added.typed;
      in_range = asked_more (by_All (λ (s : Segment). NamesMemory l s.kind)) _ _ _ _ s so_far.in_range _ at added.in_range;
      refer = asked_more (by_All (λ (s : Segment). DataKindRefersIn (length l.types) s.kind)) _ _ _ _ s so_far.refer _ at added.refer;
    }

pub returns : goal.returns
returns c =
    let l = lists_of c.args.typing.now.lists.now in
    let so_far = c.loop-segments.invariant in
    record {
      count = all_counted _ _ _ _ _ _ c.if-branch.false c.in_ok-advance.ensures so_far.count;
      typed = asked_all (by_All (λ (s : Segment). HasMemoryOffset l s.kind)) _ _ _ _ _ so_far.typed _ c.if-branch.false c.in_ok-advance.ensures;
      in_range = asked_all (by_All (λ (s : Segment). NamesMemory l s.kind)) _ _ _ _ _ so_far.in_range _ c.if-branch.false c.in_ok-advance.ensures;
      refer = asked_all (by_All (λ (s : Segment). DataKindRefersIn (length l.types) s.kind)) _ _ _ _ _ so_far.refer _ c.if-branch.false c.in_ok-advance.ensures;
    }
