use Rattle.std.proofs.Common.{◌∙◌, ◌<◌, ◌∷◌, [], length, sym, ap, subst, arith}
use Rattle.std.proofs.lemmas.List.{length-append}
use Rattle.wasm_spec.specs.TypeData.{Concrete}
use Rattle.interned_types.specs.Environment.{declared_name}
use Rattle.interned_types.proofs.Naming.{AreNamed, named-more}
use Rattle.interned_types.proofs.declared.declared_types.Goals as goal

pub loop-number-init : goal.loop-number-init
loop-number-init c =
    let name = declared_name c.args.indices.now c.args.types.now in
    record {
      long = ap length c.in_ok-names.ensures.items;
      named = subst (λ names. AreNamed names name) (sym c.in_ok-names.ensures.items) (λ i lt. absurd (omega (arith, lt)));
    }

pub lookup_heap_type-requires : goal.lookup_heap_type-requires
lookup_heap_type-requires c =
    c.declared_converter-converter.ensures.knows c.loop-number.number (omega (arith, c.loop-number-test.true, c.len-number-end.ensures.length))

pub loop-number-preserved : goal.loop-number-preserved
loop-number-preserved c =
    let name = declared_name c.args.indices.now c.args.types.now in
    let names = c.loop-number.names.items in
    let n = c.loop-number.number in
    let lt : n < length c.args.indices.now = omega (arith, c.loop-number-test.true, c.len-number-end.ensures.length) in
    let h = c.lookup_heap_type.result in
    let is = c.lookup_heap_type.ensures ∙ ap Concrete (c.declared_converter-converter.ensures.looks n lt ∙ ap name (sym c.loop-number.invariant.long)) in
    record {
      long = omega (arith, ap length c.in_ok-push.ensures.items, length-append names (h ∷ []), c.loop-number.invariant.long);
      named = subst (λ names. AreNamed names name) (sym c.in_ok-push.ensures.items) (named-more names h name c.loop-number.invariant.named is);
    }

pub returns : goal.returns
returns c = record {
  long = omega (arith, c.loop-number.invariant.long, c.loop-number-test.false, c.len-number-end.ensures.length);
  named = c.loop-number.invariant.named;
}
