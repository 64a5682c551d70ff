use Rattle.std.proofs.Common.{List, map, sym, subst, ◌∙◌}
use Rattle.std.proofs.lemmas.List.{take_all}
use Rattle.wasm_spec.specs.Module.{Module}
use Rattle.form_reader.specs.declared.form.Payload.{Payload}
use Rattle.form_reader.specs.Counted.{SizesFit, CountsMore}
use Rattle.form_reader.specs.Views.{module_of, payload_of}
use Rattle.form_reader.proofs.Counting.{sections_join, CountsMore-next, SizesFit-item, SizesFit-few, no_entries, counted}
use Rattle.form_reader.proofs.form.Form.counts.Goals as goal

pub add_section-requires : goal.add_section-requires
add_section-requires c =
    let room = subst (λ (ps : List Payload). SizesFit no_entries (map payload_of ps)) (sym c.deref-payload-items.ensures.value)
    (SizesFit-few (module_of c.args.self.now) c.requires) in
    SizesFit-item payload_of (λ (m : Module). m) sections_join no_entries c.loop-payload.counts c.deref-payload-items.result.now
    c.loop-payload.payload-index c.payload-item.result c.loop-payload-test.true c.payload-item.is room c.loop-payload.invariant

pub loop-payload-preserved : goal.loop-payload-preserved
loop-payload-preserved c =
    CountsMore-next payload_of (λ (m : Module). m) sections_join no_entries c.loop-payload.counts c.add_section.new.counts
    c.deref-payload-items.result.now c.loop-payload.payload-index c.payload-item.result c.loop-payload-test.true c.payload-item.is
    c.loop-payload.invariant c.add_section.ensures

pub returns : goal.returns
returns c =
    let whole = take_all c.loop-payload.payload-index c.deref-payload-items.result.now c.loop-payload-test.false
    ∙ c.deref-payload-items.ensures.value in
    counted c.loop-payload.counts (module_of c.args.self.now)
    (subst (λ (ps : List Payload). CountsMore no_entries c.loop-payload.counts (map payload_of ps)) whole c.loop-payload.invariant)
