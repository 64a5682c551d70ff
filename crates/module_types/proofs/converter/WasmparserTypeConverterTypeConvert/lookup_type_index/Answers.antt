use Rattle.std.proofs.lemmas.Grind.{common_steps}
use Rattle.std.proofs.Common.{arith}
use Rattle.std.specs.Option.{option_map}
use Rattle.module_types.proofs.Convertible.{known-by}
use Rattle.module_types.proofs.converter.WasmparserTypeConverterTypeConvert.lookup_type_index.Goals as goal

pub interned-requires-clause-below : goal.interned-requires-clause-below
interned-requires-clause-below g c = grind (arith, common_steps)

pub interned-requires-clause-callable : goal.interned-requires-clause-callable
interned-requires-clause-callable g c = grind (arith, common_steps)

pub lookup_type_index-requires : goal.lookup_type_index-requires
lookup_type_index-requires g c =
    let s = c.args.self.now in
    known-by (λ i. g.F.TypeLookUp.callable s.lookup_type_idx i) s.types.now s.count (option_map (λ p. (p.0.now, p.1.0)) s.rec_group)
    c.args.index c.in-Id.field-0 c.in-Id.is c.requires (c.in-Some.types.now, c.in-Some.field-0-1.0)
    (λ j. option_map (λ p. (p.0.now, p.1.0)) (c.in-Some.is j)) s.have_indices _ _ _ _
    c.looking_up.ensures.types c.looking_up.ensures.list c.looking_up.ensures.ids c.looking_up.ensures.next

pub returns-in-Module : goal.returns-in-Module
returns-in-Module g c = grind (arith, common_steps)
