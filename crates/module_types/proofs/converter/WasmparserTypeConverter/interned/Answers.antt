use Rattle.std.proofs.Common.{◌<◌, length, sym}
use Rattle.std.specs.Option.{option_map}
use Rattle.module_types.specs.Converter.{answered-is, answered-held}
use Rattle.module_types.proofs.converter.WasmparserTypeConverter.interned.Goals as goal

pub returns-clause-answered : goal.returns-clause-answered
returns-clause-answered g c =
    let s = c.args.self.now in
    let given = coe 0 1 (j. g.F.TypeLookUp.gives s.lookup_type_idx (c.from_u32.ensures j) c.interned_index.result) c.interned_index.ensures in
    answered-is (λ i r. g.F.TypeLookUp.gives s.lookup_type_idx i r) s.types.now s.count s.answers (option_map (λ p. (p.0.now, p.1.0)) s.rec_group)
    c.args.number c.requires.below c.interned_index.result given

pub returns-clause-held : goal.returns-clause-held
returns-clause-held g c =
    let s = c.args.self.now in
    coe 0 1 (j. sym (returns-clause-answered g c) j < length s.types.now.list.types)
    (answered-held (λ i r. g.F.TypeLookUp.gives s.lookup_type_idx i r) s.types.now s.count s.answers (option_map (λ p. (p.0.now, p.1.0)) s.rec_group) c.args.number c.requires.below)
