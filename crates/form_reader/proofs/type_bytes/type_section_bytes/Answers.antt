use Rattle.std.proofs.Common.{◌≡◌, ◌≤◌, [], refl, arith, length, drop, inl, inr}
use Rattle.std.proofs.lemmas.List.{drop_all}
use Rattle.form_reader.specs.TypeBytes.{contents_of}
use Rattle.form_reader.proofs.type_bytes.type_section_bytes.Goals as goal

pub returns-in-None : goal.returns-in-None
unfolding contents_of
returns-in-None c =
    let short : length c.args.wasm.now ≤ 8 = elim c.in-None.ensures.lookup.0 [ inl lt ↦ omega (arith, lt) | inr lt ↦ omega (arith, lt) ] in
    let none : drop 8 c.args.wasm.now ≡ [] = drop_all 8 c.args.wasm.now short in
    rw none refl
