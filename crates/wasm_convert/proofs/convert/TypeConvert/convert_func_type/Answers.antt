use Rattle.std.proofs.Common.{rules, ◌≡◌, ◌∙◌, ◌≤◌, ◌++◌, All, map, length, arith, ap}
use Rattle.std.specs.List.{flat_map}
use Rattle.std.proofs.lemmas.List.{take_all}
use Rattle.wasm_spec.specs.TypeData.{value_edges, map_value}
use Rattle.wasm_spec.specs.TypeData as read
use Rattle.wasm_types.specs.Parts.{split_types}
use Rattle.wasm_types.specs.ValueViews as made
use Rattle.wasm_convert.specs.Known.{CanLookUp}
use Rattle.wasm_convert.proofs.Parts.{all-first, all-second, all-parts}
use Rattle.wasm_convert.proofs.Split.{first-part, second-part}
use Rattle.wasm_convert.proofs.convert.TypeConvert.convert_func_type.Goals as goal

pub convert_valtype-requires : goal.convert_valtype-requires
convert_valtype-requires g c =
    let can = CanLookUp (g.Self.TypeConvert.knows c.args.self.now) in
    let known = all-first can (flat_map (value_edges (λ i. i)) (map read.value_of c.args.ty.now.params.items)) _ c.requires.known in
    let each : All (λ t. All can (value_edges (λ i. i) (read.value_of t))) c.as_slice-ty-items.result.now =
    rw c.as_slice-ty-items.ensures.value (all-parts can (value_edges (λ i. i)) read.value_of c.args.ty.now.params.items known) in
    each c.loop-ty.ty-index _ c.loop-ty-test.true

pub convert_valtype-requires-in-None-number_type : goal.convert_valtype-requires-in-None-number_type
convert_valtype-requires-in-None-number_type g c =
    let can = CanLookUp (g.Self.TypeConvert.knows c.args.self.now) in
    let known = all-second can (flat_map (value_edges (λ i. i)) (map read.value_of c.args.ty.now.params.items)) _ c.requires.known in
    let each : All (λ t. All can (value_edges (λ i. i) (read.value_of t))) c.as_slice-ty-items-2.result.now =
    rw c.as_slice-ty-items-2.ensures.value (all-parts can (value_edges (λ i. i)) read.value_of c.args.ty.now.results.items known) in
    each c.loop-ty-2.ty-index _ c.loop-ty-2-test.true

pub returns : goal.returns
returns g c =
    let look = g.Self.TypeConvert.look_up c.args.self.now in
    let params = c.args.ty.now.params.items in
    let results = c.args.ty.now.results.items in
    let types = c.loop-ty-2.types.items in
    let past : length results ≤ c.loop-ty-2.ty-index = omega (arith, ap length c.as_slice-ty-items-2.ensures.value) in
    let is : map made.value_of types ≡ map (λ t. map_value look (read.value_of t)) (params ++ results) =
    c.loop-ty-2.invariant.converted ∙ ap (λ ts. map (λ t. map_value look (read.value_of t)) (params ++ ts)) (take_all c.loop-ty-2.ty-index results past) in
    let first = first-part made.value_of (map_value look) read.value_of params results types is in
    let second = second-part made.value_of (map_value look) read.value_of params results types is in
    let split : c.from_types.result ≡ split_types (length params) types = search rules in
    rw split (λ i. record { params = first i; results = second i })
