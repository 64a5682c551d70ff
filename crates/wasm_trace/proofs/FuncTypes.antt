-- The edges and the frame of a function type whose two lists are joined.
use Rattle.std.proofs.Common.{◌≡◌, ◌∙◌, ℕ, List, ◌++◌, length, map, take, drop, refl, sym, ap}
use Rattle.std.specs.List.{flat_map}
use Rattle.std.proofs.lemmas.Grind.{flat_map-append}
use Rattle.std.proofs.lemmas.List.{map-append, take-append-drop, take-map, drop-map}
use Rattle.std.proofs.Math.Seq.{take-append_seam, drop-append_seam}
use Rattle.wasm_spec.specs.TypeData.{function_edges, value_edges, map_function, map_value}
use Rattle.type_spec.specs.Shapes.{erased}
use Rattle.type_spec.specs.Names.{index_of, named}
use Rattle.type_spec.specs.ListLaws.{map-twice}
use Rattle.wasm_types.specs.declared.value.WasmValType.{WasmValType}
use Rattle.wasm_types.specs.Parts.{FuncParts, split_types}
use Rattle.wasm_types.specs.ValueViews.{value_of}
use Rattle.wasm_types.specs.TypeViews.{function_of}

pub edges-joined : (t : FuncParts)
    → flat_map (value_edges index_of) (map value_of (t.params ++ t.results)) ≡ function_edges index_of (function_of t)
edges-joined t =
    ap (flat_map (value_edges index_of)) (map-append value_of t.params t.results)
    ∙ flat_map-append (value_edges index_of) (map value_of t.params) (map value_of t.results)

pub edges-split : (n : ℕ) (types : List WasmValType)
    → function_edges index_of (function_of (split_types n types)) ≡ flat_map (value_edges index_of) (map value_of types)
edges-split n types =
    sym (edges-joined (split_types n types)) ∙ ap (λ ts. flat_map (value_edges index_of) (map value_of ts)) (take-append-drop n types)

pub frame-split : (t : FuncParts) (types : List WasmValType)
    → map (map_value (named erased)) (map value_of types) ≡ map (map_value (named erased)) (map value_of (t.params ++ t.results))
    → map_function (named erased) (function_of (split_types (length t.params) types)) ≡ map_function (named erased) (function_of t)
frame-split t types kept =
    let n = length t.params in
    let all = t.params ++ t.results in
    let whole : (ts : List WasmValType) → map (map_value (named erased)) (map value_of ts) ≡ map (λ x. map_value (named erased) (value_of x)) ts =
    map-twice value_of (map_value (named erased)) (λ x. map_value (named erased) (value_of x)) (λ x. refl) in
    let same = sym (whole types) ∙ kept ∙ whole all in
    let params = whole (take n types) ∙ sym (take-map (λ x. map_value (named erased) (value_of x)) n types) ∙ ap (take n) same
    ∙ take-map (λ x. map_value (named erased) (value_of x)) n all ∙ sym (whole (take n all))
    ∙ ap (λ ts. map (map_value (named erased)) (map value_of ts)) (take-append_seam t.params t.results) in
    let results = whole (drop n types) ∙ sym (drop-map (λ x. map_value (named erased) (value_of x)) n types) ∙ ap (drop n) same
    ∙ drop-map (λ x. map_value (named erased) (value_of x)) n all ∙ sym (whole (drop n all))
    ∙ ap (λ ts. map (map_value (named erased)) (map value_of ts)) (drop-append_seam t.params t.results) in
    λ i. record { params = params i; results = results i }
