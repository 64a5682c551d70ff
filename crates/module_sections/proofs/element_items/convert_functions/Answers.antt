use Rattle.std.proofs.Common.{◌≡◌, ◌∙◌, ◌+◌, ◌∷◌, ◌++◌, [], ℕ, map, take, get_or, ap, sym}
use Rattle.std.proofs.lemmas.List.{map-append, take_more}
use Rattle.wasm_index.specs.declared.index.Index.{Index}
use Rattle.wasm_index.specs.declared.spaces.FuncSpace.{FuncSpace}
use Rattle.wasm_index.specs.Index.{number_of}
use Rattle.module_sections.specs.EscapeLog.{after_escapes}
use Rattle.module_sections.proofs.NotingEscapes.{noted-both}
use Rattle.module_sections.proofs.element_items.convert_functions.Goals as goal

pub loop-index-preserved : goal.loop-index-preserved
loop-index-preserved c =
    let xs = c.args.indices.now in
    let i = c.loop-index.index-index in
    let n = get_or xs i 0 in
    let f = c.from_u32-function.result in
    let at : number_of f ≡ n = ap (λ (x : Index FuncSpace). number_of x) c.from_u32-function.ensures in
    let more = take_more xs i 0 c.loop-index-test.true in
    record {
      converted = ap (map (λ (x : Index FuncSpace). number_of x)) c.in_ok-push.ensures.items
          ∙ map-append (λ (x : Index FuncSpace). number_of x) c.loop-index.functions.items (f ∷ [])
          ∙ (λ j. c.loop-index.invariant.converted j ++ at j ∷ []) ∙ sym more;
      noted = noted-both c.args.escaping.now c.loop-index.escaping c.note_escape.new.self (take i xs) (n ∷ []) (take (i + 1) xs) c.loop-index.invariant.noted
          (c.in_ok-note_escape.ensures ∙ ap (λ (m : ℕ). after_escapes c.loop-index.escaping (m ∷ [])) at) more;
    }
