use Rattle.std.proofs.Common.{◌++◌, ◌∷◌, [], ap, ◌∙◌, length, get_or, map, arith, length-append}
use Rattle.std.specs.List.{enumerate_from}
use Rattle.std.proofs.lemmas.List.{take_all}
use Rattle.wasm_index.specs.Index.{number_of}
use Rattle.wasm_types.specs.declared.index.EngineOrModuleTypeIndex.{EngineOrModuleTypeIndex}
use Rattle.module_sections.proofs.Typed.{typed, typed-is, typed-more, typed-all}
use Rattle.module_sections.proofs.functions.function_types.Goals as goal

pub loop-ty-preserved : goal.loop-ty-preserved
loop-ty-preserved c =
    let i = c.loop-ty.ty-index in
    let functions = c.args.functions.now in
    let push = c.in_ok-push.ensures.ok in
    let lt = c.loop-ty-test.true in
    let numbered = c.number-func_ref.ensures.number in
    let ty = c.index-indices-ty.result in
    let appended = push ∙ ap (λ (s : EngineOrModuleTypeIndex). c.loop-ty.types ++ (record { signature = s; func_ref = c.number-func_ref.result }) ∷ []) c.index-indices-ty.is in (
      omega (arith, simp length-append at (ap length push), c.loop-ty.invariant.0),
      typed-more c.args.declared.now c.args.escaping.now.order functions i c.loop-ty.types c.push.new.self _ lt c.loop-ty.invariant.1
          (typed-is c.args.declared.now c.as_slice-indices.result.now c.args.escaping.now.order i (get_or functions i 0)
          (number_of c.next_key.result) ty c.number-func_ref.result
          (c.requires.types i 0 lt) c.as_slice-indices.ensures numbered (ap number_of c.next_key.ensures ∙ c.loop-ty.invariant.0)) appended,
    )

pub returns : goal.returns
returns c = λ m is of.
    c.loop-ty.invariant.1
    ∙ ap (λ l. map (typed c.args.declared.now c.args.escaping.now.order) (enumerate_from 0 l))
    (take_all c.loop-ty.ty-index c.args.functions.now c.loop-ty-test.false)
    ∙ typed-all m c.args.declared.now c.args.escaping.now.order c.args.functions.now is of
