use Rattle.std.proofs.Common.{◌≡◌, ◌+◌, ◌∙◌, ℕ, Result, Err, inl, inr, length, drop, sym, ap, arith}
use Rattle.std.proofs.lemmas.List.{length-map}
use Rattle.std.proofs.lemmas.Result.{err_from_is_err_and}
use Rattle.wasm_module.specs.Record.{record_of}
use Rattle.import_match.specs.declared.error.LinkError.{LinkError}
use Rattle.import_match.specs.declared.error.LinkError.TheVariants as error
use Rattle.type_registry.specs.Keys.{key_number}
use Rattle.type_registry.specs.Registry.{registry_of}
use Rattle.import_match.specs.Linking.{engine_definition, wants_of, wanted}
use Rattle.import_match.proofs.Answered.{before_all, run, stops, goes-on, ends}
use Rattle.import_match.proofs.Linked.{wants-length}
use Rattle.import_match.proofs.imports.resolve_imports.Goals as goal

same_error : (x y : LinkError) → ◌≡◌ {A = Result ℕ LinkError} (Err x) (Err y) → x ≡ y
same_error x y same = cc

pub returns-in_err-number : goal.returns-in_err-number
returns-in_err-number c =
    let p = err_from_is_err_and c.from_residual-in_err-number.result c.from_residual-in_err-number.ensures.1 in
    let ds = c.args.definitions.now in
    let ws = wanted c.args.registry.now c.args.key c.args.module.now in
    rw (p.1, p.2) (
    elim c.in_err-number.ensures [
      | inl none ↦ inl (ap (λ (y : LinkError). Err y) (same_error c.in_err-number.field-0.0 error.OutOfMemory none))
      | inr is ↦ inr (sym (stops ds ws c.loop-place.place c.loop-place.numbers.items c.loop-place.invariant c.in_err-number.field-0.0 is))
    ]
    )

pub loop-place-preserved : goal.loop-place-preserved
loop-place-preserved c =
    let ds = c.args.definitions.now in
    let ws = wanted c.args.registry.now c.args.key c.args.module.now in
    let place = c.loop-place.place in
    elim c.in_ok-number.ensures [
      | inl none ↦ absurd cc
      | inr is ↦ ap (λ l. before_all l (run ds (place + 1) (drop (place + 1) ws))) c.in_ok-push.ensures.items
          ∙ goes-on ds ws place c.loop-place.numbers.items c.loop-place.invariant c.in_ok-number.number is
    ]

pub returns : goal.returns
returns c =
    let m = record_of c.args.module.now in
    let ws = wanted c.args.registry.now c.args.key c.args.module.now in
    let size : length ws ≡ length m.initializers =
    length-map (wants_of m) (engine_definition (registry_of c.args.registry.now) (key_number c.args.key)) ∙ wants-length m c.requires.can.resolved
    in
    inr (sym (ends c.args.definitions.now ws c.loop-place.place c.loop-place.numbers.items c.loop-place.invariant
    (omega (arith, size, c.loop-place-test.false, c.len-count.ensures))))
