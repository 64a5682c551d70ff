use Rattle.std.proofs.Common.{◌≡◌, ◌∙◌, true, false, Err, ◌+◌, ◌<◌, length, refl, sym, ap, arith}
use Rattle.std.proofs.lemmas.Result.{err_from_is_err_and}
use Rattle.std.proofs.lemmas.List.{length-map}
use Rattle.wasm_spec.specs.Module.{Module}
use Rattle.module_types.specs.Views.{interned_of}
use Rattle.module_types.specs.Builder.{Builder, builder_view}
use Rattle.interned_types.specs.Types.{AreTypesOf}
use Rattle.interned_types.proofs.InTurn.{Interns, interns-none, interns-next, names, room, listed-long, listed-all, built-all, few-all, held-all}
use Rattle.interned_types.proofs.NoMemory.{no-memory}
use Rattle.interned_types.proofs.types.intern_types.Goals as goal

pub loop-place-init : goal.loop-place-init
loop-place-init c = λ m of. rw c.in_ok-indices.ensures (interns-none of (builder_view c.args.builder.now) c.requires.new)

pub intern_type-requires-clause-holds : goal.intern_type-requires-clause-holds
intern_type-requires-clause-holds c = (c.loop-place.invariant c.requires.of_module.0 c.requires.of_module.1).holds

pub intern_type-requires-clause-named : goal.intern_type-requires-clause-named
intern_type-requires-clause-named c =
    let of = c.requires.of_module in
    names (c.loop-place.invariant of.0 of.1) (omega (arith, c.loop-place-test.true, c.core_type_count_in_module-count.ensures))
    c.core_type_at_in_module-id.ensures.id

pub intern_type-requires-clause-room : goal.intern_type-requires-clause-room
intern_type-requires-clause-room c = λ sound.
    let of = c.requires.of_module in
    room (c.loop-place.invariant of.0 of.1) (omega (arith, c.loop-place-test.true, c.core_type_count_in_module-count.ensures))
    c.core_type_at_in_module-id.ensures.id

pub returns-in_err-index-clause-memory : goal.returns-in_err-index-clause-memory
returns-in_err-index-clause-memory c =
    let sound = ap (λ (b : Builder). b.is_poisoned) (c.loop-place.invariant c.requires.of_module.0 c.requires.of_module.1).alone in
    let p = err_from_is_err_and c.from_residual-in_err-index.result c.from_residual-in_err-index.ensures.1 in
    let memory = no-memory c.in_err-index.field-0.0
    (λ same. absurd (let no : true ≡ false = sym (c.intern_type.ensures.poisoned.0 (c.in_err-index.was ∙ ap Err same)) ∙ sound in cc)) in
    rw (p.1, p.2, memory) refl

pub returns-in_err-indices-clause-stops : goal.returns-in_err-indices-clause-stops
returns-in_err-indices-clause-stops c =
    rw (err_from_is_err_and c.from_residual.result c.from_residual.ensures.1).1 (λ sound. (0, c.requires.new))

pub returns-in_err-push-clause-stops : goal.returns-in_err-push-clause-stops
returns-in_err-push-clause-stops c =
    let of = c.requires.of_module in
    let p = err_from_is_err_and c.from_residual-in_err-push.result c.from_residual-in_err-push.ensures.1 in
    let next = interns-next (c.loop-place.invariant of.0 of.1) (omega (arith, c.loop-place-test.true, c.core_type_count_in_module-count.ensures))
    c.core_type_at_in_module-id.ensures.id (builder_view c.intern_type.new.self) c.in_ok-index.index c.in_ok-index.ensures.interned
    c.in_ok-index.ensures.index in
    rw p.1 (λ sound. (c.loop-place.place + 1, next.after))

pub push-requires : goal.push-requires
push-requires c =
    let of = c.requires.of_module in
    let lt : c.loop-place.place < length c.args.types.now.declared = omega
    (arith, c.loop-place-test.true, c.core_type_count_in_module-count.ensures) in
    omega (arith, listed-long (c.loop-place.invariant of.0 of.1) lt, lt, of.1.numbered.each, of.1.few)

pub loop-place-preserved : goal.loop-place-preserved
loop-place-preserved c = λ m of.
    rw c.in_ok-push.ensures.ok (interns-next (c.loop-place.invariant m of) (omega (arith, c.loop-place-test.true, c.core_type_count_in_module-count.ensures))
    c.core_type_at_in_module-id.ensures.id (builder_view c.intern_type.new.self) c.in_ok-index.index c.in_ok-index.ensures.interned
    c.in_ok-index.ensures.index)

-- ---- all were interned

module _ (c : goal.After-loop-place) where
  ended : (m : Module) (of : AreTypesOf m c.args.types.now)
      → Interns m c.args.types.now of (builder_view c.loop-place.builder) (length c.args.types.now.declared) c.loop-place.indices
  ended m of =
      let end : c.loop-place.place ≡ length c.args.types.now.declared =
      omega (arith, c.loop-place-test.false, c.loop-place.auto.place-end, c.core_type_count_in_module-count.ensures) in
      rw end at c.loop-place.invariant m of

  long : length (builder_view c.loop-place.builder).built.types ≡ length c.loop-place.builder.list.types
  long = length-map c.loop-place.builder.list.types interned_of

pub returns-clause-indices : goal.returns-clause-indices
returns-clause-indices c = λ m of. listed-all (ended c m of)

pub returns-clause-built : goal.returns-clause-built
returns-clause-built c = λ m of. built-all (ended c m of)

pub returns-clause-whole : goal.returns-clause-whole
returns-clause-whole c = (ended c c.requires.of_module.0 c.requires.of_module.1).after

pub returns-clause-held : goal.returns-clause-held
returns-clause-held c = rw (← long c) (held-all (ended c c.requires.of_module.0 c.requires.of_module.1))

pub returns-clause-few : goal.returns-clause-few
returns-clause-few c = omega (arith, long c, few-all (ended c c.requires.of_module.0 c.requires.of_module.1))

pub returns-clause-alone : goal.returns-clause-alone
returns-clause-alone c = (c.loop-place.invariant c.requires.of_module.0 c.requires.of_module.1).alone
