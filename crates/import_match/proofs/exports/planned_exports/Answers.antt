use Rattle.std.proofs.Common.{◌≡◌, ◌∙◌, ◌∷◌, ◌++◌, [], map, All, inl, inr, sym, ap, subst}
use Rattle.std.proofs.lemmas.Result.{err_from_is_err_and}
use Rattle.std.proofs.lemmas.List.{append-nil, map_push}
use Rattle.std.proofs.lemmas.List.Elements.{All-head, All-push, All-rest}
use Rattle.entity_map.specs.declared.pool.Atom.{Atom}
use Rattle.wasm_types.specs.declared.entity.EntityIndex.{EntityIndex}
use Rattle.wasm_module.specs.Entities.{entity_type}
use Rattle.wasm_module.specs.Record.{record_of}
use Rattle.type_registry.specs.Keys.{key_number}
use Rattle.type_registry.specs.Registry.{registry_of}
use Rattle.import_match.specs.Rules.{types_in, HasEngineTypes}
use Rattle.import_match.specs.Definitions.{Definition, found, IsDefined, AreOnce}
use Rattle.import_match.specs.Kept.{definition_of}
use Rattle.import_match.specs.Linking.{engine_type, exported, IsExportResolved}
use Rattle.import_match.specs.Held.{IsTypeOf}
use Rattle.import_match.proofs.Keeping.{IsNew}
use Rattle.import_match.proofs.Linked.{any-at, planned, next, types-next, pushed, exported-once}
use Rattle.import_match.proofs.Listing.{value_of}
use Rattle.import_match.proofs.exports.planned_exports.Goals as goal

pub returns-in_err-names-clause-err : goal.returns-in_err-names-clause-err
returns-in_err-names-clause-err c =
    let p = err_from_is_err_and c.from_residual-in_err-names.result c.from_residual-in_err-names.ensures.1 in
    let before = c.loop-name.invariant in
    let m = c.args.module.now in
    let x : Atom × EntityIndex = (c.in-Some.name.now, c.in-Some.entity.now) in
    let own = c.get-own.result.now in
    let resolved = All-head (IsExportResolved (record_of m)) x c.next.new.self
    (subst (All (IsExportResolved (record_of m))) c.in-Some.ensures.steps before.resolved)
    in
    let t = value_of (entity_type (record_of m) x.1) resolved.1 in
    let Taken : Definition → Type 0 = λ d. IsDefined c.args.definitions.now d.0 in
    let listed = next c.args.registry.now c.args.key m c.args.as_module.now c.loop-name.name-iterator c.next.new.self x own t.0
    c.in-Some.ensures.steps c.get-own.ensures t.1 (map definition_of c.loop-name.planned.items) before.listed
    in
    rw (p.1, p.2) (
    elim c.in_err-names.ensures.err [
      | inl none ↦ inl none
      | inr duplicate ↦ inr (
        duplicate.0,
        any-at Taken (map definition_of c.loop-name.planned.items)
            (planned c.args.registry.now c.args.key m c.args.as_module.now c.next.new.self)
            (exported c.args.registry.now c.args.key m c.args.as_module.now)
            ((c.args.as_module.now, own), engine_type (registry_of c.args.registry.now) (key_number c.args.key) t.0) listed duplicate.1,
      )
    ]
    )

pub with_engine_types-ty-requires : goal.with_engine_types-ty-requires
with_engine_types-ty-requires c =
    (types-next c.args.registry.now c.args.key c.args.module.now c.args.as_module.now c.loop-name.name-iterator c.next.new.self
    (c.in-Some.name.now, c.in-Some.entity.now) c.get-own.result.now c.type_of.result c.in-Some.ensures.steps c.get-own.ensures c.type_of.ensures
    (λ (d : Definition). All (IsTypeOf (registry_of c.args.registry.now) (key_number c.args.key)) (types_in d.1)) c.loop-name.invariant.types).0

pub loop-name-preserved : goal.loop-name-preserved
loop-name-preserved c =
    let before = c.loop-name.invariant in
    let x : Atom × EntityIndex = (c.in-Some.name.now, c.in-Some.entity.now) in
    let own = c.get-own.result.now in
    let t = c.type_of.result in
    let ps = c.loop-name.planned.items in
    let d : Definition = definition_of (c.in_ok-names.names, c.with_engine_types-ty.result) in
    let grown = c.in_ok-push.ensures.items in
    let listed : map definition_of c.push.new.self.items ≡ map definition_of ps ++ d ∷ [] =
    ap (map definition_of) grown ∙ map_push definition_of ps (c.in_ok-names.names, c.with_engine_types-ty.result)
    in
    record {
      listed =
          pushed c.args.registry.now c.args.key c.args.module.now c.args.as_module.now c.loop-name.name-iterator c.next.new.self x own t
          c.in-Some.ensures.steps c.get-own.ensures c.type_of.ensures ps c.push.new.self.items c.in_ok-names.names c.with_engine_types-ty.result
          grown c.in_ok-names.ensures.names c.with_engine_types-ty.ensures.value before.listed;
      resolved = All-rest (IsExportResolved (record_of c.args.module.now)) x c.next.new.self c.loop-name.name-iterator c.in-Some.ensures.steps before.resolved;
      types =
          (types-next c.args.registry.now c.args.key c.args.module.now c.args.as_module.now c.loop-name.name-iterator c.next.new.self
          x own t c.in-Some.ensures.steps c.get-own.ensures c.type_of.ensures
          (λ (e : Definition). All (IsTypeOf (registry_of c.args.registry.now) (key_number c.args.key)) (types_in e.1)) before.types).1;
      engine =
          subst (All (λ (e : Definition). HasEngineTypes e.1)) (sym listed)
          (All-push (λ (e : Definition). HasEngineTypes e.1) (map definition_of ps) d before.engine c.with_engine_types-ty.ensures.engine);
      new =
          subst (All (IsNew c.args.definitions.now)) (sym listed)
          (All-push (IsNew c.args.definitions.now) (map definition_of ps) d before.new
          (ap (found c.args.definitions.now) c.in_ok-names.ensures.names ∙ c.in_ok-names.ensures.new));
    }

pub returns-clause-once : goal.returns-clause-once
returns-clause-once c =
    let ps = map definition_of c.loop-name.planned.items in
    let m = c.args.module.now in
    let listed : ps ≡ exported c.args.registry.now c.args.key m c.args.as_module.now =
    sym (append-nil ps)
    ∙ ap (λ es. ps ++ planned c.args.registry.now c.args.key m c.args.as_module.now es) (sym c.in-None.ensures.steps.0)
    ∙ c.loop-name.invariant.listed
    in
    subst AreOnce (sym listed)
    (exported-once c.args.registry.now c.args.key m c.args.as_module.now c.requires.can.resolved c.len-texts.ensures.each_once c.len.ensures.unique)
