use Rattle.std.proofs.Common.{ℕ, length, ap, arith}
use Rattle.std.specs.List.{flat_map}
use Rattle.std.proofs.lemmas.List.Elements.{All-rest}
use Rattle.wasm_spec.specs.Module.{GlobalDef}
use Rattle.form_reader.specs.Views.{global_of}
use Rattle.form_rules.proofs.Taking.{taken}
use Rattle.module_sections.specs.Convertible.{IsConvertible}
use Rattle.module_sections.specs.Escapes.{referred}
use Rattle.module_sections.specs.EscapeLog.{EscapeLog}
use Rattle.module_sections.proofs.Filling.{here_still, noted_more}
use Rattle.module_sections.proofs.GatheredGlobals.{known_more, left_more}
use Rattle.module_sections.proofs.globals.first_globals.Goals as goal

pub convert_expression-requires : goal.convert_expression-requires
convert_expression-requires g c =
    let knows = (goal.TypeConvert-dyn g c.args.env.now).knows c.args.env.now.1 in
    let at = taken _ _ _ _ _ c.if-branch.true c.in_ok-advance.ensures c.entry.ensures in
    here_still _ _ (global_of c.entry.result.now) at (λ (n : ℕ) (x : GlobalDef). IsConvertible knows n x.init)
    _ _ (ap (λ (f : EscapeLog). f.count) c.loop-globals.invariant.noted) c.loop-globals.invariant.convertible

pub add-requires : goal.add-requires
add-requires g c = omega (arith, ap length (taken _ _ _ _ _ c.if-branch.true c.in_ok-advance.ensures c.entry.ensures), c.loop-globals.invariant.few)

pub loop-globals-preserved : goal.loop-globals-preserved
loop-globals-preserved g c =
    let env = goal.TypeConvert-dyn g c.args.env.now in
    let look = env.look_up c.args.env.now.1 in
    let at = taken _ _ _ _ _ c.if-branch.true c.in_ok-advance.ensures c.entry.ensures in
    let global = global_of c.entry.result.now in
    let had = c.loop-globals.invariant in
    let ops = c.in_ok-initialiser.initialiser in
    let is = c.in_ok-initialiser.ensures.converted in
    let adds = c.in_ok-add.ensures in
    record {
      convertible = All-rest (λ (x : GlobalDef). IsConvertible (env.knows c.args.env.now.1) c.args.escaping.now.count x.init) global _ _ at had.convertible;
      few = omega (arith, ap length at, had.few, adds.counted);
      known = known_more look c.loop-globals.first c.add.new.self global _ _ ops at is adds _ had.known;
      left = left_more look c.loop-globals.first c.add.new.self global _ _ ops at is adds _ had.left;
      noted = noted_more c.loop-globals.escaping c.convert_expression.new.escaping _ (referred global.init) _ _ c.in_ok-initialiser.ensures.noted
          (ap (flat_map (λ (x : GlobalDef). referred x.init)) at) had.noted;
    }
