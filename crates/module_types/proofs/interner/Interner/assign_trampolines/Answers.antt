use Rattle.std.proofs.Common.{◌∙◌, length, ap, arith}
use Rattle.std.proofs.lemmas.Grind.{common_steps}
use Rattle.type_spec.specs.Interned.{assign_trampoline, composite_at}
use Rattle.wasm_index.specs.Index.{number_of}
use Rattle.module_types.specs.Interner.{built}
use Rattle.module_types.proofs.GroupMembers.{along-none, along-more, along-room}
use Rattle.module_types.proofs.interner.Interner.assign_trampolines.Goals as goal

pub loop-i-init : goal.loop-i-init
loop-i-init c = record { along = along-none (built c.args.self.now) c.args.first c.requires.sound.orderly; found = c.requires.sound.found }

pub assign_trampoline-requires-clause-room : goal.assign_trampoline-requires-clause-room
assign_trampoline-requires-clause-room c =
    let room = along-room (built c.args.self.now) (built c.loop-i.self) c.args.first c.loop-i.i c.loop-i.invariant.along (grind (arith, common_steps)) in
    let now = built c.loop-i.self in
    omega (arith, room, c.requires.room, ap (λ n. length (assign_trampoline now n (composite_at now.types n)).types) (ap number_of c.new.ensures))

pub loop-i-preserved : goal.loop-i-preserved
loop-i-preserved c = record {
  found = c.in_ok-assign_trampoline.ensures.found;
  along = along-more (built c.args.self.now) (built c.loop-i.self) c.args.first c.loop-i.i c.loop-i.invariant.along (grind (arith, common_steps))
      (built c.assign_trampoline.new.self)
      (c.in_ok-assign_trampoline.ensures.built ∙ ap (λ n. assign_trampoline (built c.loop-i.self) n (composite_at (built c.loop-i.self).types n)) (ap number_of c.new.ensures));
}
