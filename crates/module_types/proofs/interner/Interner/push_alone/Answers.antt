use Rattle.std.proofs.Common.{◌∙◌, [], ◌∷◌, length, sym, ap, arith}
use Rattle.std.proofs.lemmas.List.{length-map}
use Rattle.std.specs.declared.ops.Range.{Range}
use Rattle.wasm_index.specs.Index.{index_of}
use Rattle.module_types.specs.Views.{TypeIndex, interned_of, span_of}
use Rattle.module_types.specs.TypeList.{TypeList, with_type, with_range}
use Rattle.module_types.specs.Held.{built_of}
use Rattle.module_types.specs.Orderly.{IsOrderly}
use Rattle.module_types.specs.Interner.{known, built}
use Rattle.module_types.specs.MappedTypes.{mapped_at, AreFoundByDigest}
use Rattle.module_types.proofs.GroupMembers.{few-groups, orderly-more}
use Rattle.module_types.proofs.Chaining.{known-on, linked-on}
use Rattle.module_types.proofs.Steps.{alone-is}
use Rattle.module_types.proofs.interner.Interner.push_alone.Goals as goal

pub push_rec_group-requires : goal.push_rec_group-requires
push_rec_group-requires c =
    let l = c.args.self.now.list in
    let few = few-groups (built c.args.self.now) c.requires.sound.orderly in
    let same = ap (λ (m : TypeList). length m.groups) c.in_ok-start.ensures.ok in
    omega (arith, length-map l.types interned_of, length-map l.groups span_of)

pub returns-clause-built : goal.returns-clause-built
returns-clause-built c =
    let i = c.args.self.now in
    let range : Range TypeIndex = record { start = c.in_ok-start.start; end = c.next_ty-end.result } in
    let listed = c.in_ok-push_rec_group.ensures.ok ∙ ap (λ l. with_range l range) c.in_ok-start.ensures.ok in
    ap (λ (l : TypeList). built_of l (mapped_at l.types i.mapped_types)) listed
    ∙ ap (built_of (with_range (with_type i.list c.args.ty c.args.trampoline) range)) (known-on i.list.types (c.args.ty ∷ []) i.mapped_types c.requires.sound.found)
    ∙ alone-is i.list (known i) c.args.ty c.args.trampoline range c.in_ok-start.ensures.index
    (c.next_ty-end.ensures ∙ ap (λ l. index_of (length l.types)) c.in_ok-start.ensures.ok)

pub returns-clause-types : goal.returns-clause-types
returns-clause-types c = ap (λ (l : TypeList). l.types) c.in_ok-push_rec_group.ensures.ok ∙ ap (λ (l : TypeList). l.types) c.in_ok-start.ensures.ok

pub returns-clause-sound : goal.returns-clause-sound
returns-clause-sound c =
    let i = c.args.self.now in
    record {
      orderly = coe 0 1 (j. IsOrderly (sym (returns-clause-built c) j)) (orderly-more (built i) (interned_of c.args.ty) [] c.requires.sound.orderly);
      found = coe 0 1 (j. AreFoundByDigest (sym (returns-clause-types c) j) i.mapped_types) (linked-on i.list.types (c.args.ty ∷ []) i.mapped_types c.requires.sound.found);
    }
