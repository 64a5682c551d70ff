use Rattle.std.proofs.Common.{◌≡◌, ◌∙◌, ◌++◌, ◌∷◌, [], Some, None, length, map, sym, ap, subst, arith}
use Rattle.std.specs.Vec.{with_items}
use Rattle.std.specs.List.{range_with_len}
use Rattle.std.proofs.lemmas.List.{length-map, with_items_is}
use Rattle.wasm_spec.specs.TypeData.{map_group}
use Rattle.form_reader.specs.Views.{group_of, sub_type_of}
use Rattle.form_types.specs.EarlierTypes.{ids_of}
use Rattle.form_types.specs.Placed.{placed, named_index}
use Rattle.form_types.specs.Finding.{next_key, first_of}
use Rattle.form_types.specs.Distinct.{KeepsGroups}
use Rattle.form_types.specs.Adding.{AddsBy}
use Rattle.form_types.proofs.numbering.Numbering.add_group.Goals as goal

pub returns-in_ok-push_row-in-Some-clause-adds : goal.returns-in_ok-push_row-in-Some-clause-adds
returns-in_ok-push_row-in-Some-clause-adds c =
    let g = group_of c.args.group in
    let key = c.name_key.new.key in
    let long : c.len-count.result ≡ length g = omega (arith, c.len-count.ensures, c.args.group.types.ok.0, length-map c.args.group.types.items sub_type_of) in
    let found : Some c.in-Some.first ≡ first_of c.args.self.now.first_ids key = sym c.in-Some.is ∙ c.in_ok-first.ensures.found in
    record {
      key = key;
      key_is = c.name_key.ensures.key g c.requires.read ∙ (λ k. next_key (ids_of (c.deref.ensures.value k)) (placed g));
      adds = subst (λ o. AddsBy c.args.self.now (record c.args.self.now { first_ids = c.find_or_note.new.first_ids; key = key; declared = c.push_row.new.ids }) g key o) found (record {
        ids = c.in_ok-push_row-in-Some.ensures ∙ ap (λ n. ids_of c.args.self.now.declared.items ++ range_with_len c.in-Some.first n) long;
        listed = c.requires.listed;
        met = rw c.in-Some.is at c.in_ok-first.ensures.noted;
      });
    }

pub returns-in_ok-push-in-None-clause-adds : goal.returns-in_ok-push-in-None-clause-adds
returns-in_ok-push-in-None-clause-adds c =
    let g = group_of c.args.group in
    let key = c.name_key.new.key in
    let long : c.len-count.result ≡ length g = omega (arith, c.len-count.ensures, c.args.group.types.ok.0, length-map c.args.group.types.items sub_type_of) in
    let found : None ≡ first_of c.args.self.now.first_ids key = sym c.in-None.is ∙ c.in_ok-first.ensures.found in
    let kept : length c.name_group.new.types ≡ c.args.group.types.len = c.name_group.auto.types ∙ c.as_mut_slice.ensures.len in
    let named : map sub_type_of (with_items c.args.group.types c.name_group.new.types).items ≡ map_group (named_index (ids_of c.push_row-in-None.new.ids.items)) (named_index (ids_of c.push_row-in-None.new.ids.items)) g =
    ap (map sub_type_of) (with_items_is c.args.group.types c.name_group.new.types kept) ∙ c.name_group.ensures
    ∙ (λ i. map_group (named_index (ids_of (c.deref-in-None.ensures.value i))) (named_index (ids_of (c.deref-in-None.ensures.value i)))
    (map sub_type_of (c.as_mut_slice.ensures.value i))) in
    record {
      key = key;
      key_is = c.name_key.ensures.key g c.requires.read ∙ (λ k. next_key (ids_of (c.deref.ensures.value k)) (placed g));
      adds = subst (λ o. AddsBy c.args.self.now (record c.args.self.now { first_ids = c.find_or_note.new.first_ids; distinct = c.push.new.self; key = key; declared = c.push_row-in-None.new.ids }) g key o) found (record {
        ids = c.in_ok-push_row-in-None.ensures ∙ ap (λ n. ids_of c.args.self.now.declared.items ++ range_with_len c.args.self.now.distinct.next n) long;
        listed = subst (λ x. KeepsGroups c.push.new.self (map group_of c.args.self.now.distinct.groups.items ++ x ∷ [])) named c.in_ok-push-in-None.ensures;
        met = rw c.in-None.is at c.in_ok-first.ensures.noted;
      });
    }
