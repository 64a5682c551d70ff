use Rattle.std.proofs.Common.{◌≡◌, ◌∙◌, ◌+◌, ◌-◌, ◌++◌, ◌∷◌, [], length, map, replicate, sym, ap, arith, length-append}
use Rattle.std.specs.Prelude.{vec_len}
use Rattle.std.proofs.lemmas.List.{length-map, map-append, take_all}
use Rattle.form_reader.specs.Views.{group_of, sub_type_of}
use Rattle.form_types.proofs.Listing.{numbers-more, spans-more}
use Rattle.form_types.proofs.Looking.{length_numbers}
use Rattle.form_types.proofs.Steps.{total-more}
use Rattle.form_types.proofs.distinct.Distinct.push.Goals as goal

pub returns : goal.returns
returns c =
    let gs = map group_of c.args.self.now.groups.items in
    let g = group_of c.args.group in
    let listed = c.requires.listed in
    let count : c.len.result ≡ length g = c.len.ensures ∙ c.args.group.types.ok.0 ∙ sym (length-map c.args.group.types.items sub_type_of) in
    let number : c.len-number.result ≡ 0 + length gs =
    omega (arith, c.len-number.ensures, c.args.self.now.groups.ok.0, length-map c.args.self.now.groups.items group_of) in
    let old = c.args.self.now.numbers in
    let long : length old.items ≡ c.args.self.now.next = ap length listed.numbers_are ∙ length_numbers 0 gs ∙ sym listed.next_is in
    let end = c.args.self.now.next + c.len.result in
    let more : end - vec_len old ≡ length g = omega (arith, count, long, old.ok.0) in
    record {
      groups_are = ap (map group_of) c.in_ok-push-2.ensures.items ∙ map-append group_of c.args.self.now.groups.items (c.args.group ∷ []);
      numbers_are = c.in_ok-resize.ensures.items ∙ (λ i. take_all end old.items (omega (arith, long)) i ++ replicate (more i) (number i))
          ∙ ap (λ l. l ++ replicate (length g) (0 + length gs)) listed.numbers_are ∙ sym (numbers-more 0 gs g);
      spans_are = c.in_ok-push.ensures.items ∙ (λ i. listed.spans_are i ++ (c.args.self.now.next, c.args.self.now.next + count i) ∷ [])
          ∙ sym (spans-more 0 gs g c.args.self.now.next (omega (arith, listed.next_is)));
      next_is = omega (arith, count, listed.next_is, total-more gs g);
      few = omega (arith, length-append gs (g ∷ []), listed.few, c.requires.some, c.len.ensures, c.args.group.types.ok.0);
    }
