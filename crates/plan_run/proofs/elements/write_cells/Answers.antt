use Rattle.std.proofs.Common.{◌≡◌, ◌+◌, ◌-◌, ◌≤◌, ◌∙◌, ◌++◌, length, take, ap, sym, refl, arith, rules}
use Rattle.std.specs.Prelude.{All}
use Rattle.std.specs.Vec.{with_items}
use borrow.Rule.Slice.PartMut.{post_of}
use Rattle.std.proofs.lemmas.List.{length-map}
use Rattle.std.proofs.lemmas.List.Elements.{All-set}
use Rattle.std.proofs.lemmas.Option.{slice_get_read, same_Some}
use Rattle.paged_memory.specs.Writing.{written}
use Rattle.plan_run.specs.Tables.{element_piece}
use Rattle.plan_run.specs.Values.{value_in, values_in, NamesBelow}
use Rattle.plan_run.proofs.CellSteps.{map-written, all-written, part-written}
use Rattle.plan_run.proofs.Lists.{all-at}
use Rattle.plan_run.proofs.PieceSteps.{writes-true}
use Rattle.plan_run.proofs.elements.write_cells.Goals as goal

pub returns : goal.returns
returns c =
    let tables = c.args.tables.now.items in
    let piece = c.args.piece.now in
    let items = piece.items.items in
    let x = c.index_mut.result.now in
    let xs = c.deref_mut.result.now in
    let part = c.copy_from_slice.new.self in
    let n = piece.place + c.len-count.result - piece.place in
    let one = slice_get_read tables (length tables) piece.table c.index.result.now refl c.requires c.index.ensures in
    let at = slice_get_read tables (length tables) piece.table x refl c.requires c.index_mut.ensures.value in
    let same = ap (λ t. length t.items) (same_Some c.index.result.now x (sym one ∙ at)) in
    let fits = c.is_within.ensures.0 c.if-not-is_within.false in
    let ok_table = c.index.result.now.ok.0 in
    let l : piece.place + length items ≤ length x.items = omega arith in
    let new = with_items x (take piece.place xs ++ (part ++ post_of piece.place n xs)) in
    let is : new.items ≡ written piece.place items x.items =
    part-written x xs part items piece.place n c.deref_mut.ensures.value (c.copy_from_slice.ensures.after ∙ c.deref.ensures.value) (omega arith) x.ok.0 l in
    record {
      writes = λ terms.
          let long_items = length-map items (value_in terms) in
          let long_table = length-map x.items (value_in terms) in
          writes-true (λ t. values_in terms t.items) tables piece.table x at (element_piece terms piece) refl new (omega arith)
          (ap (values_in terms) is ∙ map-written (value_in terms) piece.place items x.items);
      below = λ k below all. All-set (λ t. All (NamesBelow k) t.items) tables piece.table new
          (rw is (all-written (NamesBelow k) piece.place items x.items all (all-at (λ t. All (NamesBelow k) t.items) tables piece.table x below at))) below;
      count = search rules;
    }
