use Rattle.std.proofs.Common.{◌≡◌, ◌∙◌, ◌<◌, ◌≤◌, ◌+◌, ◌-◌, ◌++◌, ℕ, List, Option, Some, length, take, slice_set, refl, ap, arith}
use Rattle.std.proofs.Math.ListN.{replicate}
use Rattle.std.specs.Prelude.{vec_len}
use Rattle.entity_map.specs.Entity.{reserved_number}
use Rattle.entity_map.proofs.PackedLemmas.{unpacked-index}
use Rattle.entity_map.proofs.Written.{written-within, written-grown}
use Rattle.wasm_index.specs.Index.{number_of}
use Rattle.module_types.specs.Builder.{noted}
use Rattle.module_types.specs.IndicesByKey.{noted_at, note_of, notes_of}
use Rattle.module_types.proofs.Holding.{noted-written}
use Rattle.module_types.proofs.indices_by_key.IndicesByKey.note.Goals as goal

pub returns-then-place-len : goal.returns-then-place-len
returns-then-place-len g c =
    let xs = c.self.inside.items.items in
    let n = c.args.number in
    let k = number_of c.args.index in
    let v = c.as_u32-noted.result in
    let within : n < length xs = omega (arith, c.if-place-len.true, c.len.ensures) in
    let is : note_of v ≡ Some k = ap note_of c.as_u32-noted.ensures ∙ unpacked-index (λ k. k) k c.requires in
    (λ j m. (ap (λ ys. noted_at (notes_of ys) m) (written-within reserved_number xs n v within) ∙ noted-written reserved_number v k refl is xs n m) j)
    ∙ ap (λ (notes : List (Option ℕ)). noted (noted_at notes) n k) c.self.view_is

pub returns : goal.returns
returns g c =
    let xs = c.self.inside.items.items in
    let n = c.args.number in
    let k = number_of c.args.index in
    let v = c.as_u32-noted.result in
    let past : vec_len c.self.inside.items ≤ n = omega (arith, c.if-place-len.false, c.len.ensures) in
    let long : vec_len c.self.inside.items ≡ length xs = c.self.inside.items.ok.0 in
    let grown : c.resize.new.self.items ≡ take (n + 1) xs ++ replicate (n + 1 - vec_len c.self.inside.items) reserved_number = c.in_ok-resize.ensures.items in
    let is : note_of v ≡ Some k = ap note_of c.as_u32-noted.ensures ∙ unpacked-index (λ k. k) k c.requires in
    (λ j m. (ap (λ ys. noted_at (notes_of (slice_set ys n v)) m) grown
    ∙ ap (λ ys. noted_at (notes_of ys) m) (written-grown reserved_number xs n (vec_len c.self.inside.items) v long past)
    ∙ noted-written reserved_number v k refl is xs n m) j)
    ∙ ap (λ (notes : List (Option ℕ)). noted (noted_at notes) n k) c.self.view_is
