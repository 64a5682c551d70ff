-- The offset of a segment in its memory.
use Rattle.std.proofs.Common.{◌≡◌, ℕ, ◌+◌, ◌-◌, ◌^◌, ◌<◌, ◌≤◌, List, length, map, Some, sym, ◌∙◌, ap, arith}
use Rattle.std.specs.Prelude.{slice_get}
use Rattle.std.specs.Option.{option_map}
use Rattle.std.proofs.lemmas.Option.{slice_get-map}
use Rattle.wasm_types.specs.declared.memory.Memory.{Memory}
use Rattle.replay_spec.specs.Values.{Value, const_value}
use Rattle.replay_spec.specs.Data.{ActiveSegment}
use Rattle.replay_spec.specs.Images.{size_of, index_of, index_of_constant, IsPlaced, start_of}
use Rattle.replay_spec.proofs.Placed.{start-placed}
use Rattle.memory_images.specs.Views.{image_memory}

-- a segment in defined memory number n, at an offset of its index type
module _ (imports : ℕ) (defined : List Memory) (s : ActiveSegment) (n : ℕ) (memory : Memory) (v : Value) (place : ℕ) (number : n ≡ s.memory - imports)
    (found : slice_get defined n ≡ Some memory) (is : const_value s.offset ≡ Some v) (index : index_of (image_memory memory).wide v ≡ Some place) where
  at : slice_get (map image_memory defined) (s.memory - imports) ≡ Some (image_memory memory)
  at = ap (slice_get (map image_memory defined)) (sym number) ∙ slice_get-map image_memory defined n ∙ ap (option_map image_memory) found

  pub placed : imports ≤ s.memory → place + length s.bytes ≤ size_of (image_memory memory) → size_of (image_memory memory) < 2 ^ 64
      → IsPlaced imports (map image_memory defined) s × (start_of s ≡ place)
  placed low within known =
      let p : IsPlaced imports (map image_memory defined) s = record {
        memory = image_memory memory;
        place = place;
        defined = low;
        is_memory = at;
        constant = ap (index_of_constant (image_memory memory).wide) is ∙ index;
        within = within;
        known = omega arith;
      } in
      (p, start-placed imports (map image_memory defined) s p)

  -- a segment that ends past its memory has no placement
  pub past_end : size_of (image_memory memory) < place + length s.bytes → IsPlaced imports (map image_memory defined) s → ⊥
  past_end past p = grind (arith, at)
