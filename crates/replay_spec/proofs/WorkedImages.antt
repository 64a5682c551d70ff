-- The worked examples of images.
use Rattle.std.proofs.lemmas.Grind.{common_steps}
use Rattle.std.proofs.Common.{◌≡◌, ◌≢◌, ℕ, zero, suc, ◌+◌, ◌<◌, ◌≤◌, subst, inl, List, [], ◌∷◌, All, Some, refl, sym, ap, arith}
use Rattle.std.specs.Prelude.{slice_get, slice_index, negsuc}
use Rattle.wasm_spec.specs.declared.operators.Operator.TheVariants.{I32Const}
use Rattle.replay_spec.specs.Values.{I32}
use Rattle.std.proofs.Math.Logic.{⊎_elim}
use Rattle.std.proofs.lemmas.Option.{none-some, same_Some}
use Rattle.replay_spec.specs.Data.{ActiveSegment, active_segments}
use Rattle.replay_spec.specs.Images.{ImageMemory, image_memory_of, index_of_constant, size_of, IsPlaced, bytes_on, least_start, greatest_end, IsStatic, MayBeImage, written_on, IsImage}
use Rattle.replay_spec.specs.Worked.{ends_at_minus_one}
use Rattle.rule_spec.specs.WorkedKept.{one_page, overlapping}
use Rattle.replay_spec.specs.WorkedImages.{images_wanted, images_below, one_memory, leading_zeros, zeros_alone, image_at}
use Rattle.replay_spec.proofs.Placed.{last-covered}
use Rattle.replay_spec.proofs.Tight.{least-stands, greatest-stands}

-- no byte is written before the least start, and none from the greatest end on
pub zero-before : (active : List ActiveSegment) (m place : ℕ) → place < least_start active → written_on active m place ≡ 0
zero-before active m place lt = grind (arith, least-stands, last-covered)

pub zero-behind : (active : List ActiveSegment) (m place : ℕ) → greatest_end active ≤ place → written_on active m place ≡ 0
zero-behind active m place le = grind (arith, greatest-stands, last-covered)

placed : All (IsPlaced 0 one_memory) (active_segments overlapping)
placed zero d l = record { memory = image_memory_of one_page; place = 16; defined = omega arith; is_memory = refl; constant = refl; within = omega arith; known = omega arith }
placed (suc zero) d l = record { memory = image_memory_of one_page; place = 17; defined = omega arith; is_memory = refl; constant = refl; within = omega arith; known = omega arith }
placed (suc (suc k)) d l = absurd (omega arith)

small : (m : ℕ) (memory : ImageMemory) → slice_get one_memory m ≡ Some memory → bytes_on (0 + m) (active_segments overlapping) ≢ []
    → MayBeImage images_wanted memory (bytes_on (0 + m) (active_segments overlapping))
small m memory h1 h2 = grind (arith, same_Some, none-some)

small-below : (most m : ℕ) (memory : ImageMemory) → slice_get one_memory m ≡ Some memory → bytes_on (0 + m) (active_segments overlapping) ≢ []
    → MayBeImage (images_below most) memory (bytes_on (0 + m) (active_segments overlapping))
small-below most m memory h1 h2 =
    let wanted = small m memory h1 h2 in
    record { page = wanted.page; dense = ⊎_elim (λ close. inl close) (λ below. absurd (omega arith)) wanted.dense }

pub static-below : (most : ℕ) → IsStatic (images_below most) 0 one_memory (active_segments overlapping)
static-below most = record { enabled = refl; placed = placed; images = small-below most }

pub is_static : IsStatic images_wanted 0 one_memory (active_segments overlapping)
is_static = record { enabled = refl; placed = placed; images = small }

pub not_static : IsStatic images_wanted 0 one_memory (active_segments ends_at_minus_one) → ⊥
not_static s =
    let p : IsPlaced 0 one_memory (record { memory = 0; offset = I32Const (negsuc 0) ∷ []; bytes = [] }) =
    s.placed 2 (record { memory = 0; offset = I32Const (negsuc 0) ∷ []; bytes = [] }) (omega arith) in
    let same : image_memory_of one_page ≡ p.memory = same_Some (image_memory_of one_page) p.memory p.is_memory in
    let c : Some 4294967295 ≡ Some p.place = subst (λ (x : ImageMemory). index_of_constant x.wide (Some (I32 4294967295)) ≡ Some p.place) (sym same) p.constant in
    let place : 4294967295 ≡ p.place = same_Some 4294967295 p.place c in
    let w = p.within in
    let size : size_of (image_memory_of one_page) ≡ size_of p.memory = ap size_of same in
    absurd (omega arith)

overlap-bytes : (i : ℕ) → i < 4 → slice_index (1 ∷ 9 ∷ 3 ∷ 0 ∷ []) i ≡ written_on (active_segments overlapping) 0 (16 + i)
overlap-bytes i h1 = grind (arith, common_steps)

pub overlap-image : IsImage 4 (written_on (active_segments overlapping) 0) (image_at 16 (1 ∷ 9 ∷ 3 ∷ 0 ∷ []))
overlap-image = record {
  first = 16;
  last = 18;
  is_first = record { nonzero = λ e. let h : ◌≡◌ {A = ℕ} 1 0 = e in omega arith; before = λ q lt. zero-before (active_segments overlapping) 0 q lt };
  is_last = record { nonzero = λ e. let h : ◌≡◌ {A = ℕ} 3 0 = e in omega arith; behind = λ q lt. zero-behind (active_segments overlapping) 0 q (omega arith) };
  start = refl;
  end = refl;
  bytes = overlap-bytes;
}

leading-before : (q : ℕ) → q < 2 → written_on (active_segments leading_zeros) 0 q ≡ 0
leading-before q h1 = grind (arith, common_steps)

leading-bytes : (i : ℕ) → i < 2 → slice_index (7 ∷ 0 ∷ []) i ≡ written_on (active_segments leading_zeros) 0 (2 + i)
leading-bytes i h1 = grind (arith, common_steps)

pub leading-image : IsImage 2 (written_on (active_segments leading_zeros) 0) (image_at 2 (7 ∷ 0 ∷ []))
leading-image = record {
  first = 2;
  last = 2;
  is_first = record { nonzero = λ e. let h : ◌≡◌ {A = ℕ} 7 0 = e in omega arith; before = leading-before };
  is_last = record { nonzero = λ e. let h : ◌≡◌ {A = ℕ} 7 0 = e in omega arith; behind = λ q lt. zero-behind (active_segments leading_zeros) 0 q (omega arith) };
  start = refl;
  end = refl;
  bytes = leading-bytes;
}

pub no-image : (place : ℕ) → written_on (active_segments zeros_alone) 0 place ≡ 0
no-image place = grind (arith, zero-behind)
