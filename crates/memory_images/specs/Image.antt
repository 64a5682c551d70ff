-- The span of the bytes that are not zero, and bytes that fill it.
use Rattle.std.specs.Prelude.{◌≡◌, ◌≢◌, ℕ, ◌+◌, ◌-◌, ◌*◌, ◌/◌, ◌^◌, ◌<◌, ◌≤◌, List, length, slice_index, Option, Some, None, min, max}
use Rattle.replay_spec.specs.Images.{IsFirst, IsLast}
use Rattle.memory_images.specs.declared.span.Ends.{Ends}
use Rattle.memory_images.specs.declared.span.PageSpan.{PageSpan}

-- the first and the last of some offsets whose byte is not zero
pub record AreEnds (contents : ℕ → ℕ) (Within : ℕ → Type 0) (ends : Ends) : Type 0 where
  pub first : contents ends.first ≢ 0
  pub last : contents ends.last ≢ 0
  pub between : (place : ℕ) → Within place → contents place ≢ 0 → (ends.first ≤ place) × (place ≤ ends.last)

-- none where every byte is zero
abbrev pub EndsOf : (ℕ → ℕ) → (ℕ → Type 0) → Option Ends → Type 0
EndsOf contents Within None = (place : ℕ) → Within place → contents place ≡ 0
EndsOf contents Within (Some ends) = AreEnds contents Within ends

-- offsets that enclose every byte that is not zero
abbrev pub Bounds : (ℕ → ℕ) → Option Ends → Type 0
Bounds contents None = (place : ℕ) → contents place ≡ 0
Bounds contents (Some ends) = (place : ℕ) → contents place ≢ 0 → (ends.first ≤ place) × (place ≤ ends.last)

-- the ends that enclose both
abbrev pub joined : Option Ends → Option Ends → Option Ends
joined None b = b
joined (Some a) None = Some a
joined (Some a) (Some b) = Some (record { first = min a.first b.first; last = max a.last b.last })

-- whole pages, from the page of the first offset to the end of the last one's; a size past 64 bits
-- is the greatest number
pub record ArePages (page : ℕ) (ends : Ends) (span : PageSpan) : Type 0 where
  pub full : ℕ
  pub start : span.start ≡ ends.first / page * page
  pub end : span.start + full ≡ (ends.last / page + 1) * page
  pub size : span.size ≡ min full (2 ^ 64 - 1)

-- the pages from the first byte that is not zero to the last
pub record IsSpan (page : ℕ) (contents : ℕ → ℕ) (span : PageSpan) : Type 0 where
  pub ends : Ends
  pub is_first : IsFirst contents ends.first
  pub is_last : IsLast contents ends.last
  pub pages : ArePages page ends span

-- no span where every byte is zero
abbrev pub SpanOf : ℕ → (ℕ → ℕ) → Option PageSpan → Type 0
SpanOf page contents None = (place : ℕ) → contents place ≡ 0
SpanOf page contents (Some span) = IsSpan page contents span

-- bytes are the contents from an offset on
abbrev pub Filled : (ℕ → ℕ) → ℕ → List ℕ → Type 0
Filled contents start bytes = (i : ℕ) → i < length bytes → slice_index bytes i ≡ contents (start + i)
