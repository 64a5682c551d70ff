-- Pages, and the bytes that they hold together.
use Rattle.std.specs.Prelude.{◌≡◌, ℕ, ◌-◌, ◌<◌, ◌≤◌, min, Bool, true, false, IsTrue, List, [], ◌∷◌, ◌++◌, length, map, replicate, slice_index_or}
use Rattle.std.specs.List.{concat}
use Rattle.paged_memory.specs.declared.page.Page.{Page}
use Rattle.paged_memory.specs.declared.page.Page.TheVariants as page

-- what a page holds
abbrev pub page_bytes : Page → List ℕ
page_bytes (page.Zero count) = replicate count 0
page_bytes (page.Lent bytes) = bytes.now
page_bytes (page.Own bytes) = bytes.items

abbrev pub is_own : Page → Bool
is_own (page.Zero count) = false
is_own (page.Lent bytes) = false
is_own (page.Own bytes) = true

abbrev pub is_lent : Page → Bool
is_lent (page.Zero count) = false
is_lent (page.Lent bytes) = true
is_lent (page.Own bytes) = false

abbrev pub parts_of : List Page → List (List ℕ)
parts_of pages = map page_bytes pages

-- the bytes of pages, concatenated
abbrev pub joined : List Page → List ℕ
joined pages = concat (parts_of pages)

-- for each page, whether it is borrowed
abbrev pub lent_of : List Page → List Bool
lent_of pages = map is_lent pages

-- n bytes in parts of one size; the last may be shorter
abbrev pub ArePaged : ℕ → List (List ℕ) → ℕ → Type 0
ArePaged size [] n = n ≡ 0
ArePaged size (p ∷ ps) n = (0 < n) × (length p ≡ min size n) × ArePaged size ps (n - size)

abbrev pub OwnBetween : List Page → ℕ → ℕ → Type 0
OwnBetween pages from until = (k : ℕ) → from ≤ k → k < until → IsTrue (is_own (slice_index_or pages k (page.Zero 0)))

-- parts of n bytes follow others
abbrev pub Continued : ℕ → ℕ → List (List ℕ) → List (List ℕ) → Type 0
Continued size n old new = (more : List (List ℕ)) × (new ≡ old ++ more) × ArePaged size more n
