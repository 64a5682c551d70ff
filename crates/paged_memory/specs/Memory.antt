-- How a contract views a memory.
use Rattle.std.specs.Prelude.{ℕ, ◌+◌, ◌-◌, ◌/◌, Bool, true, false, if◌then◌else◌, List, [], ◌∷◌, length, replicate}
use Rattle.paged_memory.specs.Writing.{written}

-- its bytes, how many bytes a page has, and for each page whether it is borrowed
pub record Contents : Type 0 where
  pub bytes : List ℕ
  pub page : ℕ
  pub lent : List Bool

-- how many pages are borrowed
abbrev pub count_lent : List Bool → ℕ
count_lent [] = 0
count_lent (lent ∷ others) = (if lent then 1 else 0) + count_lent others

-- how many pages of one size hold `count` bytes; the last may be shorter
abbrev pub page_count : ℕ → ℕ → ℕ
page_count size count = (count + (size - 1)) / size

-- how many pages hold bytes from an offset on: from the page of the first byte to that of the last
abbrev pub reached : ℕ → ℕ → List ℕ → ℕ
reached size at [] = 0
reached size at (_ ∷ bytes) = (at + length bytes) / size + 1 - at / size

-- of pages, `count` from `first` on become borrowed, or become not borrowed
abbrev pub as_lent : ℕ → ℕ → List Bool → List Bool
as_lent first count pages = written first (replicate count true) pages

abbrev pub not_lent : ℕ → ℕ → List Bool → List Bool
not_lent first count pages = written first (replicate count false) pages
