-- Each module has a plan.
use Rattle.std.proofs.Common.{◌≡◌, ◌≢◌, ℕ, zero, suc, ◌+◌, ◌*◌, ◌/◌, ◌-◌, ◌<◌, ◌≤◌, Bool, List, [], ◌∷◌, ◌++◌, length, map, Option, None, Some, ◌⊎◌, inl, inr, refl, sym, ◌∙◌, ap, subst, arith, get_or, mul-zero, eq-zero-or-pos}
use Rattle.std.specs.Prelude.{slice_get}
use Rattle.std.proofs.Math.Logic.{⊎_elim}
use Rattle.std.proofs.Math.Nat.{div-mul-le_self, div-lt_iff_lt-mul}
use Rattle.std.proofs.lemmas.Bool.{cases_lt, cases_eq}
use Rattle.std.proofs.lemmas.List.Elements.{All-nil, All-cons}
use Rattle.std.proofs.lemmas.Option.{none-some, same_Some, slice_get-get_or}
use Rattle.replay_spec.specs.Phases.{last_item}
use Rattle.replay_spec.specs.Data.{ActiveSegment}
use Rattle.replay_spec.specs.Plan.{MemoryPlan, planned_from}
use Rattle.replay_spec.specs.Images.{ImageOptions, ImageMemory, size_of, bytes_on, greatest_end, MemoryImage, written_on, IsFirst, IsLast, IsImage, ImageOf, IsStatic, AreImages, image_map, entries_of, image_bytes, IsMemoryPlan}
use Rattle.replay_spec.specs.Elements.{ActiveElements, DefinedTable}
use Rattle.replay_spec.specs.Tables.{initial_function, kept_initial, image_piece, MayBeTaken, TakesPrefix, image_length, IsTableImage, PlannedTable, TablePlan, IsTablePlan}
use Rattle.replay_spec.proofs.Tight.{within-extent}
use Rattle.replay_spec.proofs.Decided.{Decided, decided-static, decided-taken}

-- ---- lists of the results of a function

abbrev spread : {X : Type 0} → (ℕ → X) → ℕ → List X
spread f zero = []
spread f (suc n) = f 0 ∷ spread (λ k. f (suc k)) n

length-spread : {X : Type 0} (f : ℕ → X) (n : ℕ) → length (spread f n) ≡ n
length-spread f zero = refl
length-spread f (suc n) = ap suc (length-spread (λ k. f (suc k)) n)

get-spread : {X : Type 0} (f : ℕ → X) (n i : ℕ) → i < n → slice_get (spread f n) i ≡ Some (f i)
get-spread f zero i l = absurd (omega arith)
get-spread f (suc n) zero l = refl
get-spread f (suc n) (suc i) l = get-spread (λ k. f (suc k)) n i (omega arith)

is-spread : {X : Type 0} (f : ℕ → X) (n i : ℕ) (x : X) → slice_get (spread f n) i ≡ Some x → f i ≡ x
is-spread f zero i x at = absurd (none-some x at)
is-spread f (suc n) zero x at = same_Some (f 0) x at
is-spread f (suc n) (suc i) x at = is-spread (λ k. f (suc k)) n i x at

-- ---- the image of contents that are zero from some offset on

module _ (c : ℕ → ℕ) where
  one-more : (n : ℕ) → ((q : ℕ) → q < n → c q ≡ 0) → c n ≡ 0 → (q : ℕ) → q < suc n → c q ≡ 0
  one-more n zeros here q l = ⊎_elim (λ (e : q ≡ n). ap c e ∙ here) (λ (ne : q ≢ n). zeros q (omega arith)) (cases_eq q n)

  one-less : (n : ℕ) → ((q : ℕ) → suc n ≤ q → c q ≡ 0) → c n ≡ 0 → (q : ℕ) → n ≤ q → c q ≡ 0
  one-less n past here q le = ⊎_elim (λ (e : q ≡ n). ap c e ∙ here) (λ (ne : q ≢ n). past q (omega arith)) (cases_eq q n)

  first-below : (n : ℕ) → ((q : ℕ) → q < n → c q ≡ 0) ⊎ ((f : ℕ) × IsFirst c f)
  first-below zero = inl (λ q l. absurd (omega arith))
  first-below (suc n) = over (first-below n) where
    over : ((q : ℕ) → q < n → c q ≡ 0) ⊎ ((f : ℕ) × IsFirst c f) → ((q : ℕ) → q < suc n → c q ≡ 0) ⊎ ((f : ℕ) × IsFirst c f)
    over (inr found) = inr found
    over (inl zeros) = ⊎_elim (λ (e : c n ≡ 0). inl (one-more n zeros e)) (λ (ne : c n ≢ 0). inr (n, record { nonzero = ne; before = zeros })) (cases_eq (c n) 0)

  last-below : (n : ℕ) → ((q : ℕ) → n ≤ q → c q ≡ 0) → ((q : ℕ) → c q ≡ 0) ⊎ ((f : ℕ) × IsLast c f)
  last-below zero past = inl (λ q. past q (omega arith))
  last-below (suc n) past = ⊎_elim (λ (e : c n ≡ 0). last-below n (one-less n past e))
      (λ (ne : c n ≢ 0). inr (n, record { nonzero = ne; behind = λ q l. past q (omega arith) })) (cases_eq (c n) 0)

  module _ (page : ℕ) where
    low-high : (first last : ℕ) → first ≤ last → first / page * page ≤ (last / page + 1) * page
    low-high first last order = grind (arith, mul-zero, div-mul-le_self, div-lt_iff_lt-mul, eq-zero-or-pos)

    image-between : (first last : ℕ) → IsFirst c first → IsLast c last → (image : MemoryImage) × IsImage page c image
    image-between first last is_first is_last =
        let start : ℕ = first / page * page in
        let end : ℕ = (last / page + 1) * page in
        let order : first ≤ last = ⊎_elim (λ (l : last < first). absurd (is_last.nonzero (is_first.before last l))) (λ g. g) (cases_lt last first) in
        let forward : start ≤ end = low-high first last order in
        let f : ℕ → ℕ = λ i. c (start + i) in
        let long = length-spread f (end - start) in (
          record { start = start; bytes = spread f (end - start) },
          record {
            first = first;
            last = last;
            is_first = is_first;
            is_last = is_last;
            start = refl;
            end = omega (arith, long, forward);
            bytes = λ i l. sym (is-spread f (end - start) i (get_or (spread f (end - start)) i 0) (slice_get-get_or (spread f (end - start)) i 0 l));
          },
        )

    image-of : (n : ℕ) → ((q : ℕ) → n ≤ q → c q ≡ 0) → (image : Option MemoryImage) × ImageOf page c image
    image-of n past = over (last-below n past) where
      both : (last : ℕ) → IsLast c last → ((q : ℕ) → q < suc last → c q ≡ 0) ⊎ ((f : ℕ) × IsFirst c f) → (image : Option MemoryImage) × ImageOf page c image
      both last is (inl zeros) = absurd (is.nonzero (zeros last (omega arith)))
      both last is (inr first) = let made = image-between first.0 last first.1 is in (Some made.0, made.1)

      over : ((q : ℕ) → c q ≡ 0) ⊎ ((f : ℕ) × IsLast c f) → (image : Option MemoryImage) × ImageOf page c image
      over (inl zeros) = (None, zeros)
      over (inr last) = both last.0 last.1 (first-below (suc last.0))

-- ---- the images of memories

module _ (page : ℕ) (active : List ActiveSegment) where
  zero-past : (m q : ℕ) → greatest_end (bytes_on m active) ≤ q → written_on active m q ≡ 0
  zero-past m q le = grind (arith, within-extent, cases_eq)

  image-on : (m : ℕ) → (image : Option MemoryImage) × ImageOf page (written_on active m) image
  image-on m = image-of (written_on active m) page (greatest_end (bytes_on m active)) (zero-past m)

  -- there are images of so many memories
  pub all-images : (memories : ℕ) → (images : List (Option MemoryImage)) × AreImages page memories active images
  all-images memories =
      let f : ℕ → Option MemoryImage = λ m. (image-on m).0 in
      (spread f memories, record { count = length-spread f memories; each = λ m image at. subst (ImageOf page (written_on active m)) (is-spread f memories m image at) (image-on m).1 })

pub a-memory-plan : (options : ImageOptions) (imports : ℕ) (memories : List ImageMemory) (active : List ActiveSegment) (passive : List (List ℕ))
    → (plan : MemoryPlan) × IsMemoryPlan options imports memories active passive plan
a-memory-plan options imports memories active passive = over (decided-static options imports memories active) where
  over : Decided (IsStatic options imports memories active) → (plan : MemoryPlan) × IsMemoryPlan options imports memories active passive plan
  over (inl static) =
      let all = all-images options.page active (imports + length memories) in (
        record { sizes = map size_of memories; images = image_map 0 all.0; segments = entries_of 0 (image_map 0 all.0); runtime = image_bytes all.0 ++ passive; passive = λ index. None },
        record {
          sizes = refl;
          segments = inl (record { static = static; images = all.0; are_images = all.1; in_map = refl; in_list = refl; runtime = refl });
        },
      )
  over (inr refused) = (
    record { sizes = map size_of memories; images = []; segments = planned_from 0 active; runtime = map (λ s. s.bytes) active ++ passive; passive = λ index. None },
    record { sizes = refl; segments = inr (record { not_static = refused; in_map = refl; in_list = refl; runtime = refl }) },
  )

-- ---- the images of tables

module _ (lazy : Bool) (imports : ℕ) (tables : List DefinedTable) where
  record Prefix (active : List ActiveElements) : Type 0 where
    taken : List ActiveElements
    kept : List ActiveElements
    prefix : TakesPrefix lazy imports tables active taken kept

  longest-prefix : (active : List ActiveElements) → Prefix active
  longest-prefix [] = record { taken = []; kept = []; prefix = record { parts = refl; takes = All-nil (MayBeTaken lazy imports tables); longest = λ s rest e. absurd (cc) } }
  longest-prefix (s ∷ ss) = over (decided-taken lazy imports tables s) (longest-prefix ss) where
    over : Decided (MayBeTaken lazy imports tables s) → Prefix ss → Prefix (s ∷ ss)
    over (inl may) more = record {
      taken = s ∷ more.taken;
      kept = more.kept;
      prefix = record {
        parts = ap (λ xs. s ∷ xs) more.prefix.parts;
        takes = All-cons (MayBeTaken lazy imports tables) s more.taken may more.prefix.takes;
        longest = more.prefix.longest;
      };
    }
    over (inr none) more = record {
      taken = [];
      kept = s ∷ ss;
      prefix = record {
        parts = refl;
        takes = All-nil (MayBeTaken lazy imports tables);
        longest = λ x rest e may. none (let same : x ≡ s = cc in subst (MayBeTaken lazy imports tables) same may);
      };
    }

module _ (lazy : Bool) (taken : List ActiveElements) where
  abbrev cell-of : ℕ → DefinedTable → ℕ → Option ℕ
  cell-of table t place = last_item table place (initial_function t.initial) (map image_piece taken)

  abbrev image-cells : ℕ → DefinedTable → List (Option ℕ)
  image-cells table t = spread (cell-of table t) (image_length lazy taken table t)

  is-image : (table : ℕ) (t : DefinedTable) → IsTableImage lazy taken table t (image-cells table t)
  is-image table t = grind (arith, length-spread, get-spread)

  abbrev planned-at : ℕ → DefinedTable → PlannedTable
  planned-at table t = record { minimum = t.minimum; initial = kept_initial lazy t; image = image-cells table t }

  abbrev planned-tables : ℕ → List DefinedTable → List PlannedTable
  planned-tables table [] = []
  planned-tables table (t ∷ ts) = planned-at table t ∷ planned-tables (table + 1) ts

  minimums : (table : ℕ) (ts : List DefinedTable) → map (λ (t : PlannedTable). t.minimum) (planned-tables table ts) ≡ map (λ (t : DefinedTable). t.minimum) ts
  minimums table [] = refl
  minimums table (t ∷ ts) = ap (λ ns. t.minimum ∷ ns) (minimums (table + 1) ts)

  initials : (table : ℕ) (ts : List DefinedTable) → map (λ (t : PlannedTable). t.initial) (planned-tables table ts) ≡ map (kept_initial lazy) ts
  initials table [] = refl
  initials table (t ∷ ts) = ap (λ es. kept_initial lazy t ∷ es) (initials (table + 1) ts)

  images : (table : ℕ) (ts : List DefinedTable) (i : ℕ) (t : DefinedTable) (planned : PlannedTable) → slice_get ts i ≡ Some t → slice_get (planned-tables table ts) i ≡ Some planned
      → IsTableImage lazy taken (table + i) t planned.image
  images table [] i t planned at found = absurd (none-some t at)
  images table (x ∷ ts) zero t planned at found = grind (arith, same_Some, is-image)
  images table (x ∷ ts) (suc i) t planned at found = grind (arith, (images (table + 1) ts i t planned at found))

pub a-table-plan : (lazy : Bool) (imports : ℕ) (tables : List DefinedTable) (active : List ActiveElements) → (plan : TablePlan) × IsTablePlan lazy imports tables active plan
a-table-plan lazy imports tables active =
    let p = longest-prefix lazy imports tables active in (
      record { tables = planned-tables lazy p.taken imports tables; segments = p.kept },
      record {
        taken = p.taken;
        prefix = p.prefix;
        minimums = minimums lazy p.taken imports tables;
        initials = initials lazy p.taken imports tables;
        images = images lazy p.taken imports tables;
      },
    )
