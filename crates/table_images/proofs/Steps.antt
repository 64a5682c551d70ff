-- One more segment in the images.
use Rattle.std.proofs.Common.{◌≡◌, ◌≢◌, ℕ, zero, suc, ◌+◌, ◌-◌, ◌<◌, ◌≤◌, Bool, true, false, List, [], ◌∷◌, ◌++◌, length, get_or, map, take, drop, replicate, Option, None, Some, refl, sym, ◌∙◌, ap, arith}
use Rattle.std.specs.Prelude.{slice_get, unwrap_or, max, ◌==◌, if◌then◌else◌}
use Rattle.std.proofs.Math.ListN.{length-replicate}
use Rattle.std.proofs.lemmas.Bool.{cases_Bool, cases_lt, cases_eq, eq-eqb, ne_eqb, cond-true, cond-false, false≢true}
use Rattle.std.proofs.lemmas.List.{map-append, map_more, drop_more, take-append-drop, length-map, get_or-replicate}
use Rattle.std.proofs.lemmas.List.Elements.{All-nil, All-push}
use Rattle.std.proofs.lemmas.Option.{same_Some, slice_get-map, slice_get-get_or, slice_get_within, slice_get_past}
use Rattle.wasm_types.specs.declared.table.Table.{Table}
use Rattle.wasm_module.specs.declared.table_initialization.TableInitialValue.{TableInitialValue}
use Rattle.wasm_module.specs.declared.table_initialization.TableSegment.{TableSegment}
use Rattle.replay_spec.specs.Phases.{item_at, last_item}
use Rattle.replay_spec.specs.Elements.{ActiveElements, DefinedTable}
use Rattle.replay_spec.specs.Tables.{image_cells, constant_place, image_piece, elements_end, initial_function, is_imaged_from_start, kept_initial, MayBeTaken, end_on, IsTableImage, TakesPrefix}
use Rattle.replay_spec.proofs.Replay.{last-append}
use Rattle.replay_spec.proofs.Covering.{item-cover}
use Rattle.replay_spec.proofs.TablesJoined.{past-image}
use Rattle.table_images.specs.declared.spot.Spot.{Spot}
use Rattle.table_images.specs.Steps.{IsSpot, LaysCells, LaysAt, first_image, AreTableImages}
use Rattle.table_images.specs.Views.{items_of, active_elements_of, defined_tables_of}
use Rattle.table_images.proofs.Tables.{defined-at, made-of}

-- ---- the rule

module _ (imported : ℕ) (ts : List Table) (vs : List TableInitialValue) (s : TableSegment) where
  -- a segment that the code moves into an image is one that the definitions allow
  pub spot-taken : (spot : Spot) → IsSpot imported ts vs s spot → MayBeTaken true imported (defined_tables_of ts vs) (active_elements_of s)
  spot-taken spot is = grind (arith, defined-at ts vs _ is.table is.value is.is_table is.is_value, is.place)

  pub taken-spot : MayBeTaken true imported (defined_tables_of ts vs) (active_elements_of s) → (spot : Spot) × IsSpot imported ts vs s spot
  taken-spot may = (record { table = (active_elements_of s).table - imported; place = may.place }, grind (arith, made-of ts vs _ may.table may.is_table))

-- ---- images

last-push : (m p : ℕ) (d : Option ℕ) (taken : List ActiveElements) (a : ActiveElements) → last_item m p d (map image_piece (taken ++ a ∷ []))
    ≡ unwrap_or (item_at m p (image_piece a)) (last_item m p d (map image_piece taken))
last-push m p d taken a = ap (last_item m p d) (map-append image_piece taken (a ∷ [])) ∙ last-append m p d (map image_piece taken) (image_piece a ∷ [])

end-here : (m : ℕ) (taken : List ActiveElements) (a : ActiveElements) → a.table ≡ m → end_on m (taken ++ a ∷ []) ≡ max (end_on m taken) (elements_end a)
end-here m [] a on = let e : (a.table == m) ≡ true = eq-eqb a.table m on in rw e (omega arith)
end-here m (s ∷ ss) a on = grind (arith, (end-here m ss a on))

end-there : (m : ℕ) (taken : List ActiveElements) (a : ActiveElements) → a.table ≢ m → end_on m (taken ++ a ∷ []) ≡ end_on m taken
end-there m [] a off = let e : (a.table == m) ≡ false = ne_eqb a.table m off in rw e refl
end-there m (s ∷ ss) a off = grind (arith, (end-there m ss a off))

item-moved : (k m start begin place : ℕ) (items : List (Option ℕ)) → k ≡ m → begin ≡ start
    → item_at 0 place (record { object = 0; offset = begin; items = items }) ≡ item_at m place (record { object = k; offset = start; items = items })
item-moved k m start begin place items e f = let on = eq-eqb k m e in rw (on, f) refl

module _ (imports : ℕ) (ds : List DefinedTable) (taken : List ActiveElements) (a : ActiveElements) (table place : ℕ) (may : MayBeTaken true imports ds a)
    (on_table : a.table ≡ imports + table) (at_place : constant_place a.offset ≡ Some place) where
  starts-at : unwrap_or (constant_place a.offset) 0 ≡ place
  starts-at = ap (λ o. unwrap_or o 0) at_place

  -- the image that the segment is written to
  step-here : (m : ℕ) (d : DefinedTable) (old new : List (Option ℕ)) → a.table ≡ m → slice_get ds (a.table - imports) ≡ Some d → LaysCells place (image_cells a.items) old new
      → IsTableImage true taken m d old → IsTableImage true (taken ++ a ∷ []) m d new
  step-here m d old new on at lays prior =
      let same : may.table ≡ d = same_Some may.table d (sym may.is_table ∙ at) in
      let keeps : kept_initial true d ≡ None = ap (kept_initial true) (sym same) ∙ may.keeps_none in
      let min : may.table.minimum ≡ d.minimum = ap (λ (t : DefinedTable). t.minimum) same in
      let offset : may.place ≡ place = same_Some may.place place (sym may.constant ∙ at_place) in
      let w = may.within in
      let start = starts-at in
      let reach = lays.reach in
      let was = prior.reach in
      let within : place + length (image_cells a.items) ≤ d.minimum = omega arith in
      let end = end-here m taken a on in
      record {
        reach = grind (arith, cases_Bool (is_imaged_from_start true d), cond-true, cond-false);
        cells = λ p l.
            grind (arith, cases_lt p (length old), slice_get_past, past-image true taken m p d keeps, lays.cells_at p l, prior.cells p, item-moved a.table m (unwrap_or (constant_place a.offset) 0) place p (image_cells a.items) on (sym start), last-push m p (initial_function d.initial) taken a);
      }

  -- any other image
  step-there : (m : ℕ) (d : DefinedTable) (image : List (Option ℕ)) → a.table ≢ m → IsTableImage true taken m d image → IsTableImage true (taken ++ a ∷ []) m d image
  step-there m d image off prior = grind (arith, end-there, item-cover, last-push)

  pub step : (images more : List (List (Option ℕ))) → LaysAt table place (image_cells a.items) images more → AreTableImages true imports ds taken images
      → AreTableImages true imports ds (taken ++ a ∷ []) more
  step images more lays prior =
      record {
        count = lays.count ∙ prior.count;
        takes = All-push (MayBeTaken true imports ds) taken a prior.takes may;
        each = λ i d image at found. grind (arith, cases_eq i table, slice_get_within more i image found, slice_get-get_or images i image, step-here (imports + i) d (get_or images i image) image, step-there (imports + i) d image, lays.here, lays.there i, prior.each i d);
      }

-- ---- before any segment

pub get-replicate : {A : Type 0} (x : A) (n p : ℕ) → p < n → slice_get (replicate n x) p ≡ Some x
get-replicate x n p l = grind (arith, slice_get-get_or (replicate n x) p x, length-replicate, get_or-replicate)

first-reach : (b : Bool) (n : ℕ) (cell : Option ℕ) → length (if b then replicate n cell else []) ≡ (if b then n else 0)
first-reach b n cell = grind (arith, length-replicate)

first-cells : (b : Bool) (n : ℕ) (cell : Option ℕ) (p : ℕ) → p < length (if b then replicate n cell else []) → slice_get (if b then replicate n cell else []) p ≡ Some cell
first-cells b n cell p l = grind (arith, get-replicate, length-replicate)

pub first-images : (lazy : Bool) (imports : ℕ) (ds : List DefinedTable) (images : List (List (Option ℕ))) → images ≡ map (first_image lazy) ds
    → AreTableImages lazy imports ds [] images
first-images lazy imports ds images e = grind (arith, length-map, All-nil, same_Some, slice_get-map, first-reach, first-cells)

-- ---- a loop over the segments

map-drop-at : {A B : Type 0} (f : A → B) (xs : List A) (n : ℕ) (y : B) (rest : List B) → map f (drop n xs) ≡ y ∷ rest → slice_get (map f xs) n ≡ Some y
map-drop-at f xs zero y rest e = ap (λ ys. slice_get ys 0) e
map-drop-at f [] (suc n) y rest e = ap (λ ys. slice_get ys 0) e
map-drop-at f (x ∷ xs) (suc n) y rest e = map-drop-at f xs n y rest e

module _ (imported : ℕ) (ts : List Table) (vs : List TableInitialValue) (segments : List TableSegment) (i : ℕ) (s : TableSegment) (is_segment : s ≡ get_or segments i s) (within : i < length segments) where
  pub advance : (images more : List (List (Option ℕ))) (spot : Spot) → IsSpot imported ts vs s spot → LaysAt spot.table spot.place (image_cells (items_of s.elements)) images more
      → AreTableImages true imported (defined_tables_of ts vs) (map active_elements_of (take i segments)) images
      → AreTableImages true imported (defined_tables_of ts vs) (map active_elements_of (take (i + 1) segments)) more
  advance images more spot is lays prior =
      rw (map_more active_elements_of segments i s within, ← is_segment)
      (step imported (defined_tables_of ts vs) (map active_elements_of (take i segments)) (active_elements_of s) spot.table spot.place
      (spot-taken imported ts vs s spot is) (grind arith) is.place images more lays prior)

  pub stopped : ((spot : Spot) → IsSpot imported ts vs s spot → ⊥) → (a : ActiveElements) (rest : List ActiveElements)
      → map active_elements_of (drop i segments) ≡ a ∷ rest → MayBeTaken true imported (defined_tables_of ts vs) a → ⊥
  stopped none a rest begins may =
      let same : active_elements_of s ≡ a = grind (arith, ap (map active_elements_of) (drop_more segments i s within)) in
      let spot = taken-spot imported ts vs s (rw same may) in
      none spot.0 spot.1

pub ended : (segments : List TableSegment) (a : ActiveElements) (rest : List ActiveElements) → map active_elements_of (drop (length segments) segments) ≡ a ∷ rest → ⊥
ended segments a rest begins = grind (arith, slice_get_within, map-drop-at, length-map)

pub takes-prefix : (imported : ℕ) (ds : List DefinedTable) (segments : List TableSegment) (n : ℕ) (images : List (List (Option ℕ)))
    → AreTableImages true imported ds (map active_elements_of (take n segments)) images
    → ((a : ActiveElements) (rest : List ActiveElements) → map active_elements_of (drop n segments) ≡ a ∷ rest → MayBeTaken true imported ds a → ⊥)
    → TakesPrefix true imported ds (map active_elements_of segments) (map active_elements_of (take n segments)) (map active_elements_of (drop n segments))
takes-prefix imported ds segments n images h stops = grind (arith, map-append active_elements_of (take n segments) (drop n segments), take-append-drop n segments)

-- where no image is wanted no segment is moved
pub takes-none : (imported : ℕ) (ds : List DefinedTable) (active : List ActiveElements) → TakesPrefix false imported ds active [] active
takes-none imported ds active = grind (arith, All-nil, false≢true)
