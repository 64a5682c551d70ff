-- Cells that are written over an image.
use Rattle.std.proofs.Common.{◌≡◌, ◌≢◌, ℕ, ◌+◌, ◌-◌, ◌<◌, ◌≤◌, List, ◌++◌, length, get_or, set, take, replicate, Option, None, Some, arith}
use Rattle.std.specs.Prelude.{slice_get, unwrap_or}
use Rattle.std.specs.Global.{Vec}
use Rattle.std.proofs.Math.ListN.{length-set, length-replicate}
use Rattle.std.proofs.lemmas.Bool.{cases_eq, cases_lt, leb-true, le-leb}
use Rattle.std.proofs.lemmas.List.{length-append, length-map, length-take, map-append, map-set, take_all, get_or-take, get_or-set_same, get_or-set_other, get_or_append_left, get_or-append_right, get_or-replicate, get_or_past}
use Rattle.std.proofs.lemmas.Option.{slice_get-map, slice_get-get_or, slice_get_past, unwrap_or-slice_get, same_Some}
use Rattle.wasm_index.specs.declared.index.Index.{Index}
use Rattle.wasm_index.specs.declared.spaces.FuncSpace.{FuncSpace}
use Rattle.wasm_index.specs.Index.{index_of}
use Rattle.replay_spec.specs.Phases.{Piece, item_at}
use Rattle.table_images.specs.Steps.{OverlaysCells, LaysCells, LaysAt, grown, images_of}
use Rattle.table_images.specs.Views.{image_of}
use Rattle.table_images.proofs.CellsStand.{cells-replicate}

pub get-set-same : {A : Type 0} (xs : List A) (k : ℕ) (x : A) → k < length xs → slice_get (set xs k x) k ≡ Some x
get-set-same xs k x l = grind (arith, slice_get-get_or (set xs k x) k x, length-set, get_or-set_same)

pub get-set-other : {A : Type 0} (xs : List A) (k j : ℕ) (x : A) → j ≢ k → slice_get (set xs k x) j ≡ slice_get xs j
get-set-other xs k j x ne = grind (arith, cases_lt j (length xs), slice_get-get_or xs j x, slice_get-get_or (set xs k x) j x, slice_get_past, length-set, get_or-set_other)

take-one-other : (xs : List (Option ℕ)) (i k : ℕ) → k ≢ i → slice_get (take i xs) k ≡ slice_get (take (i + 1) xs) k
take-one-other xs i k ne = grind (arith, cases_lt k (length xs), slice_get-get_or (take i xs) k None, slice_get-get_or (take (i + 1) xs) k None, slice_get_past (take i xs) k, slice_get_past (take (i + 1) xs) k, length-take, get_or-take)

take-one-same : (xs : List (Option ℕ)) (i : ℕ) → i < length xs → slice_get (take (i + 1) xs) i ≡ Some (get_or xs i None)
take-one-same xs i l = grind (arith, slice_get-get_or (take (i + 1) xs) i None, length-take, get_or-take)

abbrev piece : ℕ → List (Option ℕ) → Piece (Option ℕ)
piece place cells = record { object = 0; offset = place; items = cells }

item-other : (place p i : ℕ) (cells : List (Option ℕ)) → p ≢ place + i → item_at 0 p (piece place (take i cells)) ≡ item_at 0 p (piece place (take (i + 1) cells))
item-other place p i cells ne = grind (arith, leb-true, take-one-other)

item-same : (place i : ℕ) (cells : List (Option ℕ)) → i < length cells → item_at 0 (place + i) (piece place (take (i + 1) cells)) ≡ Some (get_or cells i None)
item-same place i cells l = grind (arith, le-leb place (place + i) (omega arith), take-one-same cells i l)

pub overlay-more : (place i : ℕ) (cells old new : List (Option ℕ)) (x : Option ℕ) → i < length cells → place + length cells ≤ length old → x ≡ get_or cells i None
    → OverlaysCells place (take i cells) old new → OverlaysCells place (take (i + 1) cells) old (set new (place + i) x)
overlay-more place i cells old new x l within is h = grind (arith, get-set-other, item-other, cases_eq, length-set new (place + i) x, item-same place i cells l, get-set-same new (place + i) x (omega arith))

-- ---- an image that grows

get-grown : (image : List (Option ℕ)) (n p : ℕ) → unwrap_or (slice_get (image ++ replicate n None) p) None ≡ unwrap_or (slice_get image p) None
get-grown image n p = grind (arith, cases_lt p (length image), cases_lt p (length image + n), unwrap_or-slice_get, get_or_append_left, get_or-append_right, get_or-replicate, get_or_past, length-replicate)

pub lays-grown : (place : ℕ) (cells old between new : List (Option ℕ)) → between ≡ grown (place + length cells) old → OverlaysCells place cells between new → LaysCells place cells old new
lays-grown place cells old between new e h = grind (arith, length-append, length-replicate, get-grown)

pub grown-cells : (old new : List (Index FuncSpace)) (end len : ℕ) (r : Index FuncSpace) → len ≡ length old → len < end
    → new ≡ take end old ++ replicate (end - len) r → r ≡ index_of 4294967295 → image_of new ≡ grown end (image_of old)
grown-cells old new end len r e lt is reserved = grind (arith, take_all, length-map, map-append, cells-replicate)

-- ---- one of all images

pub lays-at : (place : ℕ) (cells : List (Option ℕ)) (images : List (Vec (Index FuncSpace))) (k : ℕ) (v w : Vec (Index FuncSpace)) → k < length images
    → LaysCells place cells (image_of (get_or images k v).items) (image_of w.items) → LaysAt k place cells (images_of images) (images_of (set images k w))
lays-at place cells images k v w l h = grind (arith, map-set, length-map, slice_get-map, slice_get-get_or, length-set, same_Some, get-set-same, get-set-other)
