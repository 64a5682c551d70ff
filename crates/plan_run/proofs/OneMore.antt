-- One more value, table or piece.
use Rattle.std.proofs.Common.{◌≡◌, ℕ, ◌+◌, ◌-◌, ◌<◌, ◌≤◌, List, [], ◌∷◌, ◌++◌, length, map, get_or, take, replicate, refl, sym, ◌∙◌, ap, arith}
use Rattle.std.specs.Prelude.{All}
use Rattle.std.specs.Global.{Vec}
use Rattle.std.proofs.lemmas.List.{map_push, map_more, map-append, take_all}
use Rattle.std.proofs.lemmas.List.Elements.{All-nil, All-cons, All-head, All-tail, All-push, All-weaker, All-replicate}
use Rattle.replay_spec.specs.Phases.{Piece}
use Rattle.replay_spec.specs.Values as plain
use Rattle.plan_run.specs.declared.elements.ElementPiece.{ElementPiece}
use Rattle.plan_run.specs.declared.value.Value.{Value}
use Rattle.plan_run.specs.declared.value.Node.{Node}
use Rattle.plan_run.specs.Nodes.{Extends, Means, AllMean}
use Rattle.plan_run.specs.Tables.{cells_in, TablesBelow, TablesMean, element_piece, PiecesMean}
use Rattle.plan_run.specs.Values.{value_in, terms_of, imported_value, IsPlain, NamesBelow}
use Rattle.plan_run.proofs.Lists.{map-replicate}
use Rattle.plan_run.proofs.Terms.{longer, kept-values, all-mean-on, all-names-more, plain-mean}

-- ---- two maps, one more item

-- a map of a map of one more item
pub map-two-more : {B C D : Type 0} (h : D → C) (k : B → D) (ys : List B) (i : ℕ) (d : B) → i < length ys
    → map h (map k (take i ys)) ++ h (k (get_or ys i d)) ∷ [] ≡ map h (map k (take (i + 1) ys))
map-two-more h k ys i d l = sym (ap (map h) (map_more k ys i d l) ∙ map_push h (map k (take i ys)) (k (get_or ys i d)))

-- one more item, as a map of a map
pub one-more : {A B C D : Type 0} (f : A → C) (h : D → C) (k : B → D) (xs : List A) (ys : List B) (i : ℕ) (d : B) (x : A) → i < length ys → f x ≡ h (k (get_or ys i d))
    → map f xs ≡ map h (map k (take i ys)) → map f (xs ++ x ∷ []) ≡ map h (map k (take (i + 1) ys))
one-more f h k xs ys i d x l e before = grind (arith, map_push f xs x, map-two-more h k ys i d l)

-- ---- values

module _ {old new : List Node} (e : Extends old new) where
  pub mean-more : {vs : List Value} {meant : List plain.Value} {v : Value} {m : plain.Value} → AllMean old vs meant → Means new v m → AllMean new (vs ++ v ∷ []) (meant ++ m ∷ [])
  mean-more {vs = vs} {v = v} before one =
      let on = all-mean-on e before in record { below = All-push (NamesBelow (length new)) vs v on.below one.below; are = grind (arith, map_push) }

  -- ---- tables

  cells-on : (tables : List (Vec Value)) → TablesBelow (length old) tables → cells_in (terms_of new) tables ≡ cells_in (terms_of old) tables
  cells-on [] below = refl
  cells-on (t ∷ ts) below =
      grind (arith, kept-values e t.items (All-head (λ (x : Vec Value). All (NamesBelow (length old)) x.items) t ts below), cells-on ts (All-tail (λ (x : Vec Value). All (NamesBelow (length old)) x.items) t ts below))

  pub tables-on : {tables : List (Vec Value)} {meant : List (List plain.Value)} → TablesMean old tables meant → TablesMean new tables meant
  tables-on before = grind (arith, longer, all-names-more, All-weaker, cells-on)

  pub tables-more : {tables : List (Vec Value)} {meant : List (List plain.Value)} {m : List plain.Value} (t : Vec Value) → TablesMean old tables meant → AllMean new t.items m
      → TablesMean new (tables ++ t ∷ []) (meant ++ m ∷ [])
  tables-more {tables = tables} t before one = let on = tables-on before in
      record { below = All-push (λ (x : Vec Value). All (NamesBelow (length new)) x.items) tables t on.below one.below; are = grind (arith, map_push) }

  -- ---- pieces

  pieces-same : (pieces : List ElementPiece) → All (λ p. All (NamesBelow (length old)) p.items.items) pieces
      → map (element_piece (terms_of new)) pieces ≡ map (element_piece (terms_of old)) pieces
  pieces-same [] below = refl
  pieces-same (p ∷ ps) below =
      grind (arith, kept-values e p.items.items (All-head (λ (x : ElementPiece). All (NamesBelow (length old)) x.items.items) p ps below), pieces-same ps (All-tail (λ (x : ElementPiece). All (NamesBelow (length old)) x.items.items) p ps below))

  pub pieces-on : {pieces : List ElementPiece} {meant : List (Piece plain.Value)} → PiecesMean old pieces meant → PiecesMean new pieces meant
  pieces-on before = grind (arith, longer, all-names-more, All-weaker, pieces-same)

  pub pieces-more : {pieces : List ElementPiece} {meant : List (Piece plain.Value)} {m : Piece plain.Value} (p : ElementPiece) → PiecesMean old pieces meant
      → All (NamesBelow (length new)) p.items.items → element_piece (terms_of new) p ≡ m → PiecesMean new (pieces ++ p ∷ []) (meant ++ m ∷ [])
  pieces-more {pieces = pieces} p before below one = let on = pieces-on before in
      record { below = All-push (λ (x : ElementPiece). All (NamesBelow (length new)) x.items.items) pieces p on.below below; are = grind (arith, map_push) }

-- equal cells
pub equal-mean : (nodes : List Node) (v : Value) (m : plain.Value) (n : ℕ) → Means nodes v m → AllMean nodes (replicate n v) (replicate n m)
equal-mean nodes v m n one = record { below = All-replicate (NamesBelow (length nodes)) n v one.below; are = map-replicate (value_in (terms_of nodes)) v m n one.is }

-- tables that name no node
pub plain-tables : (nodes : List Node) (tables : List (Vec Value)) → All (λ table. All IsPlain table.items) tables
    → TablesMean nodes tables (map (λ table. map imported_value table.items) tables)
plain-tables nodes [] none = record { below = All-nil (λ (x : Vec Value). All (NamesBelow (length nodes)) x.items); are = refl }
plain-tables nodes (t ∷ ts) none =
    let one = plain-mean nodes t.items (All-head (λ (x : Vec Value). All IsPlain x.items) t ts none) in
    let rest = plain-tables nodes ts (All-tail (λ (x : Vec Value). All IsPlain x.items) t ts none) in
    grind (arith, All-cons)

-- cells that are filled up to a size
pub filled : {A B C : Type 0} (f : A → C) (h : B → C) (xs : List A) (ys : List B) (n count : ℕ) (x : A) (y : B) → f x ≡ h y → map f xs ≡ map h ys → length xs ≤ n
    → n - count ≡ n - length ys → map f (take n xs ++ replicate (n - count) x) ≡ map h ys ++ replicate (n - length ys) (h y)
filled f h xs ys n count x y one before short same = grind (arith, take_all n xs short, map-append f xs (replicate (n - count) x), map-replicate f x (h y) (n - count) one)
