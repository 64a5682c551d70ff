-- What holds of a registry once a module is registered.
use Rattle.std.proofs.Common.{if◌then◌else◌, ◌≡◌, ◌∙◌, ◌↔◌, ◌<◌, ℕ, zero, suc, ◌+◌, Bool, true, List, [], ◌∷◌, ◌++◌, length, map, get_or, slice_get, drop, Option, Some, None, refl, sym, ap, arith, eq-eqb}
use Rattle.std.proofs.lemmas.Option.{slice_get-get_or, none-some}
use Rattle.std.proofs.lemmas.List.{length-map, append-nil}
use Rattle.std.proofs.lemmas.Bool.{ne_eqb}
use Rattle.type_spec.specs.Interned.{GroupSpan}
use Rattle.wasm_types.specs.declared.sub.WasmSubType.{WasmSubType}
use Rattle.module_types.specs.Views.{span_of}
use Rattle.module_types.specs.TypeList.{TypeList}
use Rattle.type_registry.specs.Registry.{Registry, Group, Groups, GroupsState, indices_of}
use Rattle.module_types.specs.Listed.{list_of}
use Rattle.type_registry.specs.Changes.{Plan, begun, find_group, planned, registered, size_of, keep_groups}
use Rattle.type_registry.specs.Fresh.{MayKeepAll}
use Rattle.type_registry.specs.Standing.{AreAbove, AreOrdered, GroupsAreSound, GroupStands, Stands, MayRegister}
use Rattle.type_registry.proofs.Keeping.{Eq}
use Rattle.type_registry.proofs.KeepingAll.{may-keep-all}
use Rattle.type_registry.proofs.PlanGroups.{planned-new, new-may-keep, may-plan, find-some, find-none}
use Rattle.type_registry.proofs.Sound.{found, AllFirst, keeps-sound, keeps-found, keeps-new, counted-sound, counted-is}
use Rattle.type_registry.proofs.Placed.{ArePlanned, are-planned, planned-at, find-at, first-at}
use Rattle.type_registry.proofs.Telling.{take-get}
use Rattle.type_registry.proofs.Copies.{get-dropped}

-- ---- groups in order

above-differ : (gs : Groups) (n p : ℕ) (e : ℕ × Group) → AreAbove n gs → slice_get gs p ≡ Some e → n < e.0
above-differ [] n p e all at = absurd (none-some e at)
above-differ (x ∷ gs) n zero e all at = grind arith
above-differ (x ∷ gs) n (suc p) e all at = above-differ gs n p e all.1 at

-- each group is found at its first index
entry-found : (gs : Groups) (p f : ℕ) (g : Group) → AreOrdered gs → slice_get gs p ≡ Some (f, g) → found gs f ≡ Some g
entry-found [] p f g ordered at = absurd (none-some (f, g) at)
entry-found (x ∷ gs) zero f g ordered at = grind arith
entry-found (x ∷ gs) (suc p) f g ordered at = grind (arith, found, above-differ, ne_eqb, (entry-found gs p f g ordered.1 at))

all-first : (gs : Groups) → ((p f : ℕ) (g : Group) → slice_get gs p ≡ Some (f, g) → (slice_get g.indices 0 ≡ Some f) × (length g.indices ≡ length g.canonical))
    → AllFirst gs
all-first [] each = tt
all-first (x ∷ gs) each = let here = each 0 x.0 x.1 refl in (here.0, here.1, all-first gs (λ p f g at. each (suc p) f g at))

sound-first : (gs : Groups) → GroupsAreSound gs → AllFirst gs
sound-first gs sound = grind (arith, all-first, entry-found)

first-second : (xs ys : Groups) → AllFirst (xs ++ ys) → AllFirst ys
first-second [] ys all = all
first-second (x ∷ xs) ys all = first-second xs ys all.2

-- ---- the registry

module _ (equal : (x y : List WasmSubType) → (Eq x y ≡ true) ↔ (x ≡ y)) (r : Registry) (l : TypeList) (m : MayRegister r l) where
  abbrev gs : Groups
  gs = r.groups

  abbrev p : Plan
  p = planned r l

  abbrev pub state : GroupsState
  state = record { groups = gs; room = length (indices_of gs) + length (indices_of p.fresh); spare = length p.fresh }

  pub may : MayKeepAll state p.fresh
  may = may-keep-all p.fresh state (new-may-keep state p.fresh (planned-new gs l) (omega (arith, m.fits, m.most)) (omega arith) (omega arith))

  abbrev ss : List GroupSpan
  ss = map span_of l.groups

  all : ArePlanned equal gs l begun ss (length (list_of l).types)
  all =
      are-planned equal gs l begun ss (length (list_of l).types) (may-plan l m.listed m.few) m.listed.well_named.orderly (rw append-nil (sound-first gs m.sound))

  pub new-first : AllFirst p.fresh
  new-first = first-second gs p.fresh all.first

  pub registered-sound : GroupsAreSound (registered r l).groups
  registered-sound = counted-sound (keep_groups gs p.fresh) p.listed.groups (keeps-sound equal p.fresh state m.sound may new-first)

  -- a group that is kept at its first index
  pub record IsKeptAt (g : Group) : Type 0 where
    pub first : ℕ
    pub start : slice_get g.indices 0 ≡ Some first
    pub kept : found (keep_groups gs p.fresh) first ≡ Some g

  pub kept-of : (g : Group) → find_group g.canonical (gs ++ p.fresh) ≡ Some g → IsKeptAt g
  kept-of g among = by (find_group g.canonical gs) refl where
    by : (o : Option Group) → find_group g.canonical gs ≡ o → IsKeptAt g
    by (Some h) e =
        let w = find-at gs g.canonical g (e ∙ sym (find-some gs p.fresh g.canonical h e) ∙ among) in
        let is = entry-found gs w.place w.first g m.sound.ordered w.at in
        record { first = w.first; start = m.sound.firsts w.first g is; kept = keeps-found equal p.fresh state w.first g m.sound may new-first is }
    by None e =
        let w = find-at p.fresh g.canonical g (sym (find-none gs p.fresh g.canonical e) ∙ among) in
        grind (arith, first-at p.fresh w.place w.first g new-first w.at, keeps-new equal p.fresh state w.place (w.first, g) m.sound may new-first w.at)

  stands-group : (k : ℕ) (s : GroupSpan) → slice_get ss k ≡ Some s → GroupStands (registered r l) p.listed.indices l s
  stands-group k s at =
      let w = planned-at equal gs l p ss k s all.each at in
      let x = kept-of w.group w.among in
      let b = counted-is (keep_groups gs p.fresh) p.listed.groups x.first w.group x.kept in
      let first : x.first ≡ get_or p.listed.indices s.start 0 = grind (arith, take-get (drop s.start p.listed.indices) (size_of s) 0, get-dropped, slice_get-get_or) in
      grind arith

  pub registered-stands : Stands (registered r l) r.registrations l
  registered-stands = grind (arith, registered-sound, eq-eqb, all, length-map, stands-group)

  pub others-stand : (k : TypeList) (key : ℕ) → (key ≡ r.registrations → ⊥) → Stands r key k → Stands (registered r l) key k
  others-stand k key differ st = record {
    sound = registered-sound;
    listed = st.listed;
    held = ap (λ (c : Bool). if c then Some p.listed else r.held key) (ne_eqb r.registrations key (λ e. differ (sym e))) ∙ st.held;
    count = st.count;
    groups = λ j s at.
        let g = st.groups j s at in
        let first = get_or st.listed.indices s.start 0 in
        let b = counted-is (keep_groups gs p.fresh) p.listed.groups first g.group (keeps-found equal p.fresh state first g.group m.sound may new-first g.kept) in
        grind arith;
  }
