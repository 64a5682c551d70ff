-- One group more is numbered.
use Rattle.std.proofs.Common.{◌≡◌, ◌≢◌, ◌∙◌, ℕ, zero, suc, ◌+◌, ◌-◌, ◌<◌, ◌≤◌, List, [], ◌∷◌, ◌++◌, length, get_or, take, Bool, true, false, cond, nat_le, Option, Some, None, refl, sym, ap, subst, arith, inl, inr, length-append}
use Rattle.std.specs.List.{All, AllPairs}
use Rattle.std.proofs.lemmas.Bool.{cases_lt, leb-true, leb-false}
use Rattle.std.proofs.lemmas.List.{length-map, append-nil, get_or_append_left, get_or_default, get_or_push, take-append-le}
use Rattle.std.proofs.Math.Seq.{take-length}
use Rattle.std.proofs.lemmas.List.Concat.{flat_map-append}
use Rattle.std.proofs.lemmas.List.Elements.{All-map, All-weaker}
use Rattle.std.proofs.lemmas.List.Folds.{length-flat_map-take}
use Rattle.std.proofs.lemmas.List.Quantifiers.{all_pairs_push}
use Rattle.wasm_spec.specs.declared.types.UnpackedIndex.{UnpackedIndex}
use Rattle.wasm_spec.specs.declared.types.UnpackedIndex.TheVariants.{Id}
use Rattle.wasm_spec.specs.TypeData.{Group, map_group, group_edges}
use Rattle.type_spec.specs.TypeShapes.{group_shape}
use Rattle.type_spec.specs.Names.{plainly, alike-mapped}
use Rattle.type_spec.specs.Equality.{Earlier, target, target_by, Home, home, canonical}
use Rattle.type_spec.proofs.ByNames.{zip-known-itself}
use Rattle.type_spec.proofs.Homes.{size, Holds, home-within, home-again, home-before, home-last, size-more}
use Rattle.type_spec.proofs.Numbers.{TellApart}
use Rattle.form_types.specs.declared.canonical.CanonicalGroup.{CanonicalGroup}
use Rattle.form_types.specs.contracts.canonical.CanonicalGroupPartialEq.TheImpl as group
use Rattle.form_types.specs.Ids.{id_of}
use Rattle.form_types.specs.Types.{NamedGroup, types_by_id, IsIdBelow, NameEarlier}
use Rattle.form_types.specs.Numbered.{first_id}
use Rattle.form_types.specs.Keys.{group_key, key_of}
use Rattle.form_types.specs.Taken.{Canonical, resolved, by_ids, NearIn, AreGiven, KeysAreListed, HasNumberInGroup, TellsAt, IsNumbered}
use Rattle.form_types.proofs.InOrder.{given-more}
use Rattle.form_types.proofs.KeyLaws.{group_key-exact, key-decides}

-- ---- what a canonical group reads

-- a canonical group reads the numbers of earlier types alone
canonical-agrees : (number number' : ℕ → ℕ) (g : Home) → ((i : ℕ) → i < g.start → number' i ≡ number i)
    → canonical number' g ≡ canonical number g
canonical-agrees number number' g agree = ap (λ f. map_group f f g.members) (λ k i. by i (nat_le g.start i) refl k) where
  by : (i : ℕ) (b : Bool) → nat_le g.start i ≡ b → target_by b (i - g.start) (number' i) ≡ target_by b (i - g.start) (number i)
  by i true e = refl
  by i false e = ap Earlier (agree i (leb-false g.start i e))

abbrev pub renamed : (ℕ → ℕ) → Group ℕ ℕ → NamedGroup
renamed number g = map_group (λ i. Id (id_of (number i))) (λ i. Id (id_of (number i))) g

-- a group by the numbers of what it names is its canonical group, by ids
renamed-is : (number : ℕ → ℕ) (first : ℕ) (g : Home) (P : ℕ → Type 0)
    → ((r : ℕ) → P r → g.start ≤ r → number r ≡ first + (r - g.start)) → All P (group_edges (λ r. r) g.members)
    → renamed number g.members ≡ by_ids first (canonical number g)
renamed-is number first g P row all =
    alike-mapped (plainly group_shape) (λ r. Id (id_of (number r))) (λ r. resolved first (target number g.start r)) g.members g.members (record {
      frames = refl;
      edges = zip-known-itself P (λ r s. Id (id_of (number r)) ≡ resolved first (target number g.start s))
          (λ r p. by r p (nat_le g.start r) refl) (group_edges (λ r. r) g.members) all;
    })
    ∙ sym ((plainly group_shape).map_twice (target number g.start) (resolved first) g.members) where
      by : (r : ℕ) → P r → (b : Bool) → nat_le g.start r ≡ b → Id (id_of (number r)) ≡ resolved first (target_by b (r - g.start) (number r))
      by r p true e = ap (λ n. Id (id_of n)) (row r p (leb-true g.start r e))
      by r p false e = refl

-- ---- groups, and where their members begin

pub total-more : (groups : List NamedGroup) (g : NamedGroup) → length (types_by_id (groups ++ g ∷ [])) ≡ length (types_by_id groups) + length g
total-more groups g = grind (arith, flat_map-append, length-append, append-nil)

references-more : (first : ℕ) (groups : List NamedGroup) (g : NamedGroup) → NameEarlier first groups
    → All (IsIdBelow (first + length (types_by_id groups) + length g)) (group_edges (λ r. r) g) → NameEarlier first (groups ++ g ∷ [])
references-more first [] g earlier here = let e : first + 0 + length g ≡ first + length g = omega arith in (rw e at here, tt)
references-more first (h ∷ groups) g earlier here =
    let e : first + length (types_by_id (h ∷ groups)) + length g ≡ first + length h + length (types_by_id groups) + length g =
    omega (arith, length-append h (types_by_id groups)) in
    (earlier.0, references-more (first + length h) groups g earlier.1 (rw e at here))

-- an id is that of a position of one group
one-group : (groups : List NamedGroup) (a b p q : ℕ) → p < length (get_or groups a []) → q < length (get_or groups b [])
    → first_id groups a + p ≡ first_id groups b + q → a ≡ b
one-group [] a b p q i j same = absurd (omega arith)
one-group (g ∷ gs) zero zero p q i j same = refl
one-group (g ∷ gs) zero (suc b) p q i j same = absurd (omega (arith, length-append g (types_by_id (take b gs))))
one-group (g ∷ gs) (suc a) zero p q i j same = absurd (omega (arith, length-append g (types_by_id (take a gs))))
one-group (g ∷ gs) (suc a) (suc b) p q i j same =
    ap suc (one-group gs a b p q i j (omega (arith, length-append g (types_by_id (take a gs)), length-append g (types_by_id (take b gs)))))

-- a key is at one position
one-key : (keys : List Canonical) (a b : ℕ) → AllPairs (λ c d. c ≢ d) keys → a < length keys → b < length keys
    → get_or keys a [] ≡ get_or keys b [] → a ≡ b
one-key keys a b apart i j same =
    elim (cases_lt a b) [
      | inl lt ↦ absurd (apart a b [] lt j same)
      | inr ge ↦ elim (cases_lt b a) [ inl lt ↦ absurd (apart b a [] lt i (sym same)) | inr le ↦ omega (arith, ge, le) ]
    ]

-- ---- what is known of the first groups

first-low : (keys : List Canonical) (groups : List NamedGroup) → KeysAreListed keys groups → (k : ℕ) → k < length keys
    → first_id groups k + length (get_or groups k []) ≤ length (types_by_id groups)
first-low keys groups listed k lt = length-flat_map-take (λ (g : NamedGroup). g) groups k [] (omega (arith, lt, listed.long))

-- ---- what follows at once

module _ {gs : List (Group ℕ ℕ)} {number : ℕ → ℕ} {keys : List Canonical} {groups : List NamedGroup} {get : CanonicalGroup → Option ℕ}
    (st : IsNumbered gs number keys groups get) where
  pub found-low : (q : CanonicalGroup) (first : ℕ) → get q ≡ Some first → first ≤ length (types_by_id groups)
  found-low q first is = let f = subst (TellsAt keys groups (key_of q)) is (st.tells q) in omega (arith, f.3, first-low keys groups st.listed f.0 f.1)

  group-is : (i : ℕ) (h : i < size gs) → get_or groups (st.stands i h).at [] ≡ by_ids (first_id groups (st.stands i h).at) (canonical number (home gs i))
  group-is i h = let s = st.stands i h in st.listed.are s.at s.below ∙ ap (by_ids (first_id groups s.at)) s.key

  group-long : (i : ℕ) (h : i < size gs) → length (get_or groups (st.stands i h).at []) ≡ length (home gs i).members
  group-long i h = ap length (group-is i h) ∙ length-map (canonical number (home gs i)) _ ∙ length-map (home gs i).members _

  -- the position of a type is one of its group
  within : (i : ℕ) (h : i < size gs) → i - (home gs i).start < length (get_or groups (st.stands i h).at [])
  within i h = let w = home-within gs i h in omega (arith, group-long i h, w.from, w.to)

  pub below-all : (i : ℕ) → i < size gs → number i < length (types_by_id groups)
  below-all i h = let s = st.stands i h in omega (arith, s.number_is, within i h, first-low keys groups st.listed s.at s.below)

  same-key : (i j : ℕ) (h : i < size gs) (k : j < size gs) → canonical number (home gs i) ≡ canonical number (home gs j) → (st.stands i h).at ≡ (st.stands j k).at
  same-key i j h k same =
      let x = st.stands i h in
      let y = st.stands j k in
      one-key keys x.at y.at st.listed.apart x.below y.below (x.key ∙ same ∙ sym y.key)

  -- the members of a group have consecutive numbers
  pub in-row : (i r : ℕ) (h : i < size gs) → Holds (home gs i) r → number r ≡ first_id groups (st.stands i h).at + (r - (home gs i).start)
  in-row i r h holds =
      let again = home-again gs i r h holds in
      let inside : r < size gs = omega (arith, holds.to, (home-within gs i h).high) in
      (st.stands r inside).number_is
      ∙ (λ t. first_id groups (same-key r i inside h (ap (canonical number) again) t) + (r - (again t).start))

  pub told-apart : TellApart gs gs number number (size gs) (size gs)
  told-apart i j h k =
      let x = st.stands i h in
      let y = st.stands j k in (
        (λ same.
            let one : x.at ≡ y.at =
            one-group groups x.at y.at (i - (home gs i).start) (j - (home gs j).start) (within i h) (within j k) (sym x.number_is ∙ same ∙ y.number_is) in
            let place : i - (home gs i).start ≡ j - (home gs j).start = omega (arith, same, x.number_is, y.number_is, ap (first_id groups) one) in
            (place, sym x.key ∙ ap (λ a. get_or keys a []) one ∙ y.key)),
        (λ both. x.number_is ∙ (λ t. first_id groups (same-key i j h k both.1 t) + both.0 t) ∙ sym y.number_is),
      )

  -- its group is that which its declared group becomes
  pub group-renamed : (i : ℕ) (h : i < size gs) → get_or groups (st.stands i h).at [] ≡ renamed number (home gs i).members
  group-renamed i h =
      let g = home gs i in
      group-is i h
      ∙ sym (renamed-is number (first_id groups (st.stands i h).at) g (λ r. r < g.start + length g.members)
      (λ r high low. in-row i r h (record { from = low; to = high })) (st.stands i h).near)

-- ---- a group comes next, whose members get consecutive numbers

-- what is at a position is at the same position in longer lists
record Stays (keys keys' : List Canonical) (groups groups' : List NamedGroup) (k : ℕ) : Type 0 where
  pub below : k < length keys'
  pub key : get_or keys' k [] ≡ get_or keys k []
  pub first : first_id groups' k ≡ first_id groups k

module _ (gs : List (Group ℕ ℕ)) (number : ℕ → ℕ) (keys : List Canonical) (groups : List NamedGroup) (get : CanonicalGroup → Option ℕ)
    (st : IsNumbered gs number keys groups get) (m : Group ℕ ℕ) (number' : ℕ → ℕ) (agree : (i : ℕ) → i < size gs → number' i ≡ number i) where
  abbrev next-home : Home
  next-home = record { start = size gs; members = m }

  abbrev more : List (Group ℕ ℕ)
  more = gs ++ m ∷ []

  abbrev total : ℕ
  total = length (types_by_id groups)

  -- the position of the key of the group
  record Comes (keys' : List Canonical) (groups' : List NamedGroup) (first : ℕ) : Type 0 where
    pub at : ℕ
    pub below : at < length keys'
    pub key : get_or keys' at [] ≡ canonical number next-home
    pub first_is : first_id groups' at ≡ first
    pub near : NearIn next-home

  stands-more : (keys' : List Canonical) (groups' : List NamedGroup) (first : ℕ) → ((k : ℕ) → k < length keys → Stays keys keys' groups groups' k)
      → ((p : ℕ) → p < length m → number' (size gs + p) ≡ first + p) → (0 < length m → Comes keys' groups' first)
      → (i : ℕ) → i < size more → HasNumberInGroup keys' groups' number' i (home more i)
  stands-more keys' groups' first stays fresh comes i h =
      elim (cases_lt i (size gs)) [
        | inl old ↦
            let s = st.stands i old in
            let t = stays s.at s.below in
            subst (HasNumberInGroup keys' groups' number' i) (sym (home-before gs m i old)) (record {
              at = s.at;
              below = t.below;
              key = t.key ∙ s.key
                  ∙ sym (canonical-agrees number number' (home gs i) (λ r lt. agree r (omega (arith, lt, old, (home-within gs i old).from))));
              number_is = omega (arith, agree i old, s.number_is, t.first);
              near = s.near;
            })
        | inr new ↦
            let inside : i < size gs + length m = omega (arith, h, size-more gs m) in
            let c = comes (omega (arith, inside, new)) in
            let at : size gs + (i - size gs) ≡ i = omega (arith, new) in
            subst (HasNumberInGroup keys' groups' number' i) (sym (home-last gs m i new inside)) (record {
              at = c.at;
              below = c.below;
              key = c.key ∙ sym (canonical-agrees number number' next-home agree);
              number_is = omega (arith, ap number' at, fresh (i - size gs) (omega (arith, inside, new)), c.first_is);
              near = c.near;
            })
      ]

  given-next : (first count' : ℕ) → first ≤ total → ((p : ℕ) → p < length m → number' (size gs + p) ≡ first + p)
      → ((id : ℕ) → id < count' → total ≤ id → id < first + length m) → AreGiven number' (size more) count'
  given-next first count' low fresh up =
      subst (λ n. AreGiven number' n count') (sym (size-more gs m)) (given-more number number' (size gs) total first (length m) st.given low agree fresh count' up)

  -- the groups are unchanged: this one has no types, or its key was seen
  numbered-same : (first : ℕ) → first ≤ total → ((p : ℕ) → p < length m → number' (size gs + p) ≡ first + p)
      → (0 < length m → Comes keys groups first) → (get' : CanonicalGroup → Option ℕ) → ((q : CanonicalGroup) → get' q ≡ get q) → IsNumbered more number' keys groups get'
  numbered-same first low fresh comes get' same = record {
    few = omega (arith, st.few, size-more gs m);
    listed = st.listed;
    tells = λ q. subst (TellsAt keys groups (key_of q)) (sym (same q)) (st.tells q);
    stands = stands-more keys groups first (λ k lt. record { below = lt; key = refl; first = refl }) fresh comes;
    given = given-next first total low fresh (λ id lt ge. absurd (omega (arith, lt, ge)));
  }

  pub numbered-empty : length m ≡ 0 → IsNumbered more number' keys groups get
  numbered-empty none =
      numbered-same 0 (omega arith) (λ p lt. absurd (omega (arith, lt, none))) (λ some. absurd (omega (arith, some, none))) get (λ q. refl)

  module _ (key : CanonicalGroup) (is_key : key_of key ≡ group_key (canonical number next-home)) (near : NearIn next-home) where
    pub numbered-old : (first : ℕ) → get key ≡ Some first → ((p : ℕ) → p < length m → number' (size gs + p) ≡ first + p)
        → (get' : CanonicalGroup → Option ℕ) → ((q : CanonicalGroup) → get' q ≡ get q) → IsNumbered more number' keys groups get'
    numbered-old first met fresh get' same =
        let f = subst (TellsAt keys groups (key_of key)) met (st.tells key) in
        numbered-same first (found-low st key first met) fresh
        (λ some. record { at = f.0; below = f.1; key = group_key-exact _ _ (sym f.2 ∙ is_key); first_is = sym f.3; near = near }) get' same

    -- a new key
    module _ (none : get key ≡ None) (fresh : (p : ℕ) → p < length m → number' (size gs + p) ≡ total + p) (g : NamedGroup) (is_g : g ≡ renamed number' m) where
      abbrev keys' : List Canonical
      keys' = keys ++ canonical number next-home ∷ []

      abbrev groups' : List NamedGroup
      groups' = groups ++ g ∷ []

      number-of : (r : ℕ) → size gs ≤ r → r < size gs + length m → number' r ≡ total + (r - size gs)
      number-of r low high =
          let e : size gs + (r - size gs) ≡ r = omega arith in
          ap number' (sym e) ∙ fresh (r - size gs) (omega arith)

      named-below : (r : ℕ) → r < size gs + length m → number' r < total + length m
      named-below r high =
          elim (cases_lt r (size gs)) [
            | inl old ↦ omega (arith, agree r old, below-all st r old)
            | inr new ↦ omega (arith, number-of r new high, new, high)
          ]

      new-is : g ≡ by_ids total (canonical number next-home)
      new-is =
          is_g ∙ renamed-is number' total next-home (λ r. r < size gs + length m) (λ r high low. number-of r low high) near
          ∙ ap (by_ids total) (canonical-agrees number number' next-home agree)

      new-long : length g ≡ length m
      new-long = ap length is_g ∙ length-map m _

      total-is : length (types_by_id groups') ≡ total + length m
      total-is = total-more groups g ∙ ap (λ n. total + n) new-long

      new-names : All (IsIdBelow (0 + total + length g)) (group_edges (λ r. r) g)
      new-names =
          let to : ℕ → UnpackedIndex = λ r. Id (id_of (number' r)) in
          let each : All (λ r. IsIdBelow (0 + total + length g) (to r)) (group_edges (λ r. r) m) =
          All-weaker (λ r. r < size gs + length m) (λ r. IsIdBelow (0 + total + length g) (to r))
          (λ r high. omega (arith, named-below r high, new-long)) (group_edges (λ r. r) m) near in
          subst (λ x. All (IsIdBelow (0 + total + length g)) (group_edges (λ r. r) x)) (sym is_g)
          (subst (All (IsIdBelow (0 + total + length g))) (sym ((plainly group_shape).edges_map to m))
          (All-map (IsIdBelow (0 + total + length g)) to (group_edges (λ r. r) m) each))

      stays : (k : ℕ) → k < length keys → Stays keys keys' groups groups' k
      stays k lt = record {
        below = omega (arith, lt, length-append keys (canonical number next-home ∷ []));
        key = get_or_append_left keys (canonical number next-home ∷ []) [] k lt;
        first = ap (λ l. length (types_by_id l)) (take-append-le k groups (g ∷ []) (omega (arith, lt, st.listed.long)));
      }

      last-first : (k : ℕ) → length keys ≡ k → first_id groups' k ≡ total
      last-first k e =
          let end : k ≡ length groups = sym e ∙ sym st.listed.long in
          ap (λ l. length (types_by_id l))
          (ap (λ n. take n groups') end ∙ take-append-le (length groups) groups (g ∷ []) (omega arith) ∙ take-length groups)

      last-key : (k : ℕ) → length keys ≡ k → get_or keys' k [] ≡ canonical number next-home
      last-key k e = get_or_push keys (canonical number next-home) [] k e

      -- a position of the lists is an earlier one, or the last
      last : (k : ℕ) → k < length keys' → length keys ≤ k → length keys ≡ k
      last k lt ge = omega (arith, lt, ge, length-append keys (canonical number next-home ∷ []))

      listed-more : KeysAreListed keys' groups'
      listed-more = record {
        long = omega (arith, st.listed.long, length-append keys (canonical number next-home ∷ []), length-append groups (g ∷ []));
        are = λ k lt.
            elim (cases_lt k (length keys)) [
              | inl old ↦ get_or_append_left groups (g ∷ []) [] k (omega (arith, old, st.listed.long)) ∙ st.listed.are k old
                  ∙ sym (λ t. by_ids ((stays k old).first t) ((stays k old).key t))
              | inr ge ↦
                  let e = last k lt ge in
                  get_or_push groups g [] k (st.listed.long ∙ e) ∙ new-is ∙ sym (λ t. by_ids (last-first k e t) (last-key k e t))
            ];
        apart = all_pairs_push (λ c d. c ≢ d) keys (canonical number next-home) st.listed.apart (λ k d lt same.
            subst (TellsAt keys groups (key_of key)) none (st.tells key) k lt (is_key ∙ ap group_key (sym same ∙ get_or_default keys k d [] lt)));
        references = references-more 0 groups g st.listed.references new-names;
      }

      tells-still : (q : CanonicalGroup) → group.ghosts.eq key q ≡ false → (o : Option ℕ) → TellsAt keys groups (key_of q) o
          → TellsAt keys' groups' (key_of q) o
      tells-still q other (Some first) f = let s = stays f.0 f.1 in (f.0, s.below, f.2 ∙ ap group_key (sym s.key), f.3 ∙ sym s.first)
      tells-still q other None f = λ k lt at.
          elim (cases_lt k (length keys)) [
            | inl old ↦ f k old (at ∙ ap group_key (stays k old).key)
            | inr ge ↦
                let no : true ≡ false = sym ((key-decides key q).1 (is_key ∙ ap group_key (sym (last-key k (last k lt ge))) ∙ sym at)) ∙ other in
                absurd (cc)
          ]

      tells-more : (q : CanonicalGroup) (b : Bool) → group.ghosts.eq key q ≡ b → TellsAt keys' groups' (key_of q) (cond b (Some total) (get q))
      tells-more q true same = (
        length keys,
        omega (arith, length-append keys (canonical number next-home ∷ [])),
        sym ((key-decides key q).0 same) ∙ is_key ∙ ap group_key (sym (last-key (length keys) refl)),
        sym (last-first (length keys) refl),
      )
      tells-more q false other = tells-still q other (get q) (st.tells q)

      pub numbered-new : (get' : CanonicalGroup → Option ℕ) → ((q : CanonicalGroup) → get' q ≡ cond (group.ghosts.eq key q) (Some total) (get q))
          → IsNumbered more number' keys' groups' get'
      numbered-new get' puts = record {
        few = omega (arith, st.few, size-more gs m, total-is);
        listed = listed-more;
        tells = λ q. subst (TellsAt keys' groups' (key_of q)) (sym (puts q)) (tells-more q (group.ghosts.eq key q) refl);
        stands = stands-more keys' groups' total stays fresh (λ some. record {
          at = length keys;
          below = omega (arith, length-append keys (canonical number next-home ∷ []));
          key = last-key (length keys) refl;
          first_is = last-first (length keys) refl;
          near = near;
        });
        given = given-next total (length (types_by_id groups')) (omega arith) fresh (λ id lt ge. omega (arith, lt, total-is));
      }
