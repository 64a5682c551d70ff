-- The name sections of an input tell one list of entries.
use Rattle.std.proofs.Common.{◌≡◌, ℕ, ◌+◌, ◌<◌, ◌≤◌, List, [], ◌∷◌, ◌++◌, length, get_or, take, drop, Bool, true, false, cond, Option, Some, None, refl, sym, ap, subst, ◌∙◌, arith, inl, inr}
use Rattle.std.specs.Prelude.{All, codes}
use Rattle.std.specs.List.{flat_map}
use Rattle.std.specs.Str.{bytes_eq}
use Rattle.std.proofs.lemmas.List.{append-nil, flat_map_more, take_more, take_all}
use Rattle.std.proofs.lemmas.List.Elements.{All-head, All-tail}
use Rattle.wasm_spec.specs.Parts.{choose}
use Rattle.wasm_spec.specs.Grammar.{name}
use Rattle.form_reader.specs.ReadingNumbers.{name_at}
use Rattle.form_reader.specs.Agrees.{ok_is}
use Rattle.form_reader.specs.SectionRows.{name_agrees}
use Rattle.custom_sections.specs.CutNames.{tells_nothing}
use Rattle.custom_sections.proofs.OnlyTold.{Only, only_all}
use Rattle.refusal_place.specs.declared.section_list.SectionPlace.{SectionPlace}
use Rattle.refusal_place.specs.SectionList.{AreSections, HasName, IsSectionList, ListsAll, name_of}
use Rattle.refusal_place.proofs.SectionsComplete.{same_section}
use Rattle.name_maps.specs.Entries.{NameMapEntry}
use Rattle.name_maps.specs.NameMaps.{name_section}
use Rattle.name_maps.specs.Told.{contents_of, is_named, section_told, SectionsTell, TellsNames}
use Rattle.name_maps.specs.Reading.{section_entries}
use Rattle.name_maps.proofs.AsRead.{section_only}
use Rattle.name_maps.proofs.Placed.{IsPart, Headed, is_headed, listed_in}

-- the entries that are read of a section
abbrev pub entries_if : Bool → List ℕ → List NameMapEntry
entries_if named contents = cond named (section_entries contents) []

abbrev pub entries_at : List ℕ → SectionPlace → List NameMapEntry
entries_at bytes p = entries_if (is_named (name_of p)) (contents_of bytes p)

module _ (p : SectionPlace) (inside : List ℕ) (long : length inside ≡ p.size) where
  only_if : (front title rest : List ℕ) → inside ≡ front ++ rest → name.spells front title → (t : Bool)
      → Only (choose t (name_section p.size) tells_nothing) inside (entries_if t inside)
  only_if front title rest parts s true = subst (λ n. Only (name_section n) inside (section_entries inside)) long (section_only inside front title rest parts s)
  only_if front title rest parts s false = only_all (λ bytes. []) inside

  only_named : (o : Option (List ℕ)) → HasName p.id inside o → Only (choose (is_named o) (name_section p.size) tells_nothing) inside (entries_if (is_named o) inside)
  only_named None h = only_all (λ bytes. []) inside
  only_named (Some title) (custom, (front, rest, parts, s)) = only_if front title rest parts s (bytes_eq title (codes "name"))

module _ (bytes : List ℕ) where
  told_only : (p : SectionPlace) → IsPart bytes p → Only (section_told p) (contents_of bytes p) (entries_at bytes p)
  told_only p is = only_named p (contents_of bytes p) is.long (name_of p) is.named

  sections_told : (ps : List SectionPlace) → All (IsPart bytes) ps → SectionsTell bytes ps (flat_map (entries_at bytes) ps)
  sections_told [] are = refl
  sections_told (p ∷ ps) are = (
    entries_at bytes p,
    flat_map (entries_at bytes) ps,
    refl,
    (told_only p (All-head (IsPart bytes) p ps are)).spelled,
    sections_told ps (All-tail (IsPart bytes) p ps are),
  )

  sections_only : (ps : List SectionPlace) (entries : List NameMapEntry) → All (IsPart bytes) ps → SectionsTell bytes ps entries → entries ≡ flat_map (entries_at bytes) ps
  sections_only [] entries are e = e
  sections_only (p ∷ ps) entries are (front, back, parts, s, more) =
      parts ∙ ap (λ (l : List NameMapEntry). l ++ back) ((told_only p (All-head (IsPart bytes) p ps are)).only front s)
      ∙ ap (λ (l : List NameMapEntry). entries_at bytes p ++ l) (sections_only ps back (All-tail (IsPart bytes) p ps are) more)

-- ---- a section has one name

same_name : (id : ℕ) (contents : List ℕ) (a b : Option (List ℕ)) → HasName id contents a → HasName id contents b → a ≡ b
same_name id contents None None h k = refl
same_name id contents None (Some text) h (custom, (front, rest, parts, s)) = absurd (h custom front rest text parts s)
same_name id contents (Some text) None (custom, (front, rest, parts, s)) k = absurd (k custom front rest text parts s)
same_name id contents (Some text) (Some other) (custom, (front, rest, parts, s)) (also, (before, after, are, t)) =
    let first : name_at contents ≡ _ = ap name_at parts ∙ name_agrees.again front text rest s in
    let second : name_at contents ≡ _ = ap name_at are ∙ name_agrees.again before other after t in
    let same = ok_is (text, rest) (other, after) (sym first ∙ second) in
    ap (λ (x : List ℕ × List ℕ). Some x.0) same

-- ---- two lists of the sections

abbrev entries_of : List ℕ → ℕ → ℕ → Option (List ℕ) → List NameMapEntry
entries_of bytes start size title = entries_if (is_named title) (take size (drop start bytes))

same_entries : (bytes : List ℕ) (ps qs : List SectionPlace) (start begin : ℕ) (rest : List ℕ) → start ≡ begin → AreSections start rest ps
    → AreSections begin rest qs → flat_map (entries_at bytes) ps ≡ flat_map (entries_at bytes) qs
same_entries bytes [] [] start begin rest e are also = refl
same_entries bytes [] (q ∷ qs) start begin rest e none (later, s, more) = absurd (none q.id s.number s.contents later s.parts s.size_is)
same_entries bytes (p ∷ ps) [] start begin rest e (later, s, more) none = absurd (none p.id s.number s.contents later s.parts s.size_is)
same_entries bytes (p ∷ ps) (q ∷ qs) start begin rest e (later, s, more) (after, t, others) =
    let same = same_section start rest p later s q.id t.number t.contents after t.parts t.size_is in
    let begins : p.contents ≡ q.contents = omega (arith, same.1, t.places.1, e) in
    let sized : p.size ≡ q.size = same.2 ∙ sym t.places.2 in
    let titled = same_name q.id t.contents (name_of p) (name_of q) same.4 t.name_is in
    let now : entries_at bytes p ≡ entries_at bytes q =
    ap (λ n. entries_of bytes n p.size (name_of p)) begins ∙ ap (λ n. entries_of bytes q.contents n (name_of p)) sized
    ∙ ap (entries_of bytes q.contents q.size) titled in
    let there : AreSections (p.contents + p.size) after ps = subst (λ (l : List ℕ). AreSections (p.contents + p.size) l ps) same.3 more in
    ap (λ (l : List NameMapEntry). l ++ flat_map (entries_at bytes) ps) now
    ∙ ap (λ (l : List NameMapEntry). entries_at bytes q ++ l)
    (same_entries bytes ps qs (p.contents + p.size) (q.contents + q.size) after (omega (arith, begins, sized)) there others)

same_listed : (bytes : List ℕ) (ps qs : List SectionPlace) → IsSectionList bytes ps → IsSectionList bytes qs
    → flat_map (entries_at bytes) ps ≡ flat_map (entries_at bytes) qs
same_listed bytes ps qs are also = by (is_headed bytes) where
  by : Headed bytes → flat_map (entries_at bytes) ps ≡ flat_map (entries_at bytes) qs
  by (inl h) = same_entries bytes ps qs 8 8 h.0 refl (are.sections h.0 h.1 h.2) (also.sections h.0 h.1 h.2)
  by (inr none) = ap (flat_map (entries_at bytes)) (none ps are ∙ sym (none qs also))

-- ---- the entries of the input

module _ (bytes : List ℕ) (places : List SectionPlace) (listed : IsSectionList bytes places) where
  pub names_told : ListsAll bytes places → (entries : List NameMapEntry) → entries ≡ flat_map (entries_at bytes) places → TellsNames bytes entries
  names_told all entries e = record {
    places = places;
    listed = listed;
    all = all;
    told = subst (SectionsTell bytes places) (sym e) (sections_told bytes places (listed_in bytes places listed));
  }

  pub names_only : (entries : List NameMapEntry) → entries ≡ flat_map (entries_at bytes) places → (other : List NameMapEntry) → TellsNames bytes other → other ≡ entries
  names_only entries e other t =
      sections_only bytes t.places other (listed_in bytes t.places t.listed) t.told ∙ same_listed bytes t.places places t.listed listed ∙ sym e

-- ---- one section after another

module _ (bytes : List ℕ) (p : SectionPlace) (now : List NameMapEntry) where
  pub named_added : (inside : List ℕ) (entries : List NameMapEntry) → is_named (name_of p) ≡ true → inside ≡ contents_of bytes p
      → entries ≡ now ++ section_entries inside → entries ≡ now ++ entries_at bytes p
  named_added inside entries t is e =
      e ∙ ap (λ (l : List ℕ). now ++ section_entries l) is ∙ ap (λ b. now ++ entries_if b (contents_of bytes p)) (sym t)

  pub other_added : is_named (name_of p) ≡ false → now ≡ now ++ entries_at bytes p
  other_added t = sym (append-nil now) ∙ ap (λ b. now ++ entries_if b (contents_of bytes p)) (sym t)

module _ (bytes : List ℕ) (places : List SectionPlace) (i : ℕ) (now : List NameMapEntry) (so_far : now ≡ flat_map (entries_at bytes) (take i places)) where
  pub next_section : (d : SectionPlace) (after : List NameMapEntry) → i < length places → after ≡ now ++ entries_at bytes (get_or places i d)
      → after ≡ flat_map (entries_at bytes) (take (i + 1) places)
  next_section d after lt e =
      e ∙ ap (λ (l : List NameMapEntry). l ++ entries_at bytes (get_or places i d)) so_far
      ∙ flat_map_more (entries_at bytes) [] (take i places) (get_or places i d)
      ∙ ap (flat_map (entries_at bytes)) (sym (take_more places i d lt))

  pub all_sections : (items : List SectionPlace) → places ≡ items → length places ≤ i → now ≡ flat_map (entries_at bytes) items
  all_sections items e le = so_far ∙ ap (flat_map (entries_at bytes)) (take_all i places le ∙ e)
