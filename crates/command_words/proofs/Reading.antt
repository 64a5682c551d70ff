-- Words read one after another, with the kinds that were seen.
use Rattle.std.proofs.Common.{◌≡◌, ◌≢◌, ℕ, ◌+◌, ◌<◌, ◌≤◌, List, [], ◌∷◌, Bool, true, false, length, get_or, drop, map, refl, sym, ap, subst, ◌∙◌}
use Rattle.std.specs.Prelude.{nat_eq, Some, None}
use Rattle.std.specs.List.{AllByRecursion, IsDistinct}
use Rattle.std.proofs.Math.ListN.{set}
use Rattle.std.proofs.lemmas.Bool.{eqb-false, ne_eqb}
use Rattle.std.proofs.lemmas.List.{get_or-set_same, get_or-set_other, drop_more, drop_all}
use Rattle.command_words.specs.declared.command.Command.{Command}
use Rattle.command_words.specs.declared.settings.Setting.{Setting}
use Rattle.command_words.specs.declared.settings.Setting.TheVariants.{Cow, LazyTables, BranchHints, NativeDebug, GuestDebug}
use Rattle.command_words.specs.declared.settings.Setting.TheVariants.{Page, MaxImage, Ptr4, Ptr8, GcDrc, GcNull}
use Rattle.command_words.specs.Options.{row, IsAllowed}
use Rattle.command_words.specs.Commands.{Chooses, with_settings}

-- the option's kind is not among those seen
abbrev pub IsUnseen : List Bool → Setting → Type 0
IsUnseen seen s = get_or seen ((row s).kind) false ≡ false

-- the words are options of kinds that are not seen, and make `command` of `plain`
pub record Reads (seen : List Bool) (words : List (List ℕ)) (plain command : Command) : Type 0 where
  pub chooses : Chooses words plain command
  pub unseen : AllByRecursion (IsUnseen seen) chooses.settings

none-seen : (s : Setting) → IsUnseen (false ∷ false ∷ false ∷ false ∷ false ∷ false ∷ false ∷ false ∷ false ∷ []) s
none-seen Cow = refl
none-seen LazyTables = refl
none-seen BranchHints = refl
none-seen NativeDebug = refl
none-seen GuestDebug = refl
none-seen (Page n) = refl
none-seen (MaxImage n) = refl
none-seen Ptr4 = refl
none-seen Ptr8 = refl
none-seen GcDrc = refl
none-seen GcNull = refl

none-are-seen : (settings : List Setting)
    → AllByRecursion (IsUnseen (false ∷ false ∷ false ∷ false ∷ false ∷ false ∷ false ∷ false ∷ false ∷ [])) settings
none-are-seen [] = tt
none-are-seen (s ∷ settings) = (none-seen s, none-are-seen settings)

-- at first, none is seen
pub reads-first : (words : List (List ℕ)) (plain command : Command) → Chooses words plain command
    → Reads (false ∷ false ∷ false ∷ false ∷ false ∷ false ∷ false ∷ false ∷ false ∷ []) words plain command
reads-first words plain command chooses = record { chooses = chooses; unseen = none-are-seen chooses.settings }

set-is-unseen : (seen : List Bool) (kind : ℕ) (s : Setting) → nat_eq kind ((row s).kind) ≡ false → IsUnseen seen s → IsUnseen (set seen kind true) s
set-is-unseen seen kind s differs unseen =
    get_or-set_other seen kind ((row s).kind) true false (λ same. eqb-false kind _ differs (sym same)) ∙ unseen

sets-are-unseen : (seen : List Bool) (kind : ℕ) (settings : List Setting)
    → AllByRecursion (λ k. nat_eq kind k ≡ false) (map (λ s. (row s).kind) settings) → AllByRecursion (IsUnseen seen) settings
    → AllByRecursion (IsUnseen (set seen kind true)) settings
sets-are-unseen seen kind [] differ unseen = tt
sets-are-unseen seen kind (s ∷ settings) differ unseen =
    (set-is-unseen seen kind s differ.0 unseen.0, sets-are-unseen seen kind settings differ.1 unseen.1)

-- what the first word must be, and what is then read of the others
pub record Next (seen : List Bool) (word : List ℕ) (words : List (List ℕ)) (plain command : Command) : Type 0 where
  pub setting : Setting
  pub spelled : word ≡ (row setting).word
  pub allowed : IsAllowed setting
  pub unseen : IsUnseen seen setting
  pub rest : Reads (set seen ((row setting).kind) true) words ((row setting).sets plain) command

next-of-settings : (seen : List Bool) (word : List ℕ) (words : List (List ℕ)) (plain command : Command) (settings : List Setting)
    → word ∷ words ≡ map (λ s. (row s).word) settings → AllByRecursion IsAllowed settings → IsDistinct nat_eq (map (λ s. (row s).kind) settings)
    → command ≡ with_settings plain settings → AllByRecursion (IsUnseen seen) settings → Next seen word words plain command
unfolding IsDistinct
next-of-settings seen word words plain command [] spelled allowed once chosen unseen = cc
next-of-settings seen word words plain command (s ∷ settings) spelled allowed once chosen unseen = record {
  setting = s;
  spelled = cc;
  allowed = allowed.0;
  unseen = unseen.0;
  rest = record {
    chooses = record { settings = settings; spelled = cc; allowed = allowed.1; once = once.1; chosen = chosen };
    unseen = sets-are-unseen seen ((row s).kind) settings once.0 unseen.1;
  };
}

pub reads-next : (seen : List Bool) (word : List ℕ) (words : List (List ℕ)) (plain command : Command)
    → Reads seen (word ∷ words) plain command → Next seen word words plain command
reads-next seen word words plain command reads =
    next-of-settings seen word words plain command reads.chooses.settings reads.chooses.spelled reads.chooses.allowed reads.chooses.once
    reads.chooses.chosen reads.unseen

was-unseen : (seen : List Bool) (kind : ℕ) (s : Setting) → kind < length seen → IsUnseen (set seen kind true) s
    → (nat_eq kind ((row s).kind) ≡ false) × IsUnseen seen s
was-unseen seen kind s within unseen =
    let differs : kind ≢ (row s).kind = λ same.
    let P : ℕ → Type 0 = λ k. get_or (set seen kind true) k false ≡ false in
    let both : true ≡ false = sym (get_or-set_same seen kind true false within) ∙ subst P (sym same) unseen in
    cc in
    (ne_eqb kind _ differs, sym (get_or-set_other seen kind ((row s).kind) true false (λ same. differs (sym same))) ∙ unseen)

were-unseen : (seen : List Bool) (kind : ℕ) (settings : List Setting) → kind < length seen → AllByRecursion (IsUnseen (set seen kind true)) settings
    → AllByRecursion (λ k. nat_eq kind k ≡ false) (map (λ s. (row s).kind) settings) × AllByRecursion (IsUnseen seen) settings
were-unseen seen kind [] within unseen = (tt, tt)
were-unseen seen kind (s ∷ settings) within unseen =
    let first = was-unseen seen kind s within unseen.0 in
    let others = were-unseen seen kind settings within unseen.1 in
    ((first.0, others.0), (first.1, others.1))

-- a word before what is read
pub reads-before : (seen : List Bool) (word : List ℕ) (words : List (List ℕ)) (plain command : Command) (s : Setting)
    → word ≡ (row s).word → IsAllowed s → IsUnseen seen s → (row s).kind < length seen
    → Reads (set seen ((row s).kind) true) words ((row s).sets plain) command → Reads seen (word ∷ words) plain command
unfolding IsDistinct
reads-before seen word words plain command s spelled allowed unseen within reads =
    let were = were-unseen seen ((row s).kind) reads.chooses.settings within reads.unseen in
    record {
      chooses = record {
        settings = s ∷ reads.chooses.settings;
        spelled = ap (λ w. w ∷ words) spelled ∙ ap (λ ws. (row s).word ∷ ws) reads.chooses.spelled;
        allowed = (allowed, reads.chooses.allowed);
        once = (were.0, reads.chooses.once);
        chosen = reads.chooses.chosen;
      };
      unseen = (unseen, were.1);
    }

no-settings : (plain command : Command) (settings : List Setting) → [] ≡ map (λ s. (row s).word) settings
    → command ≡ with_settings plain settings → command ≡ plain
no-settings plain command [] spelled chosen = chosen
no-settings plain command (s ∷ settings) spelled chosen = cc

-- at the end the command is what it is
pub reads-last : (seen : List Bool) (plain command : Command) → Reads seen [] plain command → command ≡ plain
reads-last seen plain command reads = no-settings plain command reads.chooses.settings reads.chooses.spelled reads.chooses.chosen

pub reads-none : (seen : List Bool) (plain : Command) → Reads seen [] plain plain
unfolding IsDistinct
reads-none seen plain =
    record { chooses = record { settings = []; spelled = refl; allowed = tt; once = tt; chosen = refl }; unseen = tt }

same-setting : (s t : Setting) → Some s ≡ Some t → s ≡ t
same-setting s t e = cc

-- the words that remain begin with the next one
pub next-word : {X : Type 0} (f : X → List ℕ) (xs : List X) (i : ℕ) (x : X) → i < length xs → x ≡ get_or xs i x
    → map f (drop i xs) ≡ f x ∷ map f (drop (i + 1) xs)
next-word f xs i x within is = ap (map f) (drop_more xs i x within) ∙ ap (λ y. f y ∷ map f (drop (i + 1) xs)) (sym is)

pub last-word : {X : Type 0} (f : X → List ℕ) (xs : List X) (i : ℕ) → length xs ≤ i → map f (drop i xs) ≡ []
last-word f xs i past = ap (map f) (drop_all i xs past)

-- a word that was read as a setting, and the words after it
pub reads-ahead : (seen : List Bool) (from words : List (List ℕ)) (word : List ℕ) (s : Setting) (kind : ℕ) (plain after command : Command)
    → from ≡ word ∷ words → ((t : Setting) → IsAllowed t → word ≡ (row t).word → Some s ≡ Some t)
    → kind ≡ (row s).kind → after ≡ (row s).sets plain
    → Reads seen from plain command → Reads (set seen kind true) words after command
reads-ahead seen from words word s kind plain after command first only is_kind is_after reads =
    let At : List (List ℕ) → Type 0 = λ ws. Reads seen ws plain command in
    let next = reads-next seen word words plain command (subst At first reads) in
    let same : next.setting ≡ s = sym (same-setting _ _ (only next.setting next.allowed next.spelled)) in
    let Of : Setting → Type 0 = λ t. Reads (set seen ((row t).kind) true) words ((row t).sets plain) command in
    let Kind : ℕ → Type 0 = λ k. Reads (set seen k true) words ((row s).sets plain) command in
    let After : Command → Type 0 = λ a. Reads (set seen kind true) words a command in
    subst After (sym is_after) (subst Kind (sym is_kind) (subst Of same next.rest))

pub reads-behind : (seen : List Bool) (from words : List (List ℕ)) (word : List ℕ) (s : Setting) (kind : ℕ) (plain after command : Command)
    → from ≡ word ∷ words → word ≡ (row s).word → IsAllowed s → kind ≡ (row s).kind → kind < length seen → get_or seen kind false ≡ false
    → after ≡ (row s).sets plain → Reads (set seen kind true) words after command → Reads seen from plain command
reads-behind seen from words word s kind plain after command first spelled allowed is_kind within unseen is_after reads =
    let At : List (List ℕ) → Type 0 = λ ws. Reads seen ws plain command in
    let Kind : ℕ → Type 0 = λ k. Reads (set seen k true) words ((row s).sets plain) command in
    let After : Command → Type 0 = λ a. Reads (set seen kind true) words a command in
    let Unseen : ℕ → Type 0 = λ k. get_or seen k false ≡ false in
    let Within : ℕ → Type 0 = λ k. k < length seen in
    subst At (sym first)
    (reads-before seen word words plain command s spelled allowed (subst Unseen is_kind unseen) (subst Within is_kind within)
    (subst Kind is_kind (subst After is_after reads)))

-- a word that was read as none
pub reads-no-setting : (seen : List Bool) (from words : List (List ℕ)) (word : List ℕ) (plain command : Command)
    → from ≡ word ∷ words → ((t : Setting) → IsAllowed t → word ≡ (row t).word → None ≡ Some t) → Reads seen from plain command → ⊥
reads-no-setting seen from words word plain command first only reads =
    let At : List (List ℕ) → Type 0 = λ ws. Reads seen ws plain command in
    let next = reads-next seen word words plain command (subst At first reads) in
    let found = only next.setting next.allowed next.spelled in
    cc

-- a word of a kind that was seen
pub reads-no-second : (seen : List Bool) (from words : List (List ℕ)) (word : List ℕ) (s : Setting) (kind : ℕ) (plain command : Command)
    → from ≡ word ∷ words → ((t : Setting) → IsAllowed t → word ≡ (row t).word → Some s ≡ Some t) → kind ≡ (row s).kind
    → get_or seen kind false ≡ true → Reads seen from plain command → ⊥
reads-no-second seen from words word s kind plain command first only is_kind was reads =
    let At : List (List ℕ) → Type 0 = λ ws. Reads seen ws plain command in
    let next = reads-next seen word words plain command (subst At first reads) in
    let same : s ≡ next.setting = same-setting _ _ (only next.setting next.allowed next.spelled) in
    let kinds : kind ≡ (row next.setting).kind = is_kind ∙ ap (λ t. (row t).kind) same in
    let both : true ≡ false = sym was ∙ ap (λ k. get_or seen k false) kinds ∙ next.unseen in
    cc
