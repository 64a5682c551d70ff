-- What a name section tells up to its first fault (core specification, appendix, name section).
use Rattle.std.specs.Prelude.{◌⊎◌, ℕ, zero, suc, List, [], ◌∷◌, length, Bool, ◌==◌, ◌&&◌}
use Rattle.wasm_spec.specs.Parts.{Part, ◌>>=◌, Never, gives, unsigned, choose, first_byte, all_bytes_as, sized}
use Rattle.custom_sections.specs.NameLists.{NameLists, no_names, joined_all}
use Rattle.custom_sections.specs.NameGrammar.{naming, local_naming, name_subsection}

-- `first`; and `second` of bytes that spell nothing of `first`
abbrev pub otherwise : {A : Type 0} → Part A → Part A → Part A
otherwise {A} first second = record {
  spells = λ bytes x. first.spells bytes x ⊎ (((y : A) → ¬ first.spells bytes y) × second.spells bytes x);
  stops = Never;
}

-- nothing is told, whatever the bytes
abbrev pub tells_nothing : {A : Type 0} → Part (List A)
tells_nothing = all_bytes_as (λ bytes. [])

-- n elements, and whatever follows. Where the next bytes spell no element, the list ends with what
-- `cut` says of them
abbrev pub elements_told : {A : Type 0} → Part A → Part (List A) → ℕ → Part (List A)
elements_told part cut zero = tells_nothing
elements_told part cut (suc n) = otherwise (part >>= λ x. elements_told part cut n >>= λ xs. gives (x ∷ xs)) cut

-- a count, and that many elements up to the first fault; nothing where no count is spelled
abbrev pub vector_told : {A : Type 0} → Part A → Part (List A) → Part (List A)
vector_told part cut = otherwise (unsigned 32 >>= λ count. elements_told part cut count) tells_nothing

-- names of indices, up to the first fault
abbrev pub namings_told : Part (List (ℕ × List ℕ))
namings_told = vector_told naming tells_nothing

-- a function and the names of its locals, where these have a fault: the names before it
abbrev pub cut_local_naming : Part (List (ℕ × List (ℕ × List ℕ)))
cut_local_naming = otherwise (unsigned 32 >>= λ function. namings_told >>= λ names. gives ((function, names) ∷ [])) tells_nothing

-- the contents of a subsection that have a fault: the names before it
abbrev pub cut_contents : Bool → ℕ → Part NameLists
cut_contents locals id =
    choose (id == 1) (namings_told >>= λ names. gives (record no_names { functions = names }))
    (choose ((id == 2) && locals) (vector_told local_naming cut_local_naming >>= λ names. gives (record no_names { locals = names }))
    (all_bytes_as (λ bytes. no_names)))

-- a subsection that has a fault, and whatever follows: the names before the fault
abbrev pub cut_subsection : Bool → Part (List NameLists)
cut_subsection locals =
    otherwise (first_byte (λ id. sized (cut_contents locals id)) >>= λ names. all_bytes_as (λ rest. names ∷ [])) tells_nothing

-- the contents of a name section tell these names, those of its subsections up to the first fault;
-- no subsection is empty, so there are at most as many as bytes
abbrev pub TellNames : Bool → List ℕ → NameLists → Type 0
TellNames locals contents names =
    (elements_told (name_subsection locals) (cut_subsection locals) (length contents) >>= λ all. gives (joined_all all)).spells contents names
