-- Which indices a converter knows, and what it looks them up to.
use Rattle.std.specs.Prelude.{◌≡◌, ◌<◌, ◌+◌, ◌⊎◌, ℕ, Bool, true, false, nat_lt, List, map, length, Option, Some, None, IsSome}
use Rattle.std.proofs.Common.{refl, sym, ◌∙◌}
use Rattle.std.proofs.Math.Nat.{ℕ_set}
use Rattle.std.proofs.lemmas.Bool.{ltb-true, lt-ltb}
use Rattle.std.specs.Coded.{le_prop}
use Rattle.wasm_spec.specs.declared.types.UnpackedIndex.{UnpackedIndex}
use Rattle.wasm_spec.specs.declared.types.UnpackedIndex.TheVariants as index
use Rattle.type_spec.specs.Names.{named}
use Rattle.type_spec.specs.Interned.{GroupSpan, kind_of_type, composite_at}
use Rattle.form_types.specs.Types.{TypesData, types_by_id}
use Rattle.wasm_index.specs.declared.index.Index.{Index}
use Rattle.wasm_index.specs.declared.spaces.TypeSpace.{TypeSpace}
use Rattle.wasm_index.specs.Index.{number_of, index_of}
use Rattle.wasm_types.specs.ValueViews.{Name}
use Rattle.module_types.specs.Views.{TypeIndex, index_at, interned_of}
use Rattle.module_types.specs.Builder.{BuilderState, builder_view}
use Rattle.module_types.specs.Conversion.{group_of_id, members_of, look_by_id, StandsInterned, StandGroups}
use Rattle.module_types.specs.ClosureAnswers.{AnswersBelow}

-- what the interned type at an index is named by
abbrev pub interned_name : BuilderState → ℕ → Name
interned_name b n = named index_at (record { kind = kind_of_type (composite_at (map interned_of b.list.types) n); index = n })

-- a list of types by ids, and the number of one of its groups
abbrev pub TypesAndGroup : Type 0
TypesAndGroup = TypesData × ℕ

-- the ids of that group, and those of each group that the builder holds
abbrev pub knows_ids : BuilderState → Option TypesAndGroup → UnpackedIndex → Type 0
knows_ids b (Some p) (index.Id i) =
    (i.0 < length (types_by_id p.0.groups))
    × ((group_of_id p.0 i.0 ≡ p.1) ⊎ IsSome ((builder_view b).ids (group_of_id p.0 i.0)))
knows_ids b _ _ = ⊥

-- each is named by its interned index, or, where its group is not held, by the next index plus its
-- position in the group
abbrev pub look_ids : BuilderState → Option TypesAndGroup → UnpackedIndex → Name
look_ids b None i = interned_name b 0
look_ids b (Some p) i = look_by_id p.0 (length b.list.types) (builder_view b).built.groups (builder_view b).ids i

-- each group that the builder holds is interned under its id with all its members; for the one
-- group, if it is not held, there is capacity
abbrev pub HaveIndices : BuilderState → Option TypesAndGroup → Type 0
HaveIndices b None = Unit {0}
HaveIndices b (Some p) =
    StandGroups p.0 (builder_view b)
    × ((builder_view b).ids p.1 ≡ None → length b.list.types + length (members_of p.0 p.1) < 4294967295)

stands-prop : (t : TypesData) (spans : List GroupSpan) (k j : ℕ) (x y : StandsInterned t spans k j) → x ≡ y
stands-prop t spans k j x y = λ i. record { within = le_prop x.within y.within i; whole = ℕ_set _ _ x.whole y.whole i }

pub HaveIndices-prop : (b : BuilderState) (ids : Option TypesAndGroup) (x y : HaveIndices b ids) → x ≡ y
HaveIndices-prop b None x y = refl
HaveIndices-prop b (Some p) x y = λ i. (
  λ k j e. stands-prop p.0 _ k j (x.0 k j e) (y.0 k j e) i,
  λ none. le_prop (x.1 none) (y.1 none) i,
)

-- the types of the module below a bound, at which the closure may be called; and the ids
module _ (Callable : Index TypeSpace → Type 0) (b : BuilderState) (bound : ℕ) (ids : Option TypesAndGroup) where
  abbrev pub KnowsIndex : UnpackedIndex → Type 0
  KnowsIndex (index.Module i) = (i < bound) × Callable (index_of i)
  KnowsIndex (index.Id id) = knows_ids b ids (index.Id id)
  KnowsIndex (index.RecGroup i) = ⊥

module _ (Gives : Index TypeSpace → TypeIndex → Type 0) (b : BuilderState) (bound : ℕ) (answers : AnswersBelow Gives (length b.list.types) bound) (ids : Option TypesAndGroup) where
  abbrev pub number_by : (i : ℕ) (below : Bool) → nat_lt i bound ≡ below → ℕ
  number_by i true e = (answers i (ltb-true i bound e)).number
  number_by i false e = 0

  -- the interned index that the closure returns
  unfoldable pub answered : ℕ → ℕ
  answered i = number_by i (nat_lt i bound) refl

  abbrev pub look_index : UnpackedIndex → Name
  look_index (index.Module i) = interned_name b (answered i)
  look_index (index.Id id) = look_ids b ids (index.Id id)
  look_index (index.RecGroup i) = interned_name b 0

  pub answered-is : (i : ℕ) → i < bound → (r : TypeIndex) → Gives (index_of i) r → number_of r ≡ answered i
  unfolding answered
  answered-is i h r p = by (nat_lt i bound) refl where
    by : (below : Bool) (e : nat_lt i bound ≡ below) → number_of r ≡ number_by i below e
    by true e = (answers i (ltb-true i bound e)).alone r p
    by false e = let no : true ≡ false = sym (lt-ltb i bound h) ∙ e in cc

  pub answered-held : (i : ℕ) → i < bound → answered i < length b.list.types
  unfolding answered
  answered-held i h = by (nat_lt i bound) refl where
    by : (below : Bool) (e : nat_lt i bound ≡ below) → number_by i below e < length b.list.types
    by true e = (answers i (ltb-true i bound e)).held
    by false e = let no : true ≡ false = sym (lt-ltb i bound h) ∙ e in cc
