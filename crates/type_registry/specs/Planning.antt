-- How the groups of a module are planned, one after another.
use Rattle.std.specs.Prelude.{◌≡◌, ◌<◌, ◌≤◌, ⊤, ℕ, List, [], ◌∷◌, length, slice_get, Option, Some}
use Rattle.std.specs.List.{All}
use Rattle.type_spec.specs.Interned.{GroupSpan}
use Rattle.wasm_types.specs.declared.sub.WasmSubType.{WasmSubType}
use Rattle.wasm_trace.specs.Canonical.{CanBeConsedEdge, CanBeRuntimeEdge}
use Rattle.module_types.specs.TypeList.{TypeList}
use Rattle.type_registry.specs.Registry.{Group, Groups, Module, indices_of}
use Rattle.type_registry.specs.Changes.{Plan, IsGiven, members_of, edges_of, free_indices}

-- ---- groups of a list that may be planned

-- a group of a list that has members, whose references name types of earlier groups or of its own
pub record MayBePlanned (l : TypeList) (s : GroupSpan) : Type 0 where
  pub some : s.start < s.end
  pub within : s.end ≤ length l.types
  pub few : s.end < 4294967295
  pub consed : All (CanBeConsedEdge (IsGiven s.start) s.start s.end) (edges_of (members_of l s))
  pub used : All (CanBeRuntimeEdge (IsGiven s.end)) (edges_of (members_of l s))

-- consecutive groups, from a type on
abbrev pub MayBePlannedFrom : TypeList → ℕ → List GroupSpan → Type 0
MayBePlannedFrom l first [] = ⊤
MayBePlannedFrom l first (s ∷ ss) = (s.start ≡ first) × MayBePlanned l s × MayBePlannedFrom l s.end ss

-- the indices of a module, and the groups of it that are not kept yet
abbrev pub plan : Module → Groups → Plan
plan listed fresh = record { listed = listed; fresh = fresh }

-- ---- groups that are not kept yet

-- they have in turn the least indices that are not live
abbrev pub HaveFirstFree : List ℕ → Groups → Type 0
HaveFirstFree taken es = indices_of es ≡ free_indices taken (length (indices_of es))

-- the group at a position has these canonical members
pub record HasMembers (es : Groups) (p : ℕ) (c : List WasmSubType) : Type 0 where
  pub entry : ℕ × Group
  pub at : slice_get es p ≡ Some entry
  pub same : entry.1.canonical ≡ c

-- how many members they have, and the position of each by keys that are its canonical members
pub record AreFresh {Key : Type 0} (content : Key → List WasmSubType) (places : Key → Option ℕ) (members : ℕ) (es : Groups) : Type 0 where
  pub counted : members ≡ length (indices_of es)
  pub found : (p : ℕ) (e : ℕ × Group) → slice_get es p ≡ Some e → (key : Key) → content key ≡ e.1.canonical → places key ≡ Some p
  pub knows : (key : Key) (p : ℕ) → places key ≡ Some p → HasMembers es p (content key)
