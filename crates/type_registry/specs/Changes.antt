-- How a registration and a release change a registry.
use Rattle.std.specs.Prelude.{◌≡◌, ◌<◌, ℕ, zero, suc, ◌+◌, ◌-◌, ◌⊎◌, nat_eq, nat_le, List, [], ◌∷◌, ◌++◌, map, length, get_or, take, drop, Option, Some, None, if◌then◌else◌}
use Rattle.std.specs.List.{list_any}
use Rattle.std.specs.Map.{lookup, set_value, remove_entry}
use Rattle.wasm_spec.specs.TypeData as types
use Rattle.wasm_spec.specs.TypeData.{map_group, group_edges}
use Rattle.type_spec.specs.Names.{named, index_of as index_in}
use Rattle.type_spec.specs.Interned.{GroupSpan}
use Rattle.wasm_index.specs.Index.{number_of, index_of}
use Rattle.wasm_types.specs.declared.index.EngineOrModuleTypeIndex.{EngineOrModuleTypeIndex}
use Rattle.wasm_types.specs.declared.sub.WasmSubType.{WasmSubType}
use Rattle.wasm_types.specs.contracts.equal_groups.WasmRecGroupPartialEq.TheImpl as groups_equal
use Rattle.wasm_types.specs.ValueViews.{Name}
use Rattle.wasm_types.specs.TypeViews.{group_of}
use Rattle.wasm_types.specs.ViewsTell.{group_back}
use Rattle.wasm_trace.specs.Canonical.{consed_edge}
use Rattle.module_types.specs.Views.{TypeIndex, span_of}
use Rattle.module_types.specs.TypeList.{TypeList}
use Rattle.module_types.specs.ListGroups.{EngineMap}
use Rattle.type_registry.specs.Registry.{Registry, Groups, Group, Module, indices_of, live}

-- ---- indices that are free

-- a number past all of some
abbrev pub past : List ℕ → ℕ
past [] = 0
past (i ∷ is) = i + 1 + past is

-- the least number from one on that is not among some, of so many at most
abbrev pub least_from : List ℕ → ℕ → ℕ → ℕ
least_from taken i zero = i
least_from taken i (suc n) = if list_any (nat_eq i) taken then least_from taken (i + 1) n else i

abbrev pub least_free : List ℕ → ℕ
least_free taken = least_from taken 0 (past taken)

-- in turn the least number that is not used
abbrev pub free_indices : List ℕ → ℕ → List ℕ
free_indices taken zero = []
free_indices taken (suc n) = least_free taken ∷ free_indices (least_free taken ∷ taken) n

-- ---- canonical groups

-- the engine's index of each type of a module, as far as they are given
abbrev pub given : List ℕ → EngineMap
given indices i = index_of (get_or indices (number_of i) 0)

-- the types of a span
abbrev pub members_of : TypeList → GroupSpan → List WasmSubType
members_of l s = take (s.end - s.start) (drop s.start l.types)

-- the references of types, in order
abbrev pub edges_of : List WasmSubType → List EngineOrModuleTypeIndex
edges_of ts = group_edges index_in (group_of ts)

-- a type of a module of which so many have an index
abbrev pub IsGiven : ℕ → TypeIndex → Type 0
IsGiven n i = number_of i < n

-- references inside the group by their positions, and all others by the engine's indices
abbrev pub canonical_data : TypeList → List ℕ → GroupSpan → types.Group Name EngineOrModuleTypeIndex
canonical_data l indices s =
    map_group (named (consed_edge (given indices) s.start)) (consed_edge (given indices) s.start) (group_of (members_of l s))

abbrev pub canonical_of : TypeList → List ℕ → GroupSpan → List WasmSubType
canonical_of l indices s = group_back.back (canonical_data l indices s)

-- ---- the groups of a module, in order

-- the engine's indices of the module so far, and the groups that are not kept yet
pub record Plan : Type 0 where
  pub listed : Module
  pub fresh : Groups

abbrev pub begun : Plan
begun = record { listed = record { indices = []; groups = [] }; fresh = [] }

abbrev pub find_group : List WasmSubType → Groups → Option Group
find_group canonical [] = None
find_group canonical (e ∷ es) = if groups_equal.ghosts.eq e.1.canonical canonical then Some e.1 else find_group canonical es

abbrev pub first_index : Group → ℕ
first_index g = get_or g.indices 0 0

-- one more group of the module, whose members have these indices
abbrev pub with_indices : Module → List ℕ → Module
with_indices m is = record { indices = m.indices ++ is; groups = m.groups ++ get_or is 0 0 ∷ [] }

abbrev pub with_group : Module → Group → Module
with_group m g = with_indices m g.indices

-- a group that no module has yet
abbrev pub new_group : List WasmSubType → List ℕ → Group
new_group canonical free = record { canonical = canonical; indices = free; count = 0 }

abbrev pub at_first : Group → ℕ × Group
at_first g = (first_index g, g)

-- a new group whose types take in turn the least indices that are not live
abbrev pub next_group : Groups → Groups → List WasmSubType → ℕ → Group
next_group gs fresh canonical n = new_group canonical (free_indices (indices_of (gs ++ fresh)) n)

-- a group that is known keeps its indices
abbrev pub take_group : Plan → Group → Option Group → Plan
take_group p new (Some g) = record p { listed = with_group p.listed g }
take_group p new None = record { listed = with_group p.listed new; fresh = p.fresh ++ at_first new ∷ [] }

abbrev pub size_of : GroupSpan → ℕ
size_of s = s.end - s.start

abbrev pub plan_group : Groups → TypeList → Plan → GroupSpan → Plan
plan_group gs l p s =
    let canonical = canonical_of l p.listed.indices s in
    take_group p (next_group gs p.fresh canonical (size_of s)) (find_group canonical (gs ++ p.fresh))

abbrev pub plan_groups : Groups → TypeList → Plan → List GroupSpan → Plan
plan_groups gs l p [] = p
plan_groups gs l p (s ∷ ss) = plan_groups gs l (plan_group gs l p s) ss

abbrev pub planned : Registry → TypeList → Plan
planned r l = plan_groups r.groups l begun (map span_of l.groups)

-- how many members the groups that are not kept yet have in sum, each group once
abbrev pub fresh : Registry → TypeList → ℕ
fresh r l = length (indices_of (planned r l).fresh)

-- there would be more types than may be live, or no number remains for the key
abbrev pub IsFull : Registry → TypeList → Type 0
IsFull r l = (r.max_types < length (live r) + fresh r l) ⊎ (r.registrations ≡ 18446744073709551615)

-- ---- a registration

-- a group at its first index, in their order
abbrev pub keep_group : Groups → ℕ → Group → Groups
keep_group [] first g = (first, g) ∷ []
keep_group (e ∷ es) first g = if nat_le first e.0 then (first, g) ∷ e ∷ es else e ∷ keep_group es first g

abbrev pub keep_groups : Groups → Groups → Groups
keep_groups gs [] = gs
keep_groups gs (e ∷ es) = keep_groups (keep_group gs e.0 e.1) es

abbrev pub count_group : Groups → ℕ → Option Group → Groups
count_group gs first None = gs
count_group gs first (Some g) = set_value (nat_eq first) gs (record g { count = g.count + 1 })

-- each group that a module has counts once more
abbrev pub count_groups : Groups → List ℕ → Groups
count_groups gs [] = gs
count_groups gs (first ∷ firsts) = count_groups (count_group gs first (lookup (nat_eq first) gs)) firsts

abbrev pub with_module : (ℕ → Option Module) → ℕ → Module → ℕ → Option Module
with_module held key m k = if nat_eq key k then Some m else held k

-- the module's new groups are kept, and each of its groups counts once more
abbrev pub registered : Registry → TypeList → Registry
registered r l = record r {
  registrations = r.registrations + 1;
  held = with_module r.held r.registrations (planned r l).listed;
  groups = count_groups (keep_groups r.groups (planned r l).fresh) (planned r l).listed.groups;
}

-- ---- a release

-- the count of the group at a first index changes
abbrev pub with_count : Groups → ℕ → ℕ → Option Group → Groups
with_count gs first n None = gs
with_count gs first n (Some g) = set_value (nat_eq first) gs (record g { count = n })

abbrev pub leave_group : Groups → ℕ → Option Group → Groups
leave_group gs first None = gs
leave_group gs first (Some g) =
    if nat_le g.count 1 then remove_entry (nat_eq first) gs else set_value (nat_eq first) gs (record g { count = g.count - 1 })

-- each group counts once less, and one that no module has any more is removed
abbrev pub leave_groups : Groups → List ℕ → Groups
leave_groups gs [] = gs
leave_groups gs (first ∷ firsts) = leave_groups (leave_group gs first (lookup (nat_eq first) gs)) firsts

abbrev pub without_module : (ℕ → Option Module) → ℕ → ℕ → Option Module
without_module held key k = if nat_eq key k then None else held k

abbrev pub released_by : Registry → ℕ → Option Module → Registry
released_by r key None = r
released_by r key (Some m) = record r { held = without_module r.held key; groups = leave_groups r.groups m.groups }

abbrev pub released : Registry → ℕ → Registry
released r key = released_by r key (r.held key)
