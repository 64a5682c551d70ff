-- The mapped types that were recorded: each is in a list, and those of one digest are chained, from
-- the newest on.
use Rattle.std.specs.Prelude.{◌≡◌, ℕ, zero, suc, ◌<◌, nat_eq, cond, List, [], map, reverse, take, length, slice_get, Option, Some, None, IsSome}
use Rattle.std.specs.Option.{unwrap_or}
use Rattle.std.specs.Map.{lookup}
use Rattle.std.specs.HashMap.{get}
use Rattle.std.specs.Hash.FoldHasher as folding
use Rattle.entity_map.specs.declared.seed.Seeded.{Seeded}
use Rattle.wasm_types.specs.declared.func.WasmFuncType.{WasmFuncType}
use Rattle.wasm_types.specs.declared.sub.WasmSubType.{WasmSubType}
use Rattle.wasm_types.specs.contracts.equal.WasmFuncTypePartialEq.TheImpl as func
use Rattle.wasm_types.specs.Views.{func_in}
use Rattle.module_types.specs.Views.{TypeIndex}
use Rattle.module_types.specs.TypeParts.{part_at}
use Rattle.module_types.specs.Passed.{fed_with}
use Rattle.module_types.specs.declared.mapped_types.MappedType.{MappedType}
use Rattle.module_types.specs.declared.mapped_types.MappedTypes.{MappedTypes}

-- the default for the type at an index where there is no function type
abbrev pub no_function : WasmFuncType
no_function = record { params = []; results = [] }

-- a recorded function type: the type, its index in the list, and how many were recorded up to the
-- previous one with its digest
pub record MappedKey : Type 0 where
  pub key : WasmFuncType
  pub ty : TypeIndex
  pub before : ℕ

abbrev pub mapped_key_of : List WasmSubType → MappedType → MappedKey
mapped_key_of types m = record { key = unwrap_or (part_at func_in types m.ty) no_function; ty = m.ty; before = m.before }

abbrev pub mapped_keys : List WasmSubType → List MappedType → List MappedKey
mapped_keys types ms = map (mapped_key_of types) ms

abbrev pub entry_of : MappedKey → WasmFuncType × TypeIndex
entry_of r = (r.key, r.ty)

-- each type with its index, the newest first
abbrev pub entries_of : List MappedKey → List (WasmFuncType × TypeIndex)
entries_of rs = map entry_of (reverse rs)

-- the index of a type, if it was recorded
abbrev pub known_in : List MappedKey → WasmFuncType → Option TypeIndex
known_in rs f = lookup (func.ghosts.eq f) (entries_of rs)

abbrev pub mapped_at : List WasmSubType → MappedTypes → WasmFuncType → Option TypeIndex
mapped_at types m = known_in (mapped_keys types m.types.items)

-- ---- the chains

-- of what a trampoline passes for its types
unfoldable pub digest_of : Seeded → WasmFuncType → ℕ
digest_of hasher f = folding.finish (fed_with (fed_with hasher.first f.params) f.results)

-- how many were recorded up to the newest of a digest, or 0
abbrev pub newest_of : MappedTypes → ℕ → ℕ
newest_of m digest = unwrap_or (get nat_eq m.newest digest) 0

-- among the first `n` the chain from the position before `count` on has a type wherever it is
abbrev pub Leads : (WasmFuncType → ℕ) → List MappedKey → WasmFuncType → ℕ → ℕ → Type 0
Leads digest rs f zero n = known_in (take n rs) f ≡ None
Leads digest rs f (suc m) n =
    (m < n) × (known_in (take n rs) f ≡ known_in (take (suc m) rs) f) × ((r : MappedKey) → slice_get rs m ≡ Some r → digest r.key ≡ digest f)

-- the newest of each digest leads to all of it, and each recorded one leads to those before it
pub record AreChained (digest : WasmFuncType → ℕ) (newest : ℕ → ℕ) (rs : List MappedKey) : Type 0 where
  pub first : (f : WasmFuncType) → Leads digest rs f (newest (digest f)) (length rs)
  pub next : (i : ℕ) (r : MappedKey) → slice_get rs i ≡ Some r → (f : WasmFuncType) → digest f ≡ digest r.key → Leads digest rs f r.before i

-- each recorded type is in the list, and is found by its digest
pub record AreFoundByDigest (types : List WasmSubType) (m : MappedTypes) : Type 0 where
  pub standing : (i : ℕ) (t : MappedType) → slice_get m.types.items i ≡ Some t → IsSome (part_at func_in types t.ty)
  pub chained : AreChained (digest_of m.hasher) (newest_of m) (mapped_keys types m.types.items)

-- a type was recorded at an index
pub record IsNoted (types : List WasmSubType) (old new : MappedTypes) (f : WasmFuncType) (ty : TypeIndex) : Type 0 where
  pub linked : AreFoundByDigest types new
  pub puts : (q : WasmFuncType) → mapped_at types new q ≡ cond (func.ghosts.eq f q) (Some ty) (mapped_at types old q)
