-- What an interner holds.
use Rattle.std.specs.Prelude.{◌≡◌, ℕ, false, List, length, Option, Some, None}
use Rattle.entity_map.specs.declared.seed.Seeded.{Seeded}
use Rattle.wasm_types.specs.declared.func.WasmFuncType.{WasmFuncType}
use Rattle.wasm_types.specs.Trampolines.{trampoline_of}
use Rattle.module_types.specs.Views.{TypeIndex}
use Rattle.module_types.specs.declared.interner.Trampoline.{Trampoline}
use Rattle.module_types.specs.declared.interner.Trampoline.TheVariants.{Known, Itself, New}
use Rattle.wasm_types.specs.contracts.equal.WasmFuncTypePartialEq.TheImpl as func
use Rattle.wasm_spec.specs.TypeData.{Func}
use Rattle.type_spec.specs.Interned.{Called, Built, plain, alone, with_trampoline, knows}
use Rattle.module_types.specs.Orderly.{IsOrderly}
use Rattle.module_types.specs.declared.interner.Interner.{Interner}
use Rattle.module_types.specs.Held.{built_of}
use Rattle.module_types.specs.IndicesByKey.{noted_at}
use Rattle.module_types.specs.Builder.{Builder, new_builder}
use Rattle.module_types.specs.MappedTypes.{digest_of, mapped_at, AreFoundByDigest}

-- where the recorded function types are
abbrev pub known : Interner → WasmFuncType → Option TypeIndex
known i = mapped_at i.list.types i.mapped_types

abbrev pub built : Interner → Built
built i = built_of i.list (known i)

-- each recorded type is found
abbrev pub FindsMapped : Interner → Type 0
FindsMapped i = AreFoundByDigest i.list.types i.mapped_types

-- the same, with the ids of its groups, as a builder that holds nothing else
abbrev pub holding : Built → List (Option ℕ) → Builder
holding b ids = record (new_builder 0) { built = b; ids = noted_at ids }

-- between growing calls
pub record InternerIsSound (i : Interner) : Type 0 where
  pub orderly : IsOrderly (built i)
  pub found : FindsMapped i

-- the type at an index gets the trampoline that comes next, of a mapped type
abbrev pub with_next_trampoline : Built → ℕ → Called → Built
with_next_trampoline b i f = let k = length b.types in alone (with_trampoline (knows b f k) i k) (plain (Func f)) (Some k)

-- what is found of the mapped type of a function type
abbrev pub IsTrampoline : (WasmFuncType → Option TypeIndex) → Seeded → WasmFuncType → Trampoline → Type 0
IsTrampoline at hasher f (Known found) = at (trampoline_of f) ≡ Some found
IsTrampoline at hasher f (Itself digest) = (at (trampoline_of f) ≡ None) × (digest ≡ digest_of hasher (trampoline_of f)) × (trampoline_of f ≡ f)
IsTrampoline at hasher f (New digest key) =
    (at (trampoline_of f) ≡ None) × (digest ≡ digest_of hasher (trampoline_of f)) × (key ≡ trampoline_of f) × (func.ghosts.eq (trampoline_of f) f ≡ false)
