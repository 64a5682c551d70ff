-- How many entries the sections of a module list (core specification, 2.5).
use Rattle.std.specs.Prelude.{◌≢◌, ℕ, ◌<◌, ◌≤◌, ◌^◌, List, length, All}
use Rattle.std.specs.List.{flat_map}
use Rattle.wasm_spec.specs.Module as plain
use Rattle.wasm_spec.specs.Module.{Module}
use Rattle.wasm_spec.specs.Grammar.{Spells, section_id}
use Rattle.wasm_spec.specs.Interfaces.{HasNoInterfaceTypes}
use Rattle.refusal_place.specs.declared.kind.SectionKind.{SectionKind}
use Rattle.refusal_place.specs.declared.kind.SectionKind.TheVariants as kind
use Rattle.refusal_place.specs.Kinds.{id_of}

-- how many entries the sections of a kind list: of the type section recursion groups; custom, start
-- and data count sections list none
abbrev pub listed_count : SectionKind → Module → ℕ
listed_count kind.Type m = length (plain.groups m)
listed_count kind.Import m = length (plain.imports m)
listed_count kind.Function m = length (flat_map plain.function_types_of_section m)
listed_count kind.Table m = length (flat_map plain.tables_of_section m)
listed_count kind.Memory m = length (plain.defined_memories m)
listed_count kind.Tag m = length (flat_map plain.tags_of_section m)
listed_count kind.Global m = length (flat_map plain.globals_of_section m)
listed_count kind.Export m = length (flat_map plain.exports_of_section m)
listed_count kind.Element m = length (flat_map plain.elements_of_section m)
listed_count kind.Code m = length (flat_map plain.bodies_of_section m)
listed_count kind.Data m = length (plain.segments m)
listed_count kind.Custom m = 0
listed_count kind.Start m = 0
listed_count kind.DataCount m = 0

-- where fewer than 2^30 bytes spell a module that is supported, the sections of the kind list at
-- most so many entries
abbrev pub ListsAtMost : List ℕ → SectionKind → ℕ → Type 0
ListsAtMost bytes k count = length bytes < 2 ^ 30 → (m : Module) → Spells bytes m → HasNoInterfaceTypes m → listed_count k m ≤ count

-- where fewer than 2^30 bytes spell a module that is supported, it has no section of the kind
abbrev pub HasNoSection : List ℕ → SectionKind → Type 0
HasNoSection bytes k = length bytes < 2 ^ 30 → (m : Module) → Spells bytes m → HasNoInterfaceTypes m → All (λ p. section_id p ≢ id_of k) m
