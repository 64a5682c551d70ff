-- How large defined memories and tables may be.
use Rattle.std.specs.Prelude.{◌⊎◌, ℕ, ◌<◌, List, drop, unwrap_or, sum_by}
use Rattle.wasm_types.specs.declared.memory.Memory.{Memory}
use Rattle.wasm_types.specs.Memories.{minimum_bytes}
use Rattle.init_plan.specs.declared.translation.ModuleTranslation.{ModuleTranslation}
use Rattle.init_plan.specs.Tables.{own_tables}
use Rattle.paged_memory.specs.Memory.{page_count}

abbrev pub most_bytes : ℕ
most_bytes = 268435456

abbrev pub most_pages : ℕ
most_pages = 1048576

abbrev pub most_cells : ℕ
most_cells = 4194304

-- the types of the defined memories
abbrev pub own_memories : ModuleTranslation → List Memory
own_memories t = drop t.module.num_imported_memories t.module.memories

-- the page size of defined memories: the alignment of images, or 4096
abbrev pub page_size_of : ModuleTranslation → ℕ
page_size_of t = unwrap_or t.data_align 4096

-- the minimum sizes of the defined memories, their pages, or the minimum sizes of the defined
-- tables pass what they may be together
abbrev pub IsTooLarge : ModuleTranslation → Type 0
IsTooLarge t = (most_bytes < sum_by minimum_bytes (own_memories t))
    ⊎ ((most_pages < sum_by (λ memory. page_count (page_size_of t) (minimum_bytes memory)) (own_memories t))
    ⊎ (most_cells < sum_by (λ table. table.limits.min) (own_tables t)))
