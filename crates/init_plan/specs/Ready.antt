-- When a translation's memories may be planned.
use Rattle.std.specs.Prelude.{◌≡◌, ℕ, ◌⊎◌, ◌^◌, ◌<◌, ◌≤◌, [], length, map, All, nat_eq, None}
use Rattle.std.specs.List.{IsDistinct}
use Rattle.entity_map.specs.Secondary.{value_at}
use Rattle.init_plan.specs.declared.translation.ModuleTranslation.{ModuleTranslation}
use Rattle.init_plan.specs.Views.{initializers_of, passive_data_of, ranges_of, IsSegmented, IsUnprocessed}

-- nothing is planned yet, and all indices are in range
pub record MemoryHalfIsReady (t : ModuleTranslation) : Type 0 where
  pub unprocessed : IsUnprocessed t.memory_init
  pub segmented : IsSegmented t.module.memory_initialization
  pub no_ranges : ranges_of t.module ≡ []
  pub no_runtime : t.runtime_data ≡ []
  pub no_alignment : t.data_align ≡ None
  pub nothing_found : (n : ℕ) → value_at t.runtime_data_map n ≡ None
  pub imports : t.module.num_imported_memories ≤ length t.module.memories
  pub few_memories : length t.module.memories < 2 ^ 30
  pub page_sizes : All (λ m. (m.page_size_log2 ≡ 0) ⊎ (m.page_size_log2 ≡ 16)) t.module.memories
  pub few_segments : length (initializers_of t) < 2 ^ 30
  pub in_range : All (λ s. s.memory < length t.module.memories) (initializers_of t)
  pub few_passive : length (passive_data_of t) < 2 ^ 30
  pub distinct : IsDistinct nat_eq (map (λ p. p.0) (passive_data_of t))
  pub numbered : All (λ p. p.0 < 4294967295) (passive_data_of t)
