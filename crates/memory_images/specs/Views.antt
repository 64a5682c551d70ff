-- The memories, segments and settings of the code, as the plain values of the definitions.
use Rattle.std.specs.Prelude.{Bool, true, false}
use Rattle.wasm_index.specs.Index.{number_of}
use Rattle.wasm_types.specs.declared.limits.IndexType.{IndexType}
use Rattle.wasm_types.specs.declared.limits.IndexType.TheVariants as index
use Rattle.wasm_types.specs.declared.memory.Memory.{Memory}
use Rattle.wasm_convert.specs.Constants.{expression_of}
use Rattle.wasm_module.specs.declared.memory_initialization.MemoryInitializer.{MemoryInitializer}
use Rattle.replay_spec.specs.Data.{ActiveSegment}
use Rattle.replay_spec.specs.Images.{ImageOptions, ImageMemory}
use Rattle.memory_images.specs.declared.settings.ImageSettings.{ImageSettings}

abbrev pub active_segment_of : MemoryInitializer → ActiveSegment
active_segment_of s = record { memory = number_of s.memory_index; offset = expression_of s.offset; bytes = s.bytes.now }

abbrev pub is_wide : IndexType → Bool
is_wide index.I32 = false
is_wide index.I64 = true

abbrev pub image_memory : Memory → ImageMemory
image_memory m = record { wide = is_wide m.idx_type; pages = m.limits.min; page_log2 = m.page_size_log2 }

abbrev pub options_of : ImageSettings → ImageOptions
options_of s = record { enabled = s.enabled; page = s.page_size; max_image = s.max_image }
