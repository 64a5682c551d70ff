-- Which custom sections of a module hold debug information.
use Rattle.std.specs.Prelude.{Bool, false}
use Rattle.wasm_spec.specs.Module as plain
use Rattle.custom_sections.specs.DebugNames.{is_debug}

-- a custom section of debug information, by its name
abbrev pub is_debug_section : plain.Payload → Bool
is_debug_section (plain.Custom name bytes) = is_debug name
is_debug_section _ = false
