-- Why there are no segments.
use Rattle.std.specs.Prelude.{◌≡◌, ◌⊎◌, ℕ, ◌^◌, ◌≤◌, List, length, Result, Ok, Err}
use Rattle.wasm_spec.specs.declared.operators.What.{What}
use Rattle.wasm_spec.specs.Module.{Module}
use Rattle.wasm_spec.specs.Grammar.{Spells, Stops}
use Rattle.form_reader.specs.declared.error.ReadError.{ReadError}
use Rattle.form_reader.specs.declared.error.ReadError.TheVariants as read

-- the bytes spell no module, and reading them reaches nothing that is not supported
abbrev pub IsMalformed : List ℕ → Type 0
IsMalformed bytes = ((m : Module) → ¬ Spells bytes m) × ((what : What) → ¬ Stops bytes what)

-- why the bytes are not read
abbrev pub HasReadCause : List ℕ → ReadError → Type 0
HasReadCause bytes read.Malformed = IsMalformed bytes
HasReadCause bytes (read.Unsupported what) = Stops bytes what
HasReadCause bytes read.TooLarge = 2 ^ 30 ≤ length bytes
HasReadCause bytes read.OutOfMemory = Unit {0}

-- they are malformed, not supported or too large
abbrev pub IsUnread : List ℕ → Type 0
IsUnread bytes = IsMalformed bytes ⊎ ((what : What) × Stops bytes what) ⊎ (2 ^ 30 ≤ length bytes)

-- there are segments, or no memory for them
abbrev pub SucceedsOrNoMemory : {A : Type 0} → Result A ReadError → Type 0
SucceedsOrNoMemory (Ok answer) = Unit {0}
SucceedsOrNoMemory (Err e) = e ≡ read.OutOfMemory
