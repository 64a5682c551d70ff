-- Reading of sections to the end of the bytes, and of modules.
use Rattle.std.specs.Prelude.{◌≡◌, ◌<◌, ◌≤◌, ℕ, zero, suc, ◌+◌, ◌-◌, List, [], ◌∷◌, ◌++◌, length, drop, Bool, ◌&&◌, nat_eq, Result, Ok, Err, if◌then◌else◌}
use Rattle.std.specs.List.{starts_with}
use Rattle.wasm_spec.specs.declared.operators.What.TheVariants as what
use Rattle.wasm_spec.specs.Module.{Module}
use Rattle.wasm_spec.specs.Grammar.{next_order, magic, header}
use Rattle.form_reader.specs.Reading.{Fault, Bad, Stops, Filler, Fails, and_then, measured_at}
use Rattle.form_reader.specs.declared.error.ReadError.{ReadError}
use Rattle.form_reader.specs.SectionRows.{section}

-- sections to the end of the bytes, from an offset on, in at most k steps
unfoldable pub sections_at : ℕ → ℕ → ℕ → Filler Module
sections_at k place next [] = Ok []
sections_at zero place next (b ∷ bytes) = Err Bad
sections_at (suc k) place next (b ∷ bytes) =
    and_then (measured_at (section place next).read (b ∷ bytes))
    (λ p. and_then (sections_at k (place + p.0.1) (next_order next p.0.0) p.1) (λ ps. Ok (p.0.0 ∷ ps)))

-- each section takes a byte at least
abbrev pub all_sections_at : ℕ → ℕ → Filler Module
all_sections_at place next bytes = sections_at (length bytes) place next bytes

-- ---- some of the sections

-- what was read before, and what remains to be read
abbrev pub with_payloads : Module → Result Module Fault → Result Module Fault
with_payloads front read = and_then read (λ ps. Ok (front ++ ps))

-- up to a later offset, and a later order, these sections are read, whatever follows
pub record Passes (place next : ℕ) (old : List ℕ) (front : Module) (later after : ℕ) (new : List ℕ) : Type 0 where
  pub fits : length front + length new ≤ length old
  pub reads : (k : ℕ) → sections_at (length front + k) place next old ≡ with_payloads front (sections_at k later after new)

-- sections were read and the new bytes remain, or reading of all of the old ones fails
abbrev pub ReadsSections : {A : Type 0} → (A → Module) → (place next after : ℕ) (old new : List ℕ) → Result A ReadError → Type 0
ReadsSections view place next after old new (Ok x) =
    Passes place next old (view x) (place + (length old - length new)) after new × (length new < length old)
ReadsSections view place next after old new (Err e) = (k : ℕ) → 0 < length old → length old ≤ k → Fails e (sections_at k place next old)

-- ---- modules

-- the header of a component
abbrev pub is_component : List ℕ → Bool
is_component bytes = starts_with nat_eq bytes magic && starts_with nat_eq (drop 6 bytes) (0x01 ∷ 0x00 ∷ [])

unfoldable pub module_at : Filler Module
module_at bytes =
    if starts_with nat_eq bytes header then all_sections_at 8 0 (drop 8 bytes)
    else (if is_component bytes then Err (Stops what.Component) else Err Bad)
