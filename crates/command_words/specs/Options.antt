-- The options of a command.
use Rattle.std.specs.Prelude.{◌^◌, ◌<◌, ℕ, List, ◌++◌, true, codes, decimal}
use Rattle.std.specs.Int.{IsPowerOfTwo}
use Rattle.wasm_types.specs.declared.tunables.Tunables.{Tunables}
use Rattle.command_words.specs.declared.command.Command.{Command}
use Rattle.command_words.specs.declared.command.Collector.TheVariants.{Drc, Null}
use Rattle.command_words.specs.declared.settings.Setting.{Setting}
use Rattle.command_words.specs.declared.settings.Setting.TheVariants.{Cow, LazyTables, BranchHints, NativeDebug, GuestDebug}
use Rattle.command_words.specs.declared.settings.Setting.TheVariants.{Page, MaxImage, Ptr4, Ptr8, GcDrc, GcNull}

-- an option: its kind, of which a command has one at most, its word, and what it sets
pub record OptionRow : Type 0 where
  pub kind : ℕ
  pub word : List ℕ
  pub sets : Command → Command

-- the option that changes the switches so
abbrev pub switch : ℕ → List ℕ → (Tunables → Tunables) → OptionRow
switch kind word f = record { kind = kind; word = word; sets = λ c. record c { tunables = f c.tunables } }

-- the table of the options
abbrev pub row : Setting → OptionRow
row Cow = switch 0 (codes "--cow") (λ t. record t { memory_init_cow = true })
row LazyTables = switch 1 (codes "--lazy-tables") (λ t. record t { table_lazy_init = true })
row BranchHints = switch 2 (codes "--branch-hints") (λ t. record t { branch_hinting = true })
row NativeDebug = switch 3 (codes "--native-debug") (λ t. record t { debug_native = true })
row GuestDebug = switch 4 (codes "--guest-debug") (λ t. record t { debug_guest = true })
row (Page n) = record { kind = 5; word = codes "--page=" ++ decimal n; sets = λ c. record c { page_size = n } }
row (MaxImage n) = record { kind = 6; word = codes "--max-image=" ++ decimal n; sets = λ c. record c { max_image = n } }
row Ptr4 = record { kind = 7; word = codes "--ptr=4"; sets = λ c. record c { ptr = 4 } }
row Ptr8 = record { kind = 7; word = codes "--ptr=8"; sets = λ c. record c { ptr = 8 } }
row GcDrc = record { kind = 8; word = codes "--gc=drc"; sets = λ c. record c { collector = Drc } }
row GcNull = record { kind = 8; word = codes "--gc=null"; sets = λ c. record c { collector = Null } }

-- the values that an option may have
abbrev pub IsAllowed : Setting → Type 0
IsAllowed (Page n) = IsPowerOfTwo n × (n < 2 ^ 64)
IsAllowed (MaxImage n) = n < 2 ^ 64
IsAllowed _ = Unit {0}
