-- The command grammar.
use Rattle.std.specs.Prelude.{◌≡◌, ◌⊎◌, ◌≤◌, ℕ, List, [], ◌∷◌, ◌++◌, map, nat_eq, false, Option, None, Some, IfSome, codes, decimal}
use Rattle.std.specs.Int.{IsPowerOfTwo}
use Rattle.std.specs.List.{AllByRecursion, IsDistinct}
use Rattle.command_words.specs.declared.command.Command.{Command}
use Rattle.command_words.specs.declared.command.Collector.TheVariants.{Drc}
use Rattle.command_words.specs.declared.settings.Setting.{Setting}
use Rattle.command_words.specs.Options.{row, IsAllowed}

-- the command without any option
abbrev pub plain_command : Option ℕ → Command
plain_command generate = record {
  generate = generate;
  tunables = record {
    debug_native = false;
    debug_guest = false;
    parse_wasm_debuginfo = false;
    branch_hinting = false;
    memory_init_cow = false;
    table_lazy_init = false;
    signals_based_traps = false;
  };
  page_size = 4096;
  max_image = 1048576;
  ptr = 8;
  collector = Drc;
}

-- the words before the options
abbrev pub head_words : Option ℕ → List (List ℕ)
head_words None = codes "plan" ∷ []
head_words (Some n) = codes "generate" ∷ decimal n ∷ []

-- a module that can be made
abbrev pub IsMade : ℕ → Type 0
IsMade n = (1 ≤ n) × (n ≤ 100000)

-- the command with the options set in turn
abbrev pub with_settings : Command → List Setting → Command
with_settings command [] = command
with_settings command (s ∷ settings) = with_settings ((row s).sets command) settings

-- the words are options, no two of one kind, which make `command` of `plain`
pub record Chooses (words : List (List ℕ)) (plain command : Command) : Type 0 where
  pub settings : List Setting
  pub spelled : words ≡ map (λ s. (row s).word) settings
  pub allowed : AllByRecursion IsAllowed settings
  pub once : IsDistinct nat_eq (map (λ s. (row s).kind) settings)
  pub chosen : command ≡ with_settings plain settings

-- the words name the command
pub record Names (words : List (List ℕ)) (command : Command) : Type 0 where
  pub generate : Option ℕ
  pub options : List (List ℕ)
  pub head : words ≡ head_words generate ++ options
  pub made : IfSome generate IsMade
  pub chooses : Chooses options (plain_command generate) command

-- a translation can be made with the command's options
pub record IsUsable (command : Command) : Type 0 where
  pub pointer : (command.ptr ≡ 4) ⊎ (command.ptr ≡ 8)
  pub page_size : IsPowerOfTwo command.page_size
  pub made : IfSome command.generate IsMade
