use Rattle.std.proofs.Common.{◌≡◌, drop, map, length}
use Rattle.std.specs.Prelude.{string_bytes}
use Rattle.command_words.specs.declared.command.Command.{Command}
use Rattle.command_words.specs.Commands.{Chooses}
use Rattle.command_words.proofs.Reading.{Reads}
use Rattle.command_words.proofs.words.with_options.Given as goal

-- what is named is what the remaining words name
abbrev pub invariant-loop-word : goal.invariant-loop-word
invariant-loop-word l = record {
  sized : length l.seen ≡ 9;
  ahead : (command : Command) → Chooses (map string_bytes l.words) l.fn.plain command
      → Reads l.seen (map string_bytes (drop l.word-index l.words)) l.command command;
  behind : (command : Command) → Reads l.seen (map string_bytes (drop l.word-index l.words)) l.command command
      → Chooses (map string_bytes l.words) l.fn.plain command;
}
