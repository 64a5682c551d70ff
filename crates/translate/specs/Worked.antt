-- The options of a command with `--cow`, for the worked examples.
use Rattle.std.specs.Prelude.{true, None}
use Rattle.command_words.specs.Commands.{plain_command}
use Rattle.translate.specs.Options.{Options, options_of}

abbrev pub cow_options : Options
cow_options = let plain = plain_command None in options_of (record plain { tunables = record plain.tunables { memory_init_cow = true } })
