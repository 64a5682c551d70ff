-- The options of a command without a switch, for the worked example.
use Rattle.std.specs.Prelude.{None}
use Rattle.command_words.specs.Commands.{plain_command}
use Rattle.translate.specs.Options.{Options, options_of}

abbrev pub plain_options : Options
plain_options = options_of (plain_command None)
