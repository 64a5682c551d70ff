use Rattle.std.proofs.Common.{◌∙◌, sym}
use Rattle.import_match.specs.Rules.{HasEngineTypes}
use Rattle.import_match.specs.Definitions.{names_of}
use Rattle.import_match.proofs.Finding.{found-type}
use Rattle.import_match.proofs.imports.answer.Goals as goal

pub match_entity-requires-clause-have : goal.match_entity-requires-clause-have
match_entity-requires-clause-have c =
    found-type HasEngineTypes 0 c.args.definitions.now (names_of c.args.names.now) c.in-Some.number c.in-Some.have c.requires.definitions
    (sym c.find.ensures ∙ c.in-Some.is)
