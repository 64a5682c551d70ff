use Rattle.std.proofs.Common.{◌≡◌, drop}
use Rattle.import_match.specs.Linking.{wanted}
use Rattle.import_match.specs.Resolving.{resolved}
use Rattle.import_match.proofs.Answered.{run, before_all}
use Rattle.import_match.proofs.imports.resolve_imports.Given as goal

-- the numbers so far, with the result for the remaining imports, are the result
abbrev pub invariant-loop-place : goal.invariant-loop-place
invariant-loop-place l =
    before_all l.numbers.items
    (run l.definitions l.place (drop l.place (wanted l.registry l.key l.module)))
    ≡ resolved l.definitions (wanted l.registry l.key l.module)
