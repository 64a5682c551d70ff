use Rattle.std.proofs.Common.{All, sym, subst}
use Rattle.std.proofs.lemmas.List.Elements.{All-push}
use Rattle.import_match.specs.Rules.{HasEngineTypes}
use Rattle.import_match.specs.Definitions.{Definition, names_of}
use Rattle.import_match.proofs.linker.Linker.define.Goals as goal

pub invariant_of-self-2 : goal.invariant_of-self-2
invariant_of-self-2 c = (
  subst (All (λ (d : Definition). HasEngineTypes d.1)) (sym c.in_ok-append.ensures.ok)
      (All-push (λ (d : Definition). HasEngineTypes d.1) c.self.inside.definitions (names_of c.in_ok-names.names, c.args.ty) c.self.invariant.0 c.requires),
  c.in_ok-append.ensures.once,
)
