use Rattle.std.proofs.Common.{◌≡◌, ◌<◌, ◌^◌, drop}
use Rattle.std.specs.Prelude.{map}
use Rattle.std.specs.List.{fold}
use Rattle.std.specs.Hash.FoldHasher as folding
use Rattle.module_types.specs.Passed.{code_of, words_of, fed_with}
use Rattle.module_types.proofs.passed.feed.Given as goal

-- the word and the remaining types are still to be fed
abbrev pub invariant-loop-ty : goal.invariant-loop-ty
invariant-loop-ty l = record {
  small : l.word < 2 ^ 60;
  fed : fold folding.write l.hasher (words_of l.word (map code_of (drop l.ty-index l.types))) ≡ fed_with l.fn.hasher l.types;
}
