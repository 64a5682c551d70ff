-- The digest by which names are ordered.
use Rattle.std.specs.Prelude.{ℕ, List, [], ◌∷◌}
use Rattle.std.specs.Hash.DefaultHasher as sip

-- SipHash of the first name, a byte that no text has, and the second
abbrev pub digest_of : List ℕ → List ℕ → ℕ
digest_of from own = sip.finish (sip.write (sip.write (sip.write sip.initial from) (0xff ∷ [])) own)
