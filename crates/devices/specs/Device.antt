-- How bytes move out of a source and into a sink, each of which may report its bytes or not.
use Rattle.std.specs.Prelude.{◌≡◌, ◌<◌, ◌⊎◌, ℕ, zero, suc, List, [], ◌++◌, Option, Some, None, length, take}
use Rattle.devices.specs.Counter.{raised_by}

-- the front was removed from a source's bytes and the rest remains, where the source reports its
-- bytes
abbrev pub TellsFront : Option (List ℕ) → List ℕ → Option (List ℕ) → Type 0
TellsFront (Some old) front (Some new) = old ≡ front ++ new
TellsFront (Some old) front None = ⊥
TellsFront None front new = new ≡ None

-- no byte remains in a source, where it reports its bytes
abbrev pub NothingLeft : Option (List ℕ) → Type 0
NothingLeft (Some bytes) = bytes ≡ []
NothingLeft None = Unit {0}

-- the front was appended to a sink's bytes, where the sink reports them
abbrev pub AppendsFront : Option (List ℕ) → List ℕ → Option (List ℕ) → Type 0
AppendsFront (Some old) front (Some new) = new ≡ old ++ front
AppendsFront (Some old) front None = ⊥
AppendsFront None front new = new ≡ None

-- some of the text was appended to a sink's bytes, and not all of it
abbrev pub AppendsPart : Option (List ℕ) → List ℕ → Option (List ℕ) → Type 0
AppendsPart old text new = (n : ℕ) × (n < length text) × AppendsFront old (take n text) new

-- ---- the end of a source that does not report its bytes

-- how many reads were made since the first that moved no byte, if one did, after a read that moved
-- n bytes
abbrev pub since_end_after : ℕ → Option ℕ → Option ℕ
since_end_after zero None = Some 0
since_end_after (suc n) None = None
since_end_after n (Some reads) = Some (raised_by 1 reads)

-- a read that failed comes before the end, like one that moved some bytes
abbrev pub since_end_after_fault : Option ℕ → Option ℕ
since_end_after_fault = since_end_after 1

-- no read was made after the first that moved no byte
abbrev pub IsNotPassed : Option ℕ → Type 0
IsNotPassed since_end = (since_end ≡ None) ⊎ (since_end ≡ Some 0)
