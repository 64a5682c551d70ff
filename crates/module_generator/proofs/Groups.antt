-- Numbers, seven bits to a byte.
use Rattle.std.proofs.Common.{◌≡◌, ℕ, zero, suc, ◌+◌, ◌*◌, ◌/◌, ◌%◌, ◌^◌, ◌<◌, ◌≤◌, List, [], ◌∷◌, ◌++◌, ap, sym, ◌∙◌, refl, append_assoc, arith}
use Rattle.std.proofs.lemmas.Bool.{lt-ltb, le-ltb}
use Rattle.std.proofs.Math.Nat.{pow-suc}
use Rattle.module_generator.specs.Spelling.{groups}

groups-last : (top more n : ℕ) → n < top → groups top more n ≡ n ∷ []
unfolding groups
groups-last top zero n last = refl
groups-last top (suc more) n last = rw (lt-ltb n top last)

groups-more : (top more n : ℕ) → top ≤ n → groups top (suc more) n ≡ (n % 128 + 128) ∷ groups top more (n / 128)
unfolding groups
groups-more top more n longer = rw (le-ltb n top longer)

-- with the spelling of what remains, the bytes are complete
pub record Spelled (bytes : List ℕ) (top rest : ℕ) (whole : List ℕ) : Type 0 where
  pub more : ℕ
  pub within : rest < 64 * 128 ^ more
  pub becomes : bytes ++ groups top more rest ≡ whole

step : (bytes whole : List ℕ) (top rest byte more : ℕ) → 64 ≤ top → top ≤ rest → byte ≡ rest % 128 + 128 → rest < 64 * 128 ^ more
    → bytes ++ groups top more rest ≡ whole → Spelled (bytes ++ byte ∷ []) top (rest / 128) whole
step bytes whole top rest byte zero low longer is within becomes = absurd (omega arith)
step bytes whole top rest byte (suc more) low longer is within becomes = record {
  more = more;
  within = let power = pow-suc 128 more in omega arith;
  becomes =
      append_assoc bytes (byte ∷ []) (groups top more (rest / 128))
      ∙ ap (λ b. bytes ++ b ∷ groups top more (rest / 128)) is
      ∙ ap (λ bs. bytes ++ bs) (sym (groups-more top more rest longer))
      ∙ becomes;
}

pub spelled-next : (bytes whole : List ℕ) (top rest byte : ℕ) → 64 ≤ top → top ≤ rest → byte ≡ rest % 128 + 128
    → Spelled bytes top rest whole → Spelled (bytes ++ byte ∷ []) top (rest / 128) whole
spelled-next bytes whole top rest byte low longer is spelled =
    step bytes whole top rest byte spelled.more low longer is spelled.within spelled.becomes

pub spelled-last : (bytes whole : List ℕ) (top rest : ℕ) → rest < top → Spelled bytes top rest whole → bytes ++ rest ∷ [] ≡ whole
spelled-last bytes whole top rest last spelled = ap (λ bs. bytes ++ bs) (sym (groups-last top spelled.more rest last)) ∙ spelled.becomes
