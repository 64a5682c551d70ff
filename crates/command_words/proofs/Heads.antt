-- The words before the options.
use Rattle.std.proofs.Common.{◌≡◌, ℕ, List, ◌∷◌, ◌++◌, subst}
use Rattle.std.specs.Prelude.{Option, None, Some, IfSome, codes, decimal}
use Rattle.command_words.specs.declared.command.Command.{Command}
use Rattle.command_words.specs.Commands.{Names, Chooses, IsMade, head_words, plain_command}

plan-of-head : (words others options : List (List ℕ)) (command : Command) (generate : Option ℕ) → words ≡ codes "plan" ∷ others
    → words ≡ head_words generate ++ options → Chooses options (plain_command generate) command → Chooses others (plain_command None) command
plan-of-head words others options command None first head chooses =
    let same : options ≡ others = cc in
    let P : List (List ℕ) → Type 0 = λ ws. Chooses ws (plain_command None) command in
    subst P same chooses
plan-of-head words others options command (Some n) first head chooses = cc

-- words that begin with `plan`
pub plan-only : (words others : List (List ℕ)) (command : Command) → words ≡ codes "plan" ∷ others
    → Names words command → Chooses others (plain_command None) command
plan-only words others command first named = plan-of-head words others named.options command named.generate first named.head named.chooses

-- words that begin with `generate` and a number
pub record Generates (number : List ℕ) (others : List (List ℕ)) (command : Command) : Type 0 where
  pub n : ℕ
  pub spelled : number ≡ decimal n
  pub made : IsMade n
  pub chooses : Chooses others (plain_command (Some n)) command

generates-of-head : (words others options : List (List ℕ)) (number : List ℕ) (command : Command) (generate : Option ℕ)
    → words ≡ codes "generate" ∷ number ∷ others → words ≡ head_words generate ++ options → IfSome generate IsMade
    → Chooses options (plain_command generate) command → Generates number others command
generates-of-head words others options number command None first head made chooses = cc
generates-of-head words others options number command (Some n) first head made chooses =
    let same : options ≡ others = cc in
    let P : List (List ℕ) → Type 0 = λ ws. Chooses ws (plain_command (Some n)) command in
    record { n = n; spelled = cc; made = made; chooses = subst P same chooses }

pub generates-only : (words others : List (List ℕ)) (number : List ℕ) (command : Command) → words ≡ codes "generate" ∷ number ∷ others
    → Names words command → Generates number others command
generates-only words others number command first named =
    generates-of-head words others named.options number command named.generate first named.head named.made named.chooses
