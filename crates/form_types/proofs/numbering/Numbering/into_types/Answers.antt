use Rattle.std.proofs.Common.{◌≡◌, ◌∙◌, ◌∷◌, [], true, false, length, All, refl, sym, ap, subst, arith}
use Rattle.std.proofs.lemmas.List.{append-nil}
use Rattle.wasm_spec.specs.Module.{groups}
use Rattle.wasm_spec.specs.Module as plain
use Rattle.rule_spec.specs.Lists.{declared_groups, lists_of_module}
use Rattle.rule_spec.specs.TypeRules.{IsDeclaredWell}
use Rattle.std.proofs.lemmas.List.Elements.{All-weaker}
use Rattle.form_types.specs.Below.{NamesBelow}
use Rattle.form_types.specs.Taken.{IsNumberingOf}
use Rattle.form_types.proofs.Ruled.{size-places}
use Rattle.form_types.proofs.Final.{numbered, well, sound}
use Rattle.form_types.proofs.numbering.Numbering.into_types.Goals as goal
use Rattle.form_types.proofs.numbering.Numbering.into_types.Goals.{then-not-self-via-then-not-self, then-not-self-via-else-not-self+then-not-continuations_hold}

pub returns-then-not-self-clause-well : goal.returns-then-not-self-clause-well
returns-then-not-self-clause-well c = λ m took. (λ told. absurd cc, λ all. absurd (fails m took all)) where
  fails : (m : plain.Module) (took : IsNumberingOf c.args.self (groups m)) → All (IsDeclaredWell (lists_of_module m)) (declared_groups 0 (groups m)) → ⊥
  fails m took all =
      let below = took.below.1 (All-weaker (IsDeclaredWell (lists_of_module m)) NamesBelow
      (λ d is. record { indices = is.indices; supertype = is.supertype }) (declared_groups 0 (groups m)) all) in
      elim c.then-not-self.branch [
        | then-not-self-via-then-not-self w ↦ let clash : true ≡ false = sym below ∙ w.if-not-self.true in absurd cc
        | then-not-self-via-else-not-self+then-not-continuations_hold w ↦
            let on = w.if-not-self.false in
            let holds = w.continuations_hold.ensures.1 ((well m c.args.self (took.built on) 0 (took.below.0 on)).1 all) in
            let clash : true ≡ false = sym holds ∙ w.if-not-continuations_hold.true in absurd cc
      ]

pub invariant_of-result : goal.invariant_of-result
invariant_of-result c =
    let on = c.if-not-self.false in
    let gs = c.requires.0 in
    let m : plain.Module = plain.Types gs ∷ [] in
    let took : IsNumberingOf c.args.self (groups m) = subst (IsNumberingOf c.args.self) (sym (append-nil gs)) c.requires.1 in
    let b = took.built on in
    let few = took.few on in
    record {
      listed = b.listed;
      few = omega (arith, b.counted, size-places (groups m), few);
      sound = sound m c.args.self b c.id.result.0 (c.continuations_hold.ensures.0 c.if-not-continuations_hold.false) (took.short on) few;
    }

pub returns-clause-numbered : goal.returns-clause-numbered
returns-clause-numbered c = λ m took. numbered m c.args.self (took.built c.if-not-self.false) c.id.result.0

pub returns-clause-well : goal.returns-clause-well
returns-clause-well c = λ m took.
    let on = c.if-not-self.false in
    (λ told. (well m c.args.self (took.built on) c.id.result.0 (took.below.0 on)).0 (c.continuations_hold.ensures.0 c.if-not-continuations_hold.false), λ all. refl)
