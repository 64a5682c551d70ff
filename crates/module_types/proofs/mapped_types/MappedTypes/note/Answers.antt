use Rattle.std.proofs.lemmas.Bool.{cases_Bool}
use Rattle.std.proofs.Common.{◌≡◌, ◌∙◌, ℕ, suc, ◌+◌, length, Bool, cond, Option, Some, refl, ap, arith}
use Rattle.std.specs.Prelude.{nat_eq, if◌then◌else◌}
use Rattle.std.specs.HashMap.{get}
use Rattle.std.specs.Option.{unwrap_or}
use Rattle.module_types.proofs.Chaining.{is-noted}
use Rattle.module_types.proofs.mapped_types.MappedTypes.note.Goals as goal

counted : (b : Bool) (n m : ℕ) (o later : Option ℕ) → later ≡ cond b (Some n) o → n ≡ m → unwrap_or later 0 ≡ (if b then m else unwrap_or o 0)
counted b n m o later e same = grind (arith, cases_Bool)

pub returns : goal.returns
returns c =
    let more : c.len-count.result + 1 ≡ suc (length c.args.self.now.types.items) = omega (arith, c.len-count.ensures) in
    λ types f linked stands is.
    is-noted types c.args.self.now _ f c.args.ty linked stands c.args.digest is refl (record { ty = c.args.ty; before = c.unwrap_or-before.result }) refl
    (c.unwrap_or-before.ensures ∙ ap (λ o. unwrap_or o 0) c.in_ok-insert.ensures.old)
    c.in_ok-push.ensures.items
    (λ q. counted (nat_eq c.args.digest q) (c.len-count.result + 1) (suc (length c.args.self.now.types.items)) (get nat_eq c.args.self.now.newest q)
    (get nat_eq c.insert.new.self q) (c.in_ok-insert.ensures.updates.0 q) more)
