use Rattle.std.proofs.Common.{◌≡◌, ◌↔◌, ◌∙◌, true, false, sym, ap, subst}
use Rattle.std.specs.Prelude.{IsTrue}
use Rattle.entity_map.specs.Cow.{value_of}
use Rattle.wasm_types.specs.Trampolines.{trampoline_of, is_borrowed}
use Rattle.module_types.proofs.Chaining.{unequal}
use Rattle.module_types.proofs.interner.Interner.find_trampoline.Goals as goal

pub returns-in-Owned : goal.returns-in-Owned
returns-in-Owned c =
    let f = c.args.func.now in
    let mapped = c.in_ok-trampoline_type.ensures in
    let kept = subst (λ t. IsTrue (is_borrowed t) ↔ (trampoline_of f ≡ f)) c.in-Owned.is mapped.kept in (
      sym c.in_default.ensures,
      c.digest-digest.ensures,
      ap value_of (sym c.in-Owned.is) ∙ mapped.value,
      unequal (trampoline_of f) f (λ e. let off : false ≡ true = kept.1 e in absurd cc),
    )
