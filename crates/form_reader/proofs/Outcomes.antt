-- What the outcome of reading a module says of its bytes.
use Rattle.std.proofs.Common.{◌≡◌, ℕ, List, Result, Ok, Err, refl, sym, ◌∙◌, inl, inr}
use Rattle.wasm_spec.specs.declared.operators.What.{What}
use Rattle.wasm_spec.specs.Module.{Module}
use Rattle.wasm_spec.specs.Grammar.{Spells, Stops as IsStopped}
use Rattle.wasm_spec.specs.Interfaces.{HasNoInterfaceTypes}
use Rattle.form_reader.specs.declared.error.ReadError.{ReadError}
use Rattle.form_reader.specs.declared.error.ReadError.TheVariants as errors
use Rattle.form_reader.specs.Reading.{Bad, Stops, Fails}
use Rattle.form_reader.specs.ReadingSections.{module_at}
use Rattle.form_reader.specs.Agrees.{ok_not_err, bad_not_stops}
use Rattle.form_reader.proofs.SectionLaws.{module_found, module_again, module_stopped, module_stops_again, module_once}

pub error_is : {A : Type 0} (result : Result A ReadError) (d e f : ReadError) → result ≡ Err d → d ≡ e → result ≡ Err f → e ≡ f
error_is result d e f is same other = cc

module _ (bytes : List ℕ) where
  pub read_spells : (m : Module) → module_at bytes ≡ Ok m → Spells bytes m
  read_spells m e = (module_found bytes m e).0

  pub read_none : (m : Module) → module_at bytes ≡ Ok m → HasNoInterfaceTypes m
  read_none m e = (module_found bytes m e).1

  -- the bytes spell one module at most
  pub read_only : (m n : Module) → module_at bytes ≡ Ok m → Spells bytes n → m ≡ n
  read_only m n e s = module_once bytes m n (read_spells m e) s

  -- what is spelled and has no section of interface types is read
  spelled_is_read : (m : Module) → Spells bytes m → HasNoInterfaceTypes m → module_at bytes ≡ Ok m
  spelled_is_read m s none = elim (module_again bytes m s) [
    | inl e ↦ e
    | inr stops ↦ absurd (stops.0 none)
  ]

  -- it fails only where memory runs out
  pub fails_spelled : (e : ReadError) (m : Module) → Fails e (module_at bytes) → Spells bytes m → HasNoInterfaceTypes m → e ≡ errors.OutOfMemory
  fails_spelled errors.OutOfMemory m h s none = refl
  fails_spelled errors.TooLarge m h s none = absurd h
  fails_spelled errors.Malformed m h s none = absurd (ok_not_err m Bad (sym (spelled_is_read m s none) ∙ h))
  fails_spelled (errors.Unsupported w) m h s none = absurd (ok_not_err m (Stops w) (sym (spelled_is_read m s none) ∙ h))

  pub fails_unsupported : (e : ReadError) (w : What) → Fails e (module_at bytes) → e ≡ errors.Unsupported w → IsStopped bytes w
  fails_unsupported e w h is = module_stopped bytes w (rw is at h)

  pub fails_malformed : (e : ReadError) (m : Module) → Fails e (module_at bytes) → e ≡ errors.Malformed → Spells bytes m → ⊥
  fails_malformed e m h is s = elim (module_again bytes m s) [
    | inl read ↦ ok_not_err m Bad (sym read ∙ (rw is at h))
    | inr stops ↦ bad_not_stops stops.1.0 (sym (rw is at h) ∙ stops.1.1)
  ]

  pub fails_nowhere : (e : ReadError) (w : What) → Fails e (module_at bytes) → e ≡ errors.Malformed → IsStopped bytes w → ⊥
  fails_nowhere e w h is s = let stops = module_stops_again bytes w s in bad_not_stops stops.0 (sym (rw is at h) ∙ stops.1)

  pub spells_or_stops : (m : Module) (w : What) → Spells bytes m → HasNoInterfaceTypes m → IsStopped bytes w → ⊥
  spells_or_stops m w s none t = let stops = module_stops_again bytes w t in ok_not_err m (Stops stops.0) (sym (spelled_is_read m s none) ∙ stops.1)
