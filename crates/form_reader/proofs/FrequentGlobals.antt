-- Frequent global types: what the short path reads is what is read.
use Rattle.std.proofs.Common.{◌≡◌, ℕ, zero, suc, ◌<◌, List, ◌∷◌, Ok, Some, refl, sym, arith}
use Rattle.std.specs.Prelude.{nat_eq}
use Rattle.std.proofs.lemmas.Bool.{lt-ltb, ne_eqb}
use Rattle.wasm_spec.specs.declared.types.HeapType.{HeapType}
use Rattle.wasm_spec.specs.declared.types.HeapType.TheVariants.{Concrete}
use Rattle.wasm_spec.specs.declared.types.UnpackedIndex.TheVariants.{Module}
use Rattle.wasm_spec.specs.declared.types.ValType.{ValType}
use Rattle.wasm_spec.specs.declared.types.ValType.TheVariants.{Ref}
use Rattle.wasm_spec.specs.TypeGrammar.{named_by, number_types}
use Rattle.form_reader.specs.Reading.{uncons}
use Rattle.form_reader.specs.TypeRows.{heap_type, concrete, reference_after, value_after, value_type, mutability}
use Rattle.form_reader.proofs.Digits.{uncons_is}
use Rattle.form_reader.proofs.ShortNumbers.{short_non_negative}

pub index_read : (b : ℕ) (bytes rest : List ℕ) → b < 64 → Some (b, rest) ≡ uncons bytes → heap_type.read bytes ≡ Ok (Concrete (Module b), rest)
unfolding heap_type concrete
index_read b bytes rest l e =
    rw (uncons_is bytes b rest e, lt-ltb b 0x68 (omega arith), ne_eqb b 0x65 (λ is. omega (arith, is)), short_non_negative b rest (b ∷ rest) refl l) refl

module _ (b : ℕ) (bytes rest : List ℕ) (e : Some (b, rest) ≡ uncons bytes) where
  pub number_read : (x : ValType) → Some x ≡ named_by 0x7B number_types b → value_type.read bytes ≡ Ok (x, rest)
  unfolding value_type value_after
  number_read x is = rw (uncons_is bytes b rest e, sym is) refl

  module _ (heap : HeapType) (after : List ℕ) (h : heap_type.read rest ≡ Ok (heap, after)) where
    pub nullable_read : b ≡ 0x63 → value_type.read bytes ≡ Ok (Ref (record { nullable = nat_eq b 0x63; heap = heap }), after)
    unfolding value_type value_after reference_after
    nullable_read is = rw (uncons_is bytes b rest e, is, h) refl

    pub not_nullable_read : b ≡ 0x64 → value_type.read bytes ≡ Ok (Ref (record { nullable = nat_eq b 0x63; heap = heap }), after)
    unfolding value_type value_after reference_after
    not_nullable_read is = rw (uncons_is bytes b rest e, is, h) refl

pub flag_read : (b : ℕ) (bytes rest : List ℕ) → b < 2 → Some (b, rest) ≡ uncons bytes → mutability.read bytes ≡ Ok (nat_eq b 1, rest)
unfolding mutability
flag_read zero bytes rest l e = rw (uncons_is bytes zero rest e) refl
flag_read (suc zero) bytes rest l e = rw (uncons_is bytes (suc zero) rest e) refl
flag_read (suc (suc b)) bytes rest l e = absurd (omega arith)
