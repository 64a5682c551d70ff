-- The offsets of the active data segments of a module that keeps the rules have no null reference.
use Rattle.std.proofs.Common.{◌<◌, ℕ, List, [], ◌∷◌, length, map, Option, inl, inr, subst, arith}
use Rattle.std.specs.Prelude.{slice_get, IfSome}
use Rattle.std.specs.List.{All, filter_map}
use Rattle.std.proofs.lemmas.List.Elements.{All-nil, All-cons, All-head, All-tail}
use Rattle.std.proofs.lemmas.Option.{slice_get_cases}
use Rattle.wasm_spec.specs.declared.operators.Operator.{Operator}
use Rattle.wasm_spec.specs.declared.operators.Operator.TheVariants as op
use Rattle.wasm_spec.specs.declared.entities.MemoryType.{MemoryType}
use Rattle.wasm_spec.specs.Module.{Module, Expression, DataKind, Passive, Active, Segment, segments}
use Rattle.rule_spec.specs.declared.rules.Rule.TheVariants as rule
use Rattle.rule_spec.specs.Expressions.{HasMemoryOffset, address_class}
use Rattle.rule_spec.specs.Indices.{NamesMemory}
use Rattle.rule_spec.specs.Lists.{Lists, lists_of_module}
use Rattle.rule_spec.specs.Rules.{Keeps}
use Rattle.rule_spec.specs.Typing.{HasClass}
use Rattle.replay_spec.specs.Data.{ActiveSegment, active_of_kind}
use Rattle.replay_spec.specs.Held.{any_null, any_nulls, held_segment, held_segments}
use Rattle.plan_laws.proofs.Numeric.{IsNoNull, address-no-null}

-- the offset of a segment has none
abbrev pub IsPlainSegment : ActiveSegment → Type 0
IsPlainSegment s = All IsNoNull s.offset

held-op : (o : Operator) → IsNoNull o → IsNoNull (any_null o)
held-op (op.RefNull heap) none = absurd none
held-op o none = tt

held-ops : (e : Expression) → All IsNoNull e → All IsNoNull (any_nulls e)
held-ops [] none = All-nil IsNoNull
held-ops (o ∷ os) none =
    All-cons IsNoNull (any_null o) (any_nulls os) (held-op o (All-head IsNoNull o os none)) (held-ops os (All-tail IsNoNull o os none))

module _ (l : Lists) where
  typed-plain : (memory : ℕ) (offset : Expression) → memory < length l.memories
      → IfSome (slice_get l.memories memory) (λ t. HasClass l l.global_types offset (address_class t.memory64)) → All IsNoNull offset
  typed-plain memory offset within typed = elim (slice_get_cases l.memories memory).1 [
    | inl there ↦ address-no-null l l.global_types offset there.0.memory64
        (subst (λ (o : Option MemoryType). IfSome o (λ t. HasClass l l.global_types offset (address_class t.memory64))) there.2 typed)
    | inr past ↦ absurd (omega (arith, within, past.0))
  ]

  abbrev active : Segment → Option ActiveSegment
  active s = active_of_kind s.kind s.bytes

  first-plain : (kind : DataKind) (bytes : List ℕ) (ss : List Segment) → NamesMemory l kind → HasMemoryOffset l kind
      → All IsPlainSegment (map held_segment (filter_map active ss))
      → All IsPlainSegment (map held_segment (filter_map active (record { kind = kind; bytes = bytes } ∷ ss)))
  first-plain Passive bytes ss names typed later = later
  first-plain (Active memory offset) bytes ss names typed later =
      All-cons IsPlainSegment _ (map held_segment (filter_map active ss)) (held-ops offset (typed-plain memory offset names typed)) later

  all-plain : (ss : List Segment) → All (λ (s : Segment). NamesMemory l s.kind) ss → All (λ (s : Segment). HasMemoryOffset l s.kind) ss
      → All IsPlainSegment (map held_segment (filter_map active ss))
  all-plain [] names typed = All-nil IsPlainSegment
  all-plain (s ∷ ss) names typed =
      first-plain s.kind s.bytes ss (All-head (λ (x : Segment). NamesMemory l x.kind) s ss names) (All-head (λ (x : Segment). HasMemoryOffset l x.kind) s ss typed)
      (all-plain ss (All-tail (λ (x : Segment). NamesMemory l x.kind) s ss names) (All-tail (λ (x : Segment). HasMemoryOffset l x.kind) s ss typed))

pub held-plain : (m : Module) → Keeps m → All IsPlainSegment (held_segments m)
held-plain m keeps = all-plain (lists_of_module m) (segments m) (keeps rule.L9).segments (keeps rule.L6).segments
