-- Instantiation, step by step (core specification, 4.7, instantiation).
use Rattle.std.specs.Prelude.{◌≡◌, ℕ, ◌<◌, ◌≤◌, ⊤, List, Option, None, Some}
use Rattle.replay_spec.specs.Phases.{Piece, trap_of, content_of}
use Rattle.replay_spec.specs.Values.{Value}
use Rattle.instance_laws.specs.Objects.{Objects, Addresses, allocated, phase_over}

-- what an instance is made of: the values of its globals; the sizes of its own tables and memories
-- and what is in them at first, each by its number; the element segments and the data segments that
-- are written, in order; and the start function
pub record Recipe : Type 0 where
  pub globals : List Value
  pub table_sizes : List ℕ
  pub cells : ℕ → ℕ → Value
  pub elements : List (Piece Value)
  pub memory_sizes : List ℕ
  pub bytes : ℕ → ℕ → ℕ
  pub segments : List (Piece ℕ)
  pub start : Option ℕ

-- how instantiation ends: with a trap at an element or a data segment, counted from the last of all
-- that are written, which is 1; or with the call of the start function, if there is one
pub data End : Type 0 where
  TrapsInElements : ℕ → End
  TrapsInData : ℕ → End
  Starts : Option ℕ → End

-- what instantiation leaves; a trap undoes nothing
pub record Instance : Type 0 where
  pub globals : List Value
  pub tables : Objects Value
  pub memories : Objects ℕ
  pub end : End

-- objects after a phase
abbrev pub after : {A : Type 0} → Addresses → Objects A → List (Piece A) → Objects A
after a objects pieces = record { sizes = objects.sizes; items = content_of (phase_over a objects pieces) }

module _ (table_addresses memory_addresses : Addresses) where
  -- the data segments, and then the start function
  abbrev pub end_of_data : Option ℕ → Option ℕ → End
  end_of_data start None = Starts start
  end_of_data start (Some n) = TrapsInData n

  -- the data segments, unless an element segment trapped
  abbrev pub with_data : Recipe → Objects Value → Objects ℕ → Option ℕ → Instance
  with_data r tables memories None = record {
    globals = r.globals;
    tables = tables;
    memories = after memory_addresses memories r.segments;
    end = end_of_data r.start (trap_of (phase_over memory_addresses memories r.segments));
  }
  with_data r tables memories (Some n) = record { globals = r.globals; tables = tables; memories = memories; end = TrapsInElements n }

  -- the element segments, and then the data segments
  abbrev pub with_elements : Recipe → Objects Value → Objects ℕ → Instance
  with_elements r tables memories =
      with_data r (after table_addresses tables r.elements) memories (trap_of (phase_over table_addresses tables r.elements))

  -- tables and memories are allocated, and then what is written to them is
  abbrev pub instantiated : Objects Value → Objects ℕ → Recipe → Instance
  instantiated tables memories r =
      with_elements r (allocated tables table_addresses.first r.table_sizes r.cells) (allocated memories memory_addresses.first r.memory_sizes r.bytes)

-- an element segment trapped, so that no data segment was written
abbrev pub TrappedInElements : End → Type 0
TrappedInElements (TrapsInElements n) = ⊤
TrappedInElements (TrapsInData n) = ⊥
TrappedInElements (Starts start) = ⊥

-- objects of the same sizes, with the same items in each that is not excepted
pub record SameObjects {A : Type 0} (Excepted : ℕ → Type 0) (one other : Objects A) : Type 0 where
  pub sizes : (at : ℕ) → one.sizes at ≡ other.sizes at
  pub items : (at place : ℕ) → ¬ Excepted at → place < one.sizes at → one.items at place ≡ other.items at place

-- two instances have the same globals and the same tables, end alike, and have the same memories
-- but for those that are excepted
pub record SameInstance (Excepted : ℕ → Type 0) (one other : Instance) : Type 0 where
  pub globals : one.globals ≡ other.globals
  pub tables : SameObjects (λ at. ⊥) one.tables other.tables
  pub memories : SameObjects Excepted one.memories other.memories
  pub end : one.end ≡ other.end

-- where an element segment trapped, the memories that the instance itself defines, which begin at
-- an address
abbrev pub OwnAfterTrap : ℕ → Instance → ℕ → Type 0
OwnAfterTrap first instance at = TrappedInElements instance.end × (first ≤ at)
