-- How many entries lists have that are made of a module's lists.
use Rattle.std.proofs.Common.{◌≡◌, ◌≤◌, ◌+◌, ℕ, List, [], ◌∷◌, ◌++◌, length, map, Option, Some, None, sum_by, refl, ap, arith, length-append, ◌∙◌}
use Rattle.std.specs.List.{filter_map, cons_option}
use Rattle.std.proofs.lemmas.List.{length-map}
use Rattle.std.proofs.lemmas.List.Sums.{sum_by-append, sum_by-cons}
use Rattle.wasm_spec.specs.declared.entities.TypeRef.{TypeRef}
use Rattle.wasm_spec.specs.declared.entities.TypeRef.TheVariants as imported
use Rattle.wasm_spec.specs.Module.{Import, function_import, table_import, memory_import, global_import, tag_import, DataKind, Passive, Active, Segment, Element, ElementKind, ElementItems, PassiveElement, DeclaredElement, ActiveElement}
use Rattle.wasm_convert.specs.Conversion.{LookUp}
use Rattle.wasm_convert.specs.Constants.{const_ops_of}
use Rattle.replay_spec.specs.Data.{ActiveSegment, active_of_kind}
use Rattle.replay_spec.specs.Elements.{active_by}
use Rattle.replay_spec.specs.Held.{held_segment}
use Rattle.replay_spec.specs.Startup.{is_passive, passive_elements}
use Rattle.module_sections.specs.Initialisers.{type_in, active_items, passive_data_in, passive_data_from}

abbrev of : {A : Type 0} → (TypeRef → Option A) → List Import → ℕ
of kind is = length (filter_map (λ i. kind i.type) is)

-- each import is of one kind
pub kinds-few : (is : List Import)
    → of function_import is + of table_import is + of memory_import is + of global_import is + of tag_import is ≡ length is
kinds-few [] = refl
kinds-few (i ∷ is) = by i.type (kinds-few is) where
  more : {A : Type 0} → Option A → (TypeRef → Option A) → ℕ
  more o kind = length (cons_option o (filter_map (λ i. kind i.type) is))

  by : (t : TypeRef) → of function_import is + of table_import is + of memory_import is + of global_import is + of tag_import is ≡ length is
      → more (function_import t) function_import + more (table_import t) table_import + more (memory_import t) memory_import
      + more (global_import t) global_import + more (tag_import t) tag_import ≡ length (i ∷ is)
  by (imported.Func type) e = omega (arith, e)
  by (imported.Table type) e = omega (arith, e)
  by (imported.Memory type) e = omega (arith, e)
  by (imported.Global type) e = omega (arith, e)
  by (imported.Tag type) e = omega (arith, e)

-- an element segment is active or passive, or neither
pub elements-few : (look : LookUp) (es : List Element) → length (active_items look es) + length (passive_elements es) ≤ length es
elements-few look [] = omega arith
elements-few look (e ∷ es) = by e.kind e.items (elements-few look es) where
  by : (k : ElementKind) (items : ElementItems) → length (active_items look es) + length (passive_elements es) ≤ length es
      → length (cons_option (active_by (type_in look) (const_ops_of look) k items) (active_items look es)) + length (passive_elements (record e { kind = k } ∷ es)) ≤ length (e ∷ es)
  by (ActiveElement table offset) items few = omega (arith, few)
  by PassiveElement items few = omega (arith, few)
  by DeclaredElement items few = omega (arith, few)

-- ---- data segments: each is active or passive

abbrev active_among : List Segment → List ActiveSegment
active_among ss = filter_map (λ s. active_of_kind s.kind s.bytes) ss

abbrev held : List Segment → List (List ℕ)
held ss = map (λ (s : ActiveSegment). s.bytes) (map held_segment (active_among ss))

abbrev passive : ℕ → List Segment → List (List ℕ)
passive n ss = map (λ (p : ℕ × List ℕ). p.1) (passive_data_from n ss)

pub segments-few : (n : ℕ) (ss : List Segment) → length (held ss) + length (passive n ss) ≡ length ss
segments-few n [] = refl
segments-few n (s ∷ ss) = by s.kind (segments-few (n + 1) ss) where
  by : (k : DataKind) → length (held ss) + length (passive (n + 1) ss) ≡ length ss
      → length (map (λ (s : ActiveSegment). s.bytes) (map held_segment (cons_option (active_of_kind k s.bytes) (active_among ss))))
      + length (map (λ (p : ℕ × List ℕ). p.1) (passive_data_in k n s.bytes ++ passive_data_from (n + 1) ss)) ≡ length (s ∷ ss)
  by Passive e = omega (arith, e)
  by (Active memory offset) e = omega (arith, e)

pub bytes-few : (n : ℕ) (ss : List Segment) → sum_by length (held ss) + sum_by length (passive n ss) ≡ sum_by (λ s. length s.bytes) ss
bytes-few n [] = refl
bytes-few n (s ∷ ss) = by s.kind (bytes-few (n + 1) ss) where
  by : (k : DataKind) → sum_by length (held ss) + sum_by length (passive (n + 1) ss) ≡ sum_by (λ s. length s.bytes) ss
      → sum_by length (map (λ (s : ActiveSegment). s.bytes) (map held_segment (cons_option (active_of_kind k s.bytes) (active_among ss))))
      + sum_by length (map (λ (p : ℕ × List ℕ). p.1) (passive_data_in k n s.bytes ++ passive_data_from (n + 1) ss)) ≡ sum_by (λ s. length s.bytes) (s ∷ ss)
  by Passive e = omega (arith, e, sum_by-cons (λ (b : List ℕ). length b) s.bytes (passive (n + 1) ss), sum_by-cons (λ (x : Segment). length x.bytes) s ss)
  by (Active memory offset) e = omega (arith, e, sum_by-cons (λ (b : List ℕ). length b) s.bytes (held ss), sum_by-cons (λ (x : Segment). length x.bytes) s ss)
