-- The memories of a translated module may be planned.
use Rattle.std.proofs.Common.{◌≡◌, ◌∙◌, ℕ, ◌+◌, ◌<◌, ◌≤◌, ◌⊎◌, List, [], ◌∷◌, ◌++◌, length, map, get_or, Option, Some, None, false, sym, ap, subst, arith, inr, refl}
use Rattle.std.specs.Prelude.{All, IfSome, unwrap_or, nat_eq}
use Rattle.std.specs.List.{IsDistinct, filter_map}
use Rattle.std.proofs.lemmas.Bool.{ne_eqb}
use Rattle.std.proofs.lemmas.List.{length-map, length-append}
use Rattle.std.proofs.lemmas.List.Elements.{All-append, All-nil, All-cons, All-map, recursion_from_All}
use Rattle.std.proofs.lemmas.Map.Keys.{IsDistinct-cons}
use Rattle.wasm_spec.specs.declared.entities.MemoryType.{MemoryType}
use Rattle.wasm_spec.specs.Module.{DataKind, Passive, Active, Segment, Module, imported_memories, defined_memories, memories, segments, HasFewEntries}
use Rattle.entity_map.specs.Secondary.{value_at}
use Rattle.rule_spec.specs.declared.rules.Rule.TheVariants.{L4, L9}
use Rattle.rule_spec.specs.Lists.{Lists, lists_of_module}
use Rattle.rule_spec.specs.Limits.{HasLimits}
use Rattle.rule_spec.specs.Indices.{NamesMemory}
use Rattle.rule_spec.specs.Rules.{Keeps}
use Rattle.wasm_types.specs.declared.memory.Memory.{Memory}
use Rattle.wasm_types.specs.Memories.{memory_of}
use Rattle.replay_spec.specs.Data.{ActiveSegment, active_of_kind}
use Rattle.replay_spec.specs.Held.{held_segment}
use Rattle.init_plan.specs.declared.translation.ModuleTranslation.{ModuleTranslation}
use Rattle.init_plan.specs.Ready.{MemoryHalfIsReady}
use Rattle.module_sections.specs.Initialisers.{passive_data_in, passive_data_from}
use Rattle.module_sections.specs.Sections.{HasData, HasEntities, CountsImports}
use Rattle.module_sections.proofs.Filling.{length-filter_map, All-gathered}

-- ---- active segments

abbrev active_among : List Segment → List ActiveSegment
active_among ss = filter_map (λ s. active_of_kind s.kind s.bytes) ss

active_in_range : (n : ℕ) (l : Lists) (ss : List Segment) → length l.memories ≡ n
    → All (λ (s : Segment). NamesMemory l s.kind) ss → All (λ (s : ActiveSegment). s.memory < n) (active_among ss)
active_in_range n l ss is named =
    All-gathered (λ (s : ActiveSegment). s.memory < n) (λ (s : Segment). active_of_kind s.kind s.bytes) ss (λ k d lt. each _ _ (named k d lt)) where
      each : (kind : DataKind) (bytes : List ℕ) → NamesMemory l kind → IfSome (active_of_kind kind bytes) (λ (s : ActiveSegment). s.memory < n)
      each Passive bytes named = tt
      each (Active memory offset) bytes named = omega arith

-- ---- passive segments

few_passive : (n : ℕ) (ss : List Segment) → length (passive_data_from n ss) ≤ length ss
few_passive n [] = omega arith
few_passive n (s ∷ ss) = grind (arith, few_passive (n + 1) ss)

-- an index from low on and below high
abbrev IsWithin : ℕ → ℕ → ℕ × List ℕ → Type 0
IsWithin low high p = (low ≤ p.0) × (p.0 < high)

passive_within : (low high n : ℕ) (ss : List Segment) → low ≤ n → n + length ss ≤ high → All (IsWithin low high) (passive_data_from n ss)
passive_within low high n [] from to = All-nil (IsWithin low high)
passive_within low high n (s ∷ ss) from to =
    All-append (IsWithin low high) (passive_data_in s.kind n s.bytes) _ (here s.kind) (passive_within low high (n + 1) ss (omega arith) (omega arith)) where
      here : (kind : DataKind) → All (IsWithin low high) (passive_data_in kind n s.bytes)
      here Passive = All-cons (IsWithin low high) (n, s.bytes) [] (omega arith, omega arith) (All-nil (IsWithin low high))
      here _ = All-nil (IsWithin low high)

passive_distinct : (n : ℕ) (ss : List Segment) → IsDistinct nat_eq (map (λ p. p.0) (passive_data_from n ss))
unfolding IsDistinct
passive_distinct n [] = tt
passive_distinct n (s ∷ ss) = with_kind s.kind (passive_distinct (n + 1) ss) where
  others_differ : (p : ℕ × List ℕ) → IsWithin (n + 1) (n + 1 + length ss) p → nat_eq n p.0 ≡ false
  others_differ p within = ne_eqb n p.0 (λ e. omega arith)

  with_kind : (kind : DataKind) → IsDistinct nat_eq (map (λ p. p.0) (passive_data_from (n + 1) ss))
      → IsDistinct nat_eq (map (λ p. p.0) (passive_data_in kind n s.bytes ++ passive_data_from (n + 1) ss))
  with_kind Passive others =
      let within = passive_within (n + 1) (n + 1 + length ss) (n + 1) ss (omega arith) (omega arith) in
      IsDistinct-cons nat_eq n _ (recursion_from_All (λ (k : ℕ). nat_eq n k ≡ false) _
      (All-map (λ (k : ℕ). nat_eq n k ≡ false) (λ (p : ℕ × List ℕ). p.0) (passive_data_from (n + 1) ss)
      (λ k d lt. others_differ (get_or (passive_data_from (n + 1) ss) k d) (within k d lt)))) others
  with_kind (Active memory offset) others = others

-- ---- memories

page_size_of : (o : Option ℕ) → IfSome o (λ log2. (log2 ≡ 0) ⊎ (log2 ≡ 16)) → (unwrap_or o 16 ≡ 0) ⊎ (unwrap_or o 16 ≡ 16)
page_size_of None h = inr refl
page_size_of (Some log2) h = h

page_sizes : (types : List MemoryType) → All HasLimits types
    → All (λ (m : Memory). (m.page_size_log2 ≡ 0) ⊎ (m.page_size_log2 ≡ 16)) (map memory_of types)
page_sizes types h = All-map (λ (m : Memory). (m.page_size_log2 ≡ 0) ⊎ (m.page_size_log2 ≡ 16)) memory_of types
    (λ k d lt. page_size_of (get_or types k d).page_size_log2 (h k d lt).page_size)

-- ---- all parts together

pub memories-ready : (m : Module) (t : ModuleTranslation) → HasData m t → HasEntities m t → CountsImports m t.module → Keeps m → HasFewEntries m
    → MemoryHalfIsReady t
memories-ready m t data' entities counts kept few =
    let ss = segments m in
    let count : length t.module.memories ≡ length (memories m) = ap length entities.memories ∙ length-map (memories m) memory_of in
    let active = ap length data'.active in
    let passive = ap length data'.passive in
    record {
      unprocessed = data'.unprocessed;
      segmented = data'.segmented;
      no_ranges = data'.no_ranges;
      no_runtime = data'.no_runtime;
      no_alignment = data'.no_alignment;
      nothing_found = λ n. ap (λ x. value_at x n) data'.nothing_found;
      imports = omega (arith, counts.memories, count, length-append (imported_memories m) (defined_memories m));
      few_memories = omega (arith, count, few.memories);
      page_sizes = subst (All (λ (x : Memory). (x.page_size_log2 ≡ 0) ⊎ (x.page_size_log2 ≡ 16))) (sym entities.memories)
          (page_sizes (memories m) (kept L4).memories);
      few_segments = let le = length-filter_map (λ (s : Segment). active_of_kind s.kind s.bytes) ss in omega (arith, active, length-map (active_among ss) held_segment, le, few.segments);
      in_range = subst (All (λ (s : ActiveSegment). s.memory < length t.module.memories)) (sym data'.active)
          (All-map (λ (s : ActiveSegment). s.memory < length t.module.memories) held_segment (active_among ss)
          (active_in_range _ (lists_of_module m) ss (sym count) (kept L9).segments));
      few_passive = let le = few_passive 0 ss in omega (arith, passive, le, few.segments);
      distinct = subst (λ (ps : List (ℕ × List ℕ)). IsDistinct nat_eq (map (λ p. p.0) ps)) (sym data'.passive) (passive_distinct 0 ss);
      numbered = subst (All (λ (p : ℕ × List ℕ). p.0 < 4294967295)) (sym data'.passive)
          (λ k d lt. (passive_within 0 4294967295 0 ss (omega arith) (omega (arith, few.segments)) k d lt).1);
    }
