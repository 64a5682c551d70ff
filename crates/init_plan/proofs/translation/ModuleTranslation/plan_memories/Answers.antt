use Rattle.std.proofs.Common.{◌≡◌, ◌+◌, ◌-◌, ◌++◌, ℕ, List, length, map, Option, sym, ◌∙◌, ap, subst, arith, length-append}
use Rattle.std.proofs.lemmas.List.{length-map}
use Rattle.std.specs.Option.{option_map}
use Rattle.entity_map.specs.Secondary.{value_at}
use Rattle.wasm_index.specs.Index.{number_of}
use Rattle.memory_images.specs.Views.{active_segment_of, options_of}
use Rattle.init_plan.specs.declared.translation.ModuleTranslation.{ModuleTranslation}
use Rattle.init_plan.specs.Views.{initializers_of, passive_segment_of, passive_data_of, passive_bytes, bytes_of, FindsInOrder}
use Rattle.init_plan.proofs.Planning.{few_images, stands, planned_sized, agrees_sized}
use Rattle.init_plan.proofs.Sized.{fits_sized}
use Rattle.init_plan.proofs.translation.ModuleTranslation.plan_memories.Goals as goal

pub begin_memories-requires-clause-few_images : goal.begin_memories-requires-clause-few_images
begin_memories-requires-clause-few_images c = few_images (options_of c.args.settings) c.args.self.now c.args.images c.requires.ready.few_memories c.requires.sized

pub returns-clause-planned : goal.returns-clause-planned
returns-clause-planned c =
    let old : ModuleTranslation = c.args.self.now in
    let mid : ModuleTranslation = c.begin_memories.new.self in
    let options = options_of c.args.settings in
    let active = map active_segment_of c.take_segments-segments.result.items in
    let stand = stands options old c.take_segments-segments.new.self mid c.args.images active
    c.requires.ready c.requires.sized c.take_segments-segments.ensures.rest c.take_segments-segments.ensures.taken c.in_ok-begin_memories.ensures.begins in
    let is_runtime : map bytes_of c.keep_passive.new.runtime_data ≡ map bytes_of mid.runtime_data ++ passive_bytes old = c.in_ok-keep_passive.ensures.runtime
    ∙ ap (λ ps. map bytes_of mid.runtime_data ++ map (λ p. p.1) (map passive_segment_of ps)) (c.deref.ensures.value ∙ ap (λ v. v.items) stand) in
    planned_sized options old c.take_segments-segments.new.self mid c.args.images active
    c.requires.ready c.requires.sized c.take_segments-segments.ensures.rest c.take_segments-segments.ensures.taken c.in_ok-begin_memories.ensures.begins
    (map bytes_of c.keep_passive.new.runtime_data) (λ index. option_map number_of (value_at c.keep_passive.new.found index)) is_runtime

pub returns-clause-fits : goal.returns-clause-fits
returns-clause-fits c = fits_sized (options_of c.args.settings) c.args.self.now c.requires.ready c.args.images c.requires.sized _ (returns-clause-planned c)

pub returns-clause-agrees : goal.returns-clause-agrees
returns-clause-agrees c =
    let old : ModuleTranslation = c.args.self.now in
    agrees_sized (options_of c.args.settings) old.module (initializers_of old) (passive_bytes old) _ c.requires.page_size (returns-clause-planned c)

pub ranges_end_to_end-requires-clause-fits : goal.ranges_end_to_end-requires-clause-fits
ranges_end_to_end-requires-clause-fits c =
    let old : ModuleTranslation = c.args.self.now in
    let mid : ModuleTranslation = c.begin_memories.new.self in
    let options = options_of c.args.settings in
    let active = map active_segment_of c.take_segments-segments.result.items in
    let stand = stands options old c.take_segments-segments.new.self mid c.args.images active
    c.requires.ready c.requires.sized c.take_segments-segments.ensures.rest c.take_segments-segments.ensures.taken c.in_ok-begin_memories.ensures.begins in
    let is_runtime : map bytes_of c.keep_passive.new.runtime_data ≡ map bytes_of mid.runtime_data ++ passive_bytes old = c.in_ok-keep_passive.ensures.runtime
    ∙ ap (λ ps. map bytes_of mid.runtime_data ++ map (λ p. p.1) (map passive_segment_of ps)) (c.deref.ensures.value ∙ ap (λ v. v.items) stand) in
    fits_sized options old c.requires.ready c.args.images c.requires.sized _
    (planned_sized options old c.take_segments-segments.new.self mid c.args.images active
    c.requires.ready c.requires.sized c.take_segments-segments.ensures.rest c.take_segments-segments.ensures.taken c.in_ok-begin_memories.ensures.begins
    (map bytes_of c.keep_passive.new.runtime_data) (λ index. option_map number_of (value_at c.keep_passive.new.found index)) is_runtime)

-- the runtime data are at most those of the memories and of the passive segments
pub ranges_end_to_end-requires-clause-few : goal.ranges_end_to_end-requires-clause-few
ranges_end_to_end-requires-clause-few c =
    let old : ModuleTranslation = c.args.self.now in
    let mid : ModuleTranslation = c.begin_memories.new.self in
    let stand = stands (options_of c.args.settings) old c.take_segments-segments.new.self mid c.args.images (map active_segment_of c.take_segments-segments.result.items)
    c.requires.ready c.requires.sized c.take_segments-segments.ensures.rest c.take_segments-segments.ensures.taken c.in_ok-begin_memories.ensures.begins in
    let kept : List (List ℕ) = map bytes_of mid.runtime_data in
    let is_runtime : map bytes_of c.keep_passive.new.runtime_data ≡ kept ++ passive_bytes old = c.in_ok-keep_passive.ensures.runtime
    ∙ ap (λ ps. kept ++ map (λ p. p.1) (map passive_segment_of ps)) (c.deref.ensures.value ∙ ap (λ v. v.items) stand) in
    let long : length c.keep_passive.new.runtime_data ≡ length kept + length (passive_bytes old) =
    sym (length-map c.keep_passive.new.runtime_data bytes_of) ∙ ap length is_runtime ∙ length-append kept (passive_bytes old) in
    let few : length kept ≡ length mid.runtime_data = length-map mid.runtime_data bytes_of in
    let few_passive : length (passive_bytes old) ≡ length (passive_data_of old) = length-map (passive_data_of old) (λ p. p.1) in
    omega (arith, long, few, few_passive, c.in_ok-begin_memories.ensures.few, c.requires.ready.few_passive)

-- the number of runtime data before those of the passive segments is that of the memories
pub returns-clause-found : goal.returns-clause-found
returns-clause-found c =
    let old : ModuleTranslation = c.args.self.now in
    let mid : ModuleTranslation = c.begin_memories.new.self in
    let stand = stands (options_of c.args.settings) old c.take_segments-segments.new.self mid c.args.images (map active_segment_of c.take_segments-segments.result.items)
    c.requires.ready c.requires.sized c.take_segments-segments.ensures.rest c.take_segments-segments.ensures.taken c.in_ok-begin_memories.ensures.begins in
    let segments = c.deref.ensures.value ∙ ap (λ v. v.items) stand in
    let kept : List (List ℕ) = map bytes_of mid.runtime_data in
    let runtime : List (List ℕ) = map bytes_of c.keep_passive.new.runtime_data in
    let is_runtime : runtime ≡ kept ++ passive_bytes old = c.in_ok-keep_passive.ensures.runtime
    ∙ ap (λ ps. kept ++ map (λ p. p.1) (map passive_segment_of ps)) segments in
    let long : length runtime ≡ length kept + length (passive_bytes old) = ap length is_runtime ∙ length-append kept (passive_bytes old) in
    let few : length kept ≡ length mid.runtime_data = length-map mid.runtime_data bytes_of in
    let few_passive : length (passive_bytes old) ≡ length (passive_data_of old) = length-map (passive_data_of old) (λ p. p.1) in
    let start : length mid.runtime_data ≡ length runtime - length (passive_data_of old) = omega (arith, long, few, few_passive) in
    let found : ℕ → Option ℕ = λ index. option_map number_of (value_at c.keep_passive.new.found index) in
    subst (λ (n : ℕ). FindsInOrder runtime found n (passive_data_of old)) start
    (subst (λ ps. FindsInOrder runtime found (length mid.runtime_data) (map passive_segment_of ps)) segments c.in_ok-keep_passive.ensures.found)
