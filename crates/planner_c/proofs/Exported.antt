-- Which module of a program has the export of a number.
use Rattle.std.proofs.Common.{◌≡◌, ◌∙◌, ◌+◌, ℕ, List, [], ◌∷◌, length, map, take, get_or, slice_get, All, Option, Some, None, refl, sym, ap, arith, length-append}
use Rattle.std.specs.Prelude.{IfSome}
use Rattle.std.specs.List.{AllZip, sum_by}
use Rattle.std.specs.Option.{option_map}
use Rattle.std.proofs.lemmas.List.{take-map}
use Rattle.std.proofs.lemmas.List.Elements.{All-head, All-tail, All-take}
use Rattle.std.proofs.lemmas.List.Sums.{sum_by-cons, sum_by_more}
use Rattle.std.proofs.lemmas.Option.{slice_get-map, slice_get_within, get_or_from_slice_get}
use Rattle.translate.specs.Options.{Options}
use Rattle.translate.specs.Planned.{IsPlanned}
use Rattle.plan_text.specs.declared.plan.Plan.{Plan}
use Rattle.type_registry.specs.Registry.{RegistryState}
use Rattle.import_match.specs.Linking.{exported}
use Rattle.import_match.proofs.Listing.{All-slice_get, All-from_slice_get}
use Rattle.plan_link.specs.declared.answer.ImportAnswer.{ImportAnswer}
use Rattle.plan_link.specs.declared.answer.ImportAnswer.TheVariants as answer
use Rattle.plan_link.specs.declared.program.LinkedModule.{LinkedModule}
use Rattle.plan_link.specs.declared.program.ProgramModule.{ProgramModule}
use Rattle.plan_link.specs.Linkable.{IsLinkable}
use Rattle.plan_link.specs.Program.{Member, IsPlannedModule, IsHeldIn, IsProgram, all_exported}
use Rattle.plan_link.proofs.Below.{exported-long}
use Rattle.plan_link.proofs.Held.{stands-has}
use Rattle.plan_link.proofs.Positions.{some-at, zip-weaker}
use Rattle.planner_c.specs.declared.programs.ProgramAnswerRecord.{ProgramAnswerRecord}
use Rattle.planner_c.specs.Members.{BeginAtZero, IsBetween}
use Rattle.planner_c.specs.Programs.{TellsAnswer, IsExportOf, export_count}

-- ---- counts

-- a member defines as many exports as its module has
abbrev IsCounted : RegistryState → Member → Type 0
IsCounted registry m = length (exported registry m.1 m.0.plan.now.translation.module m.0.name.now) ≡ export_count m.0

defined : (registry : RegistryState) (ms : List Member) → All (IsCounted registry) ms
    → length (all_exported registry ms) ≡ sum_by export_count (map (λ (m : Member). m.0) ms)
defined registry [] all = refl
defined registry (m ∷ ms) all =
    let here = exported registry m.1 m.0.plan.now.translation.module m.0.name.now in
    let both : length (all_exported registry (m ∷ ms)) ≡ length here + length (all_exported registry ms) =
    length-append here (all_exported registry ms)
    in
    let sum : sum_by export_count (map (λ (x : Member). x.0) (m ∷ ms)) ≡ export_count m.0 + sum_by export_count (map (λ (x : Member). x.0) ms) =
    sum_by-cons export_count m.0 (map (λ (x : Member). x.0) ms)
    in
    omega (arith, both, sum, All-head (IsCounted registry) m ms all, defined registry ms (All-tail (IsCounted registry) m ms all))

-- a plan may be registered and linked
abbrev pub Links : Type 0
Links = (o : Options) (bytes : List ℕ) (plan : Plan) → IsPlanned o bytes plan → IsLinkable plan.translation.module plan.types

module _ (links : Links) (program : List ProgramModule) (planned : All IsPlannedModule program) (results : List LinkedModule) (is : IsProgram program results) where
  module-at : (k : ℕ) (m : Member) → slice_get is.members k ≡ Some m → slice_get program k ≡ Some m.0
  module-at k m at =
      ap (λ (xs : List ProgramModule). slice_get xs k) (sym is.in_order) ∙ slice_get-map (λ (x : Member). x.0) is.members k ∙ ap (option_map (λ (x : Member). x.0)) at

  counted : All (IsCounted is.registry) is.members
  counted = All-from_slice_get (IsCounted is.registry) is.members (λ k m at.
      let held : IsHeldIn is.registry m = All-slice_get (IsHeldIn is.registry) is.members k m is.held at in
      let p : IsPlannedModule m.0 = All-slice_get IsPlannedModule program k m.0 planned (module-at k m at) in
      exported-long is.registry m.1 m.0.plan.now.translation.module m.0.name.now
      ((links p.options p.bytes m.0.plan.now p.planned).exports is.registry m.1 m.0.name.now (stands-has is.registry m.1 m.0.plan.now.types held)))

  -- the first export of a module comes after those of the modules before it
  pub first : (k : ℕ) (found : LinkedModule) → slice_get results k ≡ Some found → found.first_export ≡ sum_by export_count (take k program)
  first k found at =
      let m = some-at is.members k (omega (arith, slice_get_within results k found at, is.linked.counted)) in
      (is.linked.each k m.0 found m.1 at).first_export
      ∙ defined is.registry (take k is.members) (All-take (IsCounted is.registry) k is.members counted)
      ∙ ap (sum_by export_count) (sym (take-map (λ (x : Member). x.0) k is.members) ∙ ap (take k) is.in_order)

  pub at-zero : BeginAtZero results
  at-zero = by (slice_get results 0) refl where
    by : (o : Option LinkedModule) → slice_get results 0 ≡ o → IfSome o (λ x. x.first_export ≡ 0)
    by None at = tt
    by (Some x) at = first 0 x at

  -- the export of a number that is between those of two modules is one of the first
  pub among : (number k e : ℕ) → IsBetween results number k e → IsExportOf program number k e
  among number k e between =
      let m = some-at is.members k (omega (arith, slice_get_within results k between.exporter between.at, is.linked.counted)) in
      let at : slice_get program k ≡ Some m.0.0 = module-at k m.0 m.1 in
      let here : get_or program k m.0.0 ≡ m.0.0 = get_or_from_slice_get program k m.0.0 m.0.0 at in
      let more : sum_by export_count (take (k + 1) program) ≡ sum_by export_count (take k program) + export_count (get_or program k m.0.0) =
      sum_by_more export_count program k m.0.0 (slice_get_within program k m.0.0 at)
      in
      let begin : between.exporter.first_export ≡ sum_by export_count (take k program) = first k between.exporter between.at in
      let end : between.next.first_export ≡ sum_by export_count (take (k + 1) program) = first (k + 1) between.next between.next_at in
      record {
        exporter = m.0.0;
        at = at;
        has = omega (arith, between.counted, between.before, begin, end, more, ap export_count here);
        counted = omega (arith, between.counted, begin);
      }

  -- ---- answers

  tells : (a : ImportAnswer) (r : ProgramAnswerRecord) → TellsAnswer (IsBetween results) a r → TellsAnswer (IsExportOf program) a r
  tells (answer.Given number) r told = record { kind = told.kind; given = among number r.module r.export_number told.given }
  tells answer.Missing r told = record { kind = told.kind; given = told.given }
  tells (answer.Mismatch rule) r told = record { kind = told.kind; given = told.given }

  pub all-tell : (xs : List ImportAnswer) (rs : List ProgramAnswerRecord) → AllZip (TellsAnswer (IsBetween results)) xs rs
      → AllZip (TellsAnswer (IsExportOf program)) xs rs
  all-tell = zip-weaker (TellsAnswer (IsBetween results)) (TellsAnswer (IsExportOf program)) tells
