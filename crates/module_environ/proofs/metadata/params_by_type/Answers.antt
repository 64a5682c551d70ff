use Rattle.std.proofs.Common.{◌≡◌, ◌∙◌, Bool, false, List, [], ◌++◌, All, map, sym, ap, subst}
use Rattle.std.proofs.lemmas.List.{append-nil, map-append}
use Rattle.form_reader.specs.Views.{group_of}
use Rattle.form_types.proofs.AllOf.{All-joined}
use Rattle.form_reader.specs.Input.{Takes}
use Rattle.form_rules.proofs.Taking.{taken}
use Rattle.form_types.specs.Types.{NamedGroup, types_by_id}
use Rattle.wasm_types.specs.ValueViews.{value_of as view_value}
use Rattle.module_environ.specs.Metadata.{KnowsParams, params_to}
use Rattle.module_environ.proofs.AlikeFunctions.{types-known, types-alike}
use Rattle.module_sections.proofs.Filling.{added_more}
use Rattle.module_environ.proofs.metadata.params_by_type.Goals as goal

-- at the end none remained
none_left : {A : Type 0} (before after : List A) (first : A) (b : Bool) → b ≡ false → Takes before first after b → before ≡ []
none_left before after first b is takes = (subst (Takes before first after) is takes).0

pub loop-groups-init : goal.loop-groups-init
loop-groups-init g c =
    let env = goal.TypeConvert-dyn g c.args.env.now in
    let knows = env.knows c.args.env.now.1 in
    let look = env.look_up c.args.env.now.1 in
    let none = c.new-all.ensures.items in
    let start = ap types_by_id c.walk_of-groups.ensures in
    record {
      known = subst (All (KnowsParams knows)) (sym start) (types-known c.args.lists.now c.requires.gathered knows look c.requires.looks);
      params = λ i. map (λ params. map view_value params.value.items) (none i) ++ map (params_to look) (start i);
    }

pub add_params-requires : goal.add_params-requires
add_params-requires g c =
    let known = KnowsParams ((goal.TypeConvert-dyn g c.args.env.now).knows c.args.env.now.1) in
    let at = ap types_by_id (taken _ _ _ _ _ c.if-branch.true c.in_ok-advance.ensures c.entry.ensures) in
    ((All-joined known (group_of c.entry.result.now) _).0 (subst (All known) at c.loop-groups.invariant.known)).0

pub loop-groups-preserved : goal.loop-groups-preserved
loop-groups-preserved g c =
    let env = goal.TypeConvert-dyn g c.args.env.now in
    let known = KnowsParams (env.knows c.args.env.now.1) in
    let made = params_to (env.look_up c.args.env.now.1) in
    let group = group_of c.entry.result.now in
    let at = ap types_by_id (taken _ _ _ _ _ c.if-branch.true c.in_ok-advance.ensures c.entry.ensures) in
    record {
      known = ((All-joined known group _).0 (subst (All known) at c.loop-groups.invariant.known)).1;
      params = added_more _ _ (map made group) _ _ _ c.in_ok-add_params.ensures (ap (map made) at ∙ map-append made group _) c.loop-groups.invariant.params;
    }

pub returns : goal.returns
returns g c =
    let env = goal.TypeConvert-dyn g c.args.env.now in
    let look = env.look_up c.args.env.now.1 in
    let all = map (λ params. map view_value params.value.items) c.loop-groups.all.items in
    sym (append-nil all)
    ∙ ap (λ (gs : List NamedGroup). all ++ map (params_to look) (types_by_id gs)) (sym (none_left _ _ _ _ c.if-branch.false c.in_ok-advance.ensures))
    ∙ c.loop-groups.invariant.params
    ∙ types-alike c.args.lists.now c.requires.gathered (env.knows c.args.env.now.1) look c.requires.looks
