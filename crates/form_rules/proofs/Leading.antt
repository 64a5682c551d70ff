-- Operators one after another lead from one stack to one other.
use Rattle.std.proofs.Common.{◌≡◌, pos, ℤ, ℕ, ◌+◌, ◌<◌, List, [], ◌∷◌, ◌++◌, length, take, drop, get_or, None, Some, refl, sym, ap, subst, ◌∙◌}
use Rattle.std.proofs.lemmas.List.{append_cancel_right, take_more, drop_more, take-append-drop}
use Rattle.wasm_spec.specs.declared.entities.GlobalType.{GlobalType}
use Rattle.wasm_spec.specs.declared.operators.Operator.{Operator}
use Rattle.wasm_spec.specs.declared.operators.Operator.TheVariants.{I32Const}
use Rattle.rule_spec.specs.declared.classes.Class.{Class}
use Rattle.rule_spec.specs.declared.classes.Class.TheVariants.{I32}
use Rattle.rule_spec.specs.Lists.{Lists}
use Rattle.rule_spec.specs.Typing.{Signature, signature}
use Rattle.rule_spec.proofs.Stepping.{Step, Leads}
use Rattle.form_rules.specs.Stack.{Taken}

-- what an index past the operators reads
abbrev pub no_operator : Operator
no_operator = I32Const (pos 0)

module _ (l : Lists) (visible : List GlobalType) where
  step_same : (op : Operator) (a b c : List Class) → Step l visible op a b → Step l visible op a c → b ≡ c
  step_same op a b c first second =
      let two : Some first.signed ≡ Some second.signed = sym first.is_signed ∙ second.is_signed in
      let signed : first.signed ≡ second.signed = cc in
      let rest : first.rest ≡ second.rest = append_cancel_right first.rest second.rest second.signed.takes
      (ap (λ (s : Signature). first.rest ++ s.takes) (sym signed) ∙ sym first.has_taken ∙ second.has_taken) in
      first.has_pushed ∙ ap (λ (s : Signature). first.rest ++ s.pushes ∷ []) signed ∙ ap (λ (r : List Class). r ++ second.signed.pushes ∷ []) rest ∙ sym second.has_pushed

  pub leads_same : (ops : List Operator) (a b c : List Class) → Leads l visible ops a b → Leads l visible ops a c → b ≡ c
  leads_same [] a b c first second = sym first ∙ second
  leads_same (op ∷ ops) a b c first second =
      let mid : first.0 ≡ second.0 = step_same op a first.0 second.0 first.1 second.1 in
      leads_same ops second.0 b c (subst (λ (s : List Class). Leads l visible ops s b) mid first.2) second.2

  pub leads_push : (ops : List Operator) (op : Operator) (a b c : List Class) → Leads l visible ops a b → Step l visible op b c → Leads l visible (ops ++ op ∷ []) a c
  leads_push [] op a b c first step = (c, subst (λ (s : List Class). Step l visible op s c) (sym first) step, refl)
  leads_push (o ∷ ops) op a b c first step = (first.0, first.1, leads_push ops op first.0 b c first.2 step)

  leads_split : (ops rest : List Operator) (a c : List Class) → Leads l visible (ops ++ rest) a c → (b : List Class) × Leads l visible ops a b × Leads l visible rest b c
  leads_split [] rest a c all = (a, refl, all)
  leads_split (op ∷ ops) rest a c all = let more = leads_split ops rest all.0 c all.2 in (more.0, (all.0, all.1, more.1), more.2)

  -- one operator more, which pops something and pushes something
  pub leads_more : (ops : List Operator) (k : ℕ) (d op : Operator) (before taken after : List Class) (pushed : Class) → k < length ops → op ≡ get_or ops k d
      → Leads l visible (take k ops) [] before → Taken (signature l visible op) before taken (Some pushed) → after ≡ taken ++ pushed ∷ []
      → Leads l visible (take (k + 1) ops) [] after
  leads_more ops k d op before taken after pushed lt at first took is =
      subst (λ (os : List Operator). Leads l visible os [] after) (ap (λ (o : Operator). take k ops ++ o ∷ []) at ∙ sym (take_more ops k d lt))
      (leads_push (take k ops) op [] before after first (record {
        signed = took.0;
        rest = taken;
        is_signed = took.1;
        has_taken = took.2;
        has_pushed = is ∙ ap (λ (c : Class). taken ++ c ∷ []) took.3;
      }))

  -- an operator that is not typed there
  pub leads_fail : (ops : List Operator) (k : ℕ) (d op : Operator) (before taken after : List Class) → k < length ops → op ≡ get_or ops k d
      → Leads l visible (take k ops) [] before → Taken (signature l visible op) before taken None → Leads l visible ops [] after → ⊥
  leads_fail ops k d op before taken after lt at first fails all =
      let whole : ops ≡ take k ops ++ (op ∷ drop (k + 1) ops) =
      sym (take-append-drop k ops) ∙ ap (λ (os : List Operator). take k ops ++ os) (drop_more ops k d lt ∙ ap (λ (o : Operator). o ∷ drop (k + 1) ops) (sym at)) in
      let parts = leads_split (take k ops) (op ∷ drop (k + 1) ops) [] after (subst (λ (os : List Operator). Leads l visible os [] after) whole all) in
      let same : before ≡ parts.0 = leads_same (take k ops) [] before parts.0 first parts.1 in
      let step = parts.2.1 in
      fails step.signed step.is_signed step.rest (same ∙ step.has_taken)

  -- one `i32.const` leads to an i32
  leads_one : (value : ℤ) → Leads l visible (I32Const value ∷ []) [] (I32 ∷ [])
  leads_one value = (I32 ∷ [], record { signed = record { takes = []; pushes = I32 }; rest = []; is_signed = refl; has_taken = refl; has_pushed = refl }, refl)

  same_class : (a b : Class) → a ∷ [] ≡ b ∷ [] → b ≡ a
  same_class a b e = sym cc

  -- and to no other class
  pub one_leads : (value : ℤ) (ops : List Operator) (c : Class) (T : Type 0) → ops ≡ I32Const value ∷ [] → (T → c ≡ I32) × (c ≡ I32 → T)
      → (T → Leads l visible ops [] (c ∷ [])) × (Leads l visible ops [] (c ∷ []) → T)
  one_leads value ops c T is test = (
    λ t. rw (is, test.0 t) (leads_one value),
    λ leads. test.1 (same_class I32 c (leads_same (I32Const value ∷ []) [] (I32 ∷ []) (c ∷ []) (leads_one value)
        (subst (λ (os : List Operator). Leads l visible os [] (c ∷ [])) is leads))),
  )
