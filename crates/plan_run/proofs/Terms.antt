-- Terms stay when nodes are appended.
use Rattle.std.proofs.Common.{◌≡◌, ℕ, zero, suc, ◌+◌, ◌<◌, ◌≤◌, List, [], ◌∷◌, ◌++◌, length, map, Some, refl, sym, ◌∙◌, ap, arith, zero-add}
use Rattle.std.specs.Prelude.{slice_get, All}
use Rattle.std.specs.Global.{Vec}
use Rattle.std.proofs.lemmas.Bool.{cases_lt}
use Rattle.std.proofs.lemmas.List.{append_assoc, append-nil, length-append, length_push}
use Rattle.std.proofs.lemmas.List.Elements.{All-head, All-tail, All-weaker}
use Rattle.std.proofs.lemmas.Option.{slice_get_within, same_Some, none-some}
use Rattle.replay_spec.specs.Values as plain
use Rattle.replay_spec.specs.Values.{Term}
use Rattle.plan_run.specs.declared.evaluation.Evaluator.{Evaluator}
use Rattle.plan_run.specs.declared.value.Value.{Value}
use Rattle.plan_run.specs.declared.value.Value.TheVariants as value
use Rattle.plan_run.specs.declared.value.Node.{Node}
use Rattle.wasm_convert.specs.Operators.{operator_of}
use Rattle.plan_run.specs.Values.{value_in, values_in, imported_value, kept_term, term_of, terms_after, terms_of, NamesBelow, IsPlain, IsNodeAt, AreOrdered}
use Rattle.plan_run.specs.Evaluation.{EvaluatorIsSound, Grows}
use Rattle.plan_run.specs.Nodes.{Extends, Means, AllMean}
use Rattle.plan_run.proofs.Lists.{get-append-low, get-append-high}

-- ---- terms

terms-append : (terms : List Term) (ns ms : List Node) → terms_after terms (ns ++ ms) ≡ terms_after (terms_after terms ns) ms
terms-append terms [] ms = refl
terms-append terms (n ∷ ns) ms = terms-append (terms ++ term_of terms n ∷ []) ns ms

length-terms : (terms : List Term) (ns : List Node) → length (terms_after terms ns) ≡ length terms + length ns
length-terms terms [] = omega arith
length-terms terms (n ∷ ns) = omega (arith, length-terms (terms ++ term_of terms n ∷ []) ns, length_push terms (term_of terms n))

terms-low : (terms : List Term) (ns : List Node) (k : ℕ) → k < length terms → slice_get (terms_after terms ns) k ≡ slice_get terms k
terms-low terms [] k l = refl
terms-low terms (n ∷ ns) k l = grind (arith, [], length_push, get-append-low, (terms-low (terms ++ term_of terms n ∷ []) ns k (omega (arith, length_push terms (term_of terms n)))))

-- ---- values over terms that agree

value-same : (one other : List Term) (k : ℕ) (v : Value) → ((i : ℕ) → i < k → slice_get one i ≡ slice_get other i) → NamesBelow k v → value_in one v ≡ value_in other v
value-same one other k v same below = grind arith

values-same : (one other : List Term) (k : ℕ) (vs : List Value) → ((i : ℕ) → i < k → slice_get one i ≡ slice_get other i) → All (NamesBelow k) vs
    → values_in one vs ≡ values_in other vs
values-same one other k [] same below = refl
values-same one other k (v ∷ vs) same below = grind (arith, All-head, value-same, All-tail, (values-same one other k vs same (All-tail (NamesBelow k) v vs below)))

pub names-more : (k m : ℕ) (v : Value) → k ≤ m → NamesBelow k v → NamesBelow m v
names-more k m v l below = grind arith

pub all-names-more : (k m : ℕ) (vs : List Value) → k ≤ m → All (NamesBelow k) vs → All (NamesBelow m) vs
all-names-more k m vs l = All-weaker (NamesBelow k) (NamesBelow m) (λ v. names-more k m v l) vs

-- ---- a node's term, over the terms of all

abbrev kept : Node → List plain.Value → Term
kept n vs = kept_term (operator_of n.op) vs

term-from : (terms : List Term) (ns : List Node) (k : ℕ) (n : Node) → slice_get ns k ≡ Some n → All (NamesBelow (length terms + k)) n.args.items
    → slice_get (terms_after terms ns) (length terms + k) ≡ Some (term_of (terms_after terms ns) n)
term-from terms [] k n at below = absurd (none-some n at)
term-from terms (m ∷ ms) zero n at below =
    let t : Term = term_of terms m in
    let all : List Term = terms_after (terms ++ t ∷ []) ms in
    let long = length_push terms t in
    let same : m ≡ n = same_Some m n at in
    let here : slice_get (terms ++ t ∷ []) (length terms + 0) ≡ Some t = get-append-high terms (t ∷ []) 0 in
    let agree : (i : ℕ) → i < length terms + 0 → slice_get terms i ≡ slice_get all i = grind (arith, terms-low (terms ++ t ∷ []) ms, get-append-low) in
    grind (arith, terms-low (terms ++ t ∷ []) ms (length terms + 0), values-same terms all (length terms + 0) n.args.items agree below)
term-from terms (m ∷ ms) (suc k) n at below =
    let there : length (terms ++ term_of terms m ∷ []) + k ≡ length terms + suc k = omega (arith, length_push terms (term_of terms m)) in
    rw (← there) (term-from (terms ++ term_of terms m ∷ []) ms k n at (rw there below))

pub node-term : (nodes : List Node) (k : ℕ) (n : Node) → AreOrdered nodes → slice_get nodes k ≡ Some n → slice_get (terms_of nodes) k ≡ Some (term_of (terms_of nodes) n)
node-term nodes k n ordered at = grind (arith, term-from [] nodes k n at (rw zero-add (ordered k n at).below))

-- ---- nodes that are appended

pub extends-same : (nodes : List Node) → Extends nodes nodes
extends-same nodes = record { more = []; is = sym (append-nil nodes) }

pub extends-on : {a b c : List Node} → Extends a b → Extends b c → Extends a c
extends-on one two = record { more = one.more ++ two.more; is = grind (arith, append_assoc) }

pub grows-same : (e : Evaluator) → EvaluatorIsSound e → Grows e e
grows-same e sound = record { extends = extends-same e.nodes.items; sound = sound; globals = refl; values = refl; translation = refl; types = refl }

pub grows-on : {a b c : Evaluator} → Grows a b → Grows b c → Grows a c
grows-on one two = record {
  extends = extends-on one.extends two.extends;
  sound = two.sound;
  globals = two.globals ∙ one.globals;
  values = two.values ∙ one.values;
  translation = two.translation ∙ one.translation;
  types = two.types ∙ one.types;
}

module _ {old new : List Node} (e : Extends old new) where
  pub longer : length old ≤ length new
  longer = omega (arith, ap length e.is, length-append old e.more)

  agree-below : (i : ℕ) → i < length old → slice_get (terms_of new) i ≡ slice_get (terms_of old) i
  agree-below i l = grind (arith, terms-append, length-terms, terms-low)

  pub all-mean-on : {vs : List Value} {meant : List plain.Value} → AllMean old vs meant → AllMean new vs meant
  all-mean-on {vs = vs} m =
      grind (arith, all-names-more (length old) (length new) vs longer m.below, values-same (terms_of new) (terms_of old) (length old) vs agree-below m.below)

  pub kept-values : (vs : List Value) → All (NamesBelow (length old)) vs → values_in (terms_of new) vs ≡ values_in (terms_of old) vs
  kept-values vs below = values-same (terms_of new) (terms_of old) (length old) vs agree-below below

-- ---- one node more

pub terms-push : (nodes : List Node) (n : Node) → terms_of (nodes ++ n ∷ []) ≡ terms_of nodes ++ term_of (terms_of nodes) n ∷ []
terms-push nodes n = terms-append [] nodes (n ∷ [])

pub push-means : (nodes : List Node) (n : Node) → Means (nodes ++ n ∷ []) (value.Term (length nodes)) (plain.Ref (term_of (terms_of nodes) n))
push-means nodes n = grind (arith, length-terms [] nodes, length_push, terms-push, get-append-high (terms_of nodes) (term_of (terms_of nodes) n ∷ []) 0)

pub push-ordered : (nodes : List Node) (n : Node) → AreOrdered nodes → IsNodeAt (length nodes) n → AreOrdered (nodes ++ n ∷ [])
push-ordered nodes n ordered is k m at =
    grind (arith, cases_lt k (length nodes), ordered k m, get-append-low nodes (n ∷ []) k, slice_get_within (nodes ++ n ∷ []) k m at, length_push nodes n, get-append-high nodes (n ∷ []) 0)

pub push-grows : (e : Evaluator) (n : Node) (nodes : Vec Node) → EvaluatorIsSound e → IsNodeAt (length e.nodes.items) n → nodes.items ≡ e.nodes.items ++ n ∷ []
    → Grows e (record { alloc = e.alloc; translation = e.translation; types = e.types; globals = e.globals; nodes = nodes })
push-grows e n nodes sound at is =
    let extends : Extends e.nodes.items nodes.items = record { more = n ∷ []; is = is } in
    record {
      extends = extends;
      sound = record { ordered = rw is (push-ordered e.nodes.items n sound.ordered at); globals = all-names-more _ _ e.globals.items (longer extends) sound.globals };
      globals = refl;
      values = kept-values extends e.globals.items sound.globals;
      translation = refl;
      types = refl;
    }

pub pushed-means : (old new : List Node) (n : Node) (k : ℕ) → new ≡ old ++ n ∷ [] → k ≡ length old → Means new (value.Term k) (plain.Ref (term_of (terms_of old) n))
pushed-means old new n k is at = grind (arith, push-means old n)

-- ---- values that name no node

pub plain-mean : (nodes : List Node) (vs : List Value) → All IsPlain vs → AllMean nodes vs (map imported_value vs)
plain-mean nodes vs none = grind (arith, all-names-more 0 (length nodes) vs (omega arith) none, values-same (terms_of nodes) [] 0 vs)
