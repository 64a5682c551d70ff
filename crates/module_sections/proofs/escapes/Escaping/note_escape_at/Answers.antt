use Rattle.std.proofs.Common.{◌≡◌, ◌<◌, ℕ, List, length, get_or, ap, sym, ◌∙◌, arith}
use Rattle.std.proofs.lemmas.List.{get_or_default}
use Rattle.module_sections.proofs.Numbering.{order-few, AreNumbers-more}
use Rattle.module_sections.proofs.NotingEscapes.{seen-new, seen-old}
use Rattle.module_sections.proofs.escapes.Escaping.note_escape_at.Goals as goal

number-read : (numbers : List ℕ) (f x : ℕ) → f < length numbers → x ≡ get_or numbers f x → get_or numbers f 0 ≡ x
number-read numbers f x lt is = get_or_default numbers f 0 x lt ∙ sym is

pub overflow_cast-number : goal.overflow_cast-number
overflow_cast-number c =
    let k = c.self.invariant in
    omega (arith, order-few c.self.inside.order.items _ k.once k.met, k.few)

pub invariant_of-self-then-index : goal.invariant_of-self-then-index
invariant_of-self-then-index c =
    let kept = c.self.inside in
    let in' : c.args.function < length kept.numbers.items = omega (arith, ap (λ s. s.count) c.self.view_is) in
    let next : length kept.order.items ≡ c.len-number.result = omega arith in
    let e = number-read kept.numbers.items c.args.function _ in' c.index.ensures ∙ c.if-index.true in
    rw (← next, c.in_ok-push.ensures.items) (AreNumbers-more kept.numbers.items kept.order.items c.args.function c.self.invariant in' e)

pub returns-in_ok-push : goal.returns-in_ok-push
returns-in_ok-push c =
    let kept = c.self.inside in
    let in' : c.args.function < length kept.numbers.items = omega (arith, ap (λ s. s.count) c.self.view_is) in
    let next : length kept.order.items ≡ c.len-number.result = omega arith in
    let e = number-read kept.numbers.items c.args.function _ in' c.index.ensures ∙ c.if-index.true in
    rw (← next) (seen-new c.args.self.now kept.numbers.items kept.order.items c.push.new.self.items c.args.function
    c.self.invariant c.self.view_is in' e c.in_ok-push.ensures.items)

pub returns-else-index : goal.returns-else-index
returns-else-index c =
    let kept = c.self.inside in
    let in' : c.args.function < length kept.numbers.items = omega (arith, ap (λ s. s.count) c.self.view_is) in
    let read = number-read kept.numbers.items c.args.function _ in' c.index.ensures in
    seen-old c.args.self.now kept.numbers.items kept.order.items c.args.function c.self.invariant c.self.view_is in'
    (λ e. c.if-index.false (sym read ∙ e))
