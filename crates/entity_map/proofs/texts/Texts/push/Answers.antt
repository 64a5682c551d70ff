use Rattle.std.proofs.Common.{◌≡◌, ◌++◌, ◌∷◌, ◌∙◌, [], All, List, ℕ, map, ap, arith}
use Rattle.std.specs.String.{string_bytes}
use Rattle.std.proofs.lemmas.Str.{IsUtf8-string_bytes}
use Rattle.entity_map.specs.Texts.{text_in, IsTextRange}
use Rattle.entity_map.specs.declared.texts.TextRange.{TextRange}
use Rattle.entity_map.proofs.TextsLemmas.{pushed}
use Rattle.entity_map.proofs.texts.Texts.push.Goals as goal
use Rattle.entity_map.proofs.texts.Texts.push.Goals.{After-push_reserved}

one_more : (c : After-push_reserved) → All (IsTextRange (string_bytes c.push_str.new.self)) c.push_reserved.new.self.items
    × (map (text_in (string_bytes c.push_str.new.self)) c.push_reserved.new.self.items
    ≡ map (text_in (string_bytes c.self.inside.buffer)) c.self.inside.places.items ++ c.args.text.now ∷ [])
one_more c =
    let p = c.in-Some.place in
    pushed (string_bytes c.self.inside.buffer) c.args.text.now (IsUtf8-string_bytes c.self.inside.buffer) c.utf8.text (string_bytes c.push_str.new.self)
    c.self.inside.places.items c.push_reserved.new.self.items p c.in_ok-push_str.ensures.bytes
    (c.push_reserved.ensures.items ∙ ap (λ (ps : List TextRange). ps ++ p ∷ []) c.in_ok-reserve.ensures.items)
    (omega (arith, c.in-Some.ensures.0, c.len.ensures, c.self.inside.buffer.bytes.ok.0))
    (omega (arith, c.in-Some.ensures.1, c.len.ensures, c.self.inside.buffer.bytes.ok.0)) c.self.invariant

pub invariant_of-self-2 : goal.invariant_of-self-2
invariant_of-self-2 c = (one_more c).0

pub returns-clause-ok : goal.returns-clause-ok
returns-clause-ok c = (one_more c).1 ∙ ap (λ (ts : List (List ℕ)). ts ++ c.args.text.now ∷ []) c.self.view_is
