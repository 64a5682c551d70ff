-- Lists that are end to end in one list.
use Rattle.std.specs.Prelude.{ℕ, ◌+◌, List, [], ◌∷◌}
use Rattle.plan_tables.specs.declared.rows.Span.{Span}

-- where each begins, and how many items it has, from their lengths, where the first begins at n
abbrev pub spans_from : ℕ → List ℕ → List Span
spans_from n [] = []
spans_from n (len ∷ lens) = record { begin = n; len = len } ∷ spans_from (n + len) lens
