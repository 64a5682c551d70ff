-- The first values of globals, gathered one global at a time.
use Rattle.std.proofs.Common.{◌≡◌, ℕ, List, ◌∷◌, ◌++◌, map, Option, Some, None, sym, ap, ◌∙◌, append_assoc, arith}
use Rattle.std.specs.Prelude.{is_none, if◌then◌else◌}
use Rattle.std.specs.List.{filter_map, cons_option, enumerate_from}
use Rattle.std.specs.Option.{option_map}
use Rattle.wasm_spec.specs.Module.{Expression, GlobalDef}
use Rattle.wasm_convert.specs.declared.operators.ConstOp.{ConstOp}
use Rattle.wasm_convert.specs.Conversion.{LookUp}
use Rattle.wasm_convert.specs.Constants.{const_ops_of, expression_of}
use Rattle.replay_spec.specs.Values.{Value, const_value}
use Rattle.replay_spec.specs.Globals.{simple_of, kept_of}
use Rattle.module_sections.specs.declared.globals.FirstGlobals.{FirstGlobals}
use Rattle.module_sections.specs.FirstGlobals.{seen_globals, view_known, view_left, known_next, left_next, AddsInitialiser}
use Rattle.module_sections.proofs.HeldExpressions.{const_value_converted}

-- an initialiser with its number
abbrev pub converted : LookUp → ℕ × Expression → ℕ × List ConstOp
converted look g = (g.0, const_ops_of look g.1)

-- the initialisers of globals that come next, by their numbers
abbrev pub next_initialisers : FirstGlobals → List GlobalDef → List (ℕ × Expression)
next_initialisers first globals = enumerate_from (seen_globals first) (map (λ g. g.init) globals)

known-one : (n : ℕ) (v : Option Value) (others : List (ℕ × Value)) → cons_option (option_map (λ v. (n, v)) v) others ≡ known_next n v ++ others
known-one n v others = grind arith

left-one : (look : LookUp) (n : ℕ) (e : Expression) (v : Option Value) (others : List (ℕ × Expression))
    → map (converted look) (cons_option (if is_none v then Some (n, e) else None) others) ≡ left_next n (const_ops_of look e) v ++ map (converted look) others
left-one look n e v others = grind arith

-- one global more
module _ (look : LookUp) (a b : FirstGlobals) (g : GlobalDef) (left rest : List GlobalDef) (ops : List ConstOp) (at : left ≡ g ∷ rest)
    (is : ops ≡ const_ops_of look g.init) (adds : AddsInitialiser a b ops) where
  value : const_value (expression_of ops) ≡ const_value g.init
  value = ap (λ (e : List ConstOp). const_value (expression_of e)) is ∙ const_value_converted look g.init

  next : next_initialisers a left ≡ (seen_globals a, g.init) ∷ next_initialisers b rest
  next = ap (next_initialisers a) at
      ∙ ap (λ (n : ℕ). (seen_globals a, g.init) ∷ enumerate_from n (map (λ (h : GlobalDef). h.init) rest)) (sym adds.counted)

  pub known_more : (all : List (ℕ × Value)) → view_known a ++ filter_map simple_of (next_initialisers a left) ≡ all
      → view_known b ++ filter_map simple_of (next_initialisers b rest) ≡ all
  known_more all before =
      let others = filter_map simple_of (next_initialisers b rest) in
      let one = ap (filter_map simple_of) next ∙ known-one (seen_globals a) (const_value g.init) others in
      cc (one, value, adds.known, append_assoc (view_known a) (known_next (seen_globals a) (const_value g.init)) others)

  pub left_more : (all : List (ℕ × List ConstOp)) → view_left a ++ map (converted look) (filter_map kept_of (next_initialisers a left)) ≡ all
      → view_left b ++ map (converted look) (filter_map kept_of (next_initialisers b rest)) ≡ all
  left_more all before =
      let others = filter_map kept_of (next_initialisers b rest) in
      let one = ap (λ (es : List (ℕ × Expression)). map (converted look) (filter_map kept_of es)) next
      ∙ left-one look (seen_globals a) g.init (const_value g.init) others in
      cc (one, value, is, adds.left, append_assoc (view_left a) (left_next (seen_globals a) ops (const_value g.init)) (map (converted look) others))
