-- The tags of a module in turn, each with its exception type.
use Rattle.std.proofs.Common.{◌≡◌, ◌∙◌, ◌≤◌, ◌<◌, ℕ, suc, ◌+◌, false, IsTrue, Option, Some, None, List, [], ◌∷◌, ◌++◌, length, get_or, map, take, drop, position, refl, sym, ap, subst, arith, length-append, drop-cons}
use Rattle.std.specs.Prelude.{◌^◌, ◌==◌, IsSome, unwrap_or}
use Rattle.std.proofs.lemmas.List.{length-map, map-append, take-append-drop, take_more, take_all, length-take}
use Rattle.std.specs.List.{fold}
use Rattle.std.proofs.lemmas.List.Sums.{fold_push}
use Rattle.std.proofs.lemmas.List.Elements.{All-get_or}
use Rattle.wasm_spec.specs.Module as plain
use Rattle.type_spec.specs.Interned.{Interned, Built, kind_of_type, composite_at, with_exception, with_exceptions, taken}
use Rattle.rule_spec.specs.Lists.{lists_of_module}
use Rattle.rule_spec.specs.TypeRules.{NamesFunctionType}
use Rattle.form_types.specs.Placed.{placed_groups}
use Rattle.wasm_index.specs.Index.{index_of}
use Rattle.wasm_types.specs.declared.index.EngineOrModuleTypeIndex.{EngineOrModuleTypeIndex}
use Rattle.wasm_types.specs.declared.tag.Tag.{Tag}
use Rattle.module_types.specs.Builder.{Builder, is_function, noted, exception_index, excepts_by, excepts}
use Rattle.module_types.proofs.GroupMembers.{composite-before}
use Rattle.interned_types.specs.Types.{interned_at, type_index, declared_type, exception_at, interned_list}
use Rattle.interned_types.specs.Environment.{interned_in, number_or_zero}
use Rattle.entity_map.specs.Firsts.{firsts}
use Rattle.interned_types.specs.OnTheWay.{after_tags}
use Rattle.interned_types.specs.Tagged.{CanTag, GainsExceptions, function_at, tag_at}
use Rattle.interned_types.proofs.DeclaredKinds.{declared-kind, function-is, function-below, function-declared}
use Rattle.interned_types.proofs.DeclaredLooks.{declared-long, declared-held, listed-long, listed-at}
use Rattle.interned_types.proofs.Excepting.{Excepts, excepts-none, excepts-next, index-is, long, more, types-are, firsts-few}

-- a builder with one more exception type is otherwise the same
gains-by : (old b : Builder) (n : ℕ) (o : Option ℕ) → GainsExceptions old b → GainsExceptions old (excepts_by b n o)
gains-by old b n (Some k) gains = gains
gains-by old b n None gains =
    ap (λ (c : Builder). record c { built = with_exception b.built n; exceptions = noted b.exceptions n (length b.built.types) }) gains

-- and it has at most one type more
excepts-long : (b : Builder) (n : ℕ) (o : Option ℕ) → length (excepts_by b n o).built.types ≤ length b.built.types + 1
excepts-long b n (Some k) = omega arith
excepts-long b n None = omega (arith, length-append {A = Interned})

-- a list split at a position
around : (xs : List ℕ) (k : ℕ) → k < length xs → xs ≡ take k xs ++ get_or xs k 0 ∷ drop (suc k) xs
around xs k lt = sym (take-append-drop k xs) ∙ ap (λ l. take k xs ++ l) (drop-cons xs k 0 lt)

module _ (m : plain.Module) where
  abbrev pub tag_in : ℕ → Tag
  tag_in i = record { signature = declared_type m i; exception = type_index (exception_at m i) }

  -- the first k tags were converted
  pub record IsTagging (tags : List ℕ) (old b : Builder) (k : ℕ) (out : List Tag) : Type 0 where
    pub asked : Excepts (taken (placed_groups m)).built (map (interned_at m) (take k tags)) b
    pub listed : out ≡ map tag_in (take k tags)
    pub gains : GainsExceptions old b
    pub after : b ≡ after_tags m tags old k

module _ {m : plain.Module} {tags : List ℕ} {types : List EngineOrModuleTypeIndex} {old : Builder} (can : CanTag m tags types old) where
  pub tagging-none : IsTagging m tags old old 0 []
  tagging-none = record {
    asked = excepts-none (taken (placed_groups m)).built old can.built (λ n. ap (λ (b : Builder). b.exceptions n) can.alone);
    listed = refl;
    gains = refl;
    after = refl;
  }

  module _ {b : Builder} {k : ℕ} {out : List Tag} (x : IsTagging m tags old b k out) where
    abbrev start : Built
    start = (taken (placed_groups m)).built

    abbrev so_far : List ℕ
    so_far = map (interned_at m) (take k tags)

    taken-long : length (map (interned_at m) (take k tags)) ≤ k
    taken-long = omega (arith, length-map (take k tags) (interned_at m), length-take k tags)

    pub out-short : length out ≤ k
    out-short = omega (arith, ap length x.listed, length-map (take k tags) (tag_in m), length-take k tags)

    pub types-few : length b.built.types ≤ length old.built.types + k
    types-few = omega (arith, long start x.asked, firsts-few so_far [], taken-long, ap (λ (c : Built). length c.types) can.built)

    module _ (lt : k < length tags) where
      abbrev pub i : ℕ
      i = get_or tags k 0

      abbrev pub n : ℕ
      n = interned_at m i

      function : NamesFunctionType (lists_of_module m) i
      function = All-get_or (NamesFunctionType (lists_of_module m)) tags k 0 lt (rw can.named can.functions)

      inside : i < length (plain.types m)
      inside = function-below m i function

      pub below : i < length types
      below = omega (arith, inside, listed-long m can.earlier types can.listed)

      pub types-below : length types < 2 ^ 30
      types-below = omega (arith, can.few, listed-long m can.earlier types can.listed)

      names-is : interned_in types i ≡ Some (index_of n)
      names-is = listed-at m can.earlier types can.listed i inside

      pub names : IsSome (interned_in types i)
      names = subst IsSome (sym names-is) refl

      pub function-at : function_at types i ≡ n
      function-at = ap number_or_zero names-is

      held-first : n < length (taken (placed_groups m)).built.types
      held-first = declared-held m can.earlier i inside

      held-n : n < length b.built.types
      held-n = omega (arith, held-first, long start x.asked)

      called-n : IsTrue (is_function (composite_at b.built.types n))
      called-n =
          function-is (composite_at b.built.types n)
          (ap (λ l. kind_of_type (composite_at l n)) (types-are start x.asked)
          ∙ ap (λ c. kind_of_type c) (composite-before start.types (more start x.asked) n held-first)
          ∙ declared-kind (placed_groups m) can.earlier i (omega (arith, inside, declared-long m can.earlier))
          ∙ function-declared m i function)

      -- as the call names the function type
      pub held : function_at types i < length b.built.types
      held = omega (arith, held-n, function-at)

      pub called : IsTrue (is_function (composite_at b.built.types (function_at types i)))
      called = subst (λ k. IsTrue (is_function (composite_at b.built.types k))) (sym function-at) called-n

      pub room : length tags < 2 ^ 30 → length old.built.types < 2 ^ 31 → length (excepts b (function_at types i)).built.types < 4294967295
      room few few' = omega (arith, few, few', lt, types-few, excepts-long b (function_at types i) (b.exceptions (function_at types i)))

      exception-is : exception_index b n ≡ exception_at m i
      exception-is =
          let is = map (interned_at m) (drop (suc k) tags) in
          let all : map (interned_at m) (plain.tags m) ≡ so_far ++ n ∷ is = ap (map (interned_at m)) (sym can.named ∙ around tags k lt)
          ∙ map-append (interned_at m) (take k tags) (i ∷ drop (suc k) tags) in
          index-is start x.asked n is
          ∙ ap (λ l. length start.types + unwrap_or (position (λ k. k == n) (firsts l)) 0) (sym all)

      pub tagging-next : (c : Builder) (tag : Tag) → c ≡ excepts b (function_at types i) → tag ≡ tag_at b (function_at types i)
          → IsTagging m tags old c (k + 1) (out ++ tag ∷ [])
      tagging-next c tag made' is' =
          let made : c ≡ excepts b n = made' ∙ ap (excepts b) function-at in
          let is : tag ≡ tag_at b n = is' ∙ ap (tag_at b) function-at in
          let more = take_more tags k 0 lt in
          record {
            asked = subst (λ l. Excepts start l c) (sym (ap (map (interned_at m)) more ∙ map-append (interned_at m) (take k tags) (i ∷ [])))
                (subst (Excepts start (so_far ++ n ∷ [])) (sym made) (excepts-next start x.asked n));
            listed = (λ j. x.listed j ++ (is ∙ ap (λ e. record { signature = type_index n; exception = type_index e }) exception-is) j ∷ [])
                ∙ sym (map-append (tag_in m) (take k tags) (i ∷ [])) ∙ ap (map (tag_in m)) (sym more);
            gains = subst (GainsExceptions old) (sym made) (gains-by old b n (b.exceptions n) x.gains);
            after = made ∙ ap (λ (d : Builder). excepts d n) x.after ∙ sym (fold_push excepts old (map (interned_at m) (take k tags)) n)
                ∙ ap (fold excepts old) (sym (ap (map (interned_at m)) more ∙ map-append (interned_at m) (take k tags) (i ∷ [])));
          }

    -- all were converted
    pub built-all : k ≡ length tags → b.built ≡ interned_list m false
    built-all all = x.asked.built ∙ ap (λ ts. with_exceptions start (map (interned_at m) ts)) (take_all k tags (omega arith) ∙ can.named)
