use Rattle.std.proofs.Common.{◌≡◌, ◌∙◌, ◌<◌, Some, sym, subst, ℕ, List, length, Option, None, refl, ap}
use Rattle.std.specs.Prelude.{IsSome, IsSomeAnd}
use Rattle.wasm_spec.specs.declared.types.UnpackedIndex.TheVariants as index
use Rattle.wasm_index.specs.Index.{number_of, index_of}
use Rattle.wasm_index.specs.declared.index.Index.{Index}
use Rattle.wasm_index.specs.declared.spaces.TypeSpace.{TypeSpace}
use Rattle.wasm_types.specs.declared.index.EngineOrModuleTypeIndex.{EngineOrModuleTypeIndex}
use Rattle.module_types.specs.Views.{TypeIndex}
use Rattle.module_types.specs.Builder.{BuilderState}
use Rattle.module_types.specs.ClosureAnswers.{Answer, AnswersBelow}
use Rattle.module_types.specs.Converter.{TypesAndGroup, interned_name, look_index, answered, answered-is}
use Rattle.interned_types.specs.Environment.{interned_in, number_or_zero, AreHeld, declared_name}
use Rattle.interned_types.proofs.declared.declared_converter.Goals as goal

module _ (types : List EngineOrModuleTypeIndex) where
  -- what the record gives at an index
  abbrev Gives : Index TypeSpace → TypeIndex → Type 0
  Gives i r = interned_in types (number_of i) ≡ Some r

  answer-of : (count i : ℕ) (o : Option TypeIndex) → interned_in types i ≡ o → IsSomeAnd o (λ k. number_of k < count) → Answer Gives count i
  answer-of count i None e h = absurd h
  answer-of count i (Some k) e h = record {
    number = number_of k;
    given = ∣ e ∣₁;
    alone = λ r p. ap number_or_zero (sym p ∙ e);
    held = h;
  }

  answers-of : (count bound : ℕ) → bound ≡ length types → AreHeld types count → AnswersBelow Gives count bound
  answers-of count bound e held n h = answer-of count n (interned_in types n) refl (held n (subst (λ m. n < m) e h))

  -- so a converter whose look-up gives what the record gives looks up the types of the record
  module _ (given : Index TypeSpace → TypeIndex → Type 0) (gives : (i : Index TypeSpace) (r : TypeIndex) → Gives i r → given i r)
      (c : BuilderState) (bound : ℕ)
      (answers : AnswersBelow given (length c.list.types) bound) (ids : Option TypesAndGroup) (b : BuilderState) (same : c ≡ b) (e : bound ≡ length types) where
    number-is : (i : ℕ) → i < bound → (o : Option TypeIndex) → interned_in types i ≡ o → IsSomeAnd o (λ k. number_of k < length b.list.types)
        → answered given c bound answers ids i ≡ number_or_zero o
    number-is i h None at held = absurd held
    number-is i h (Some k) at held = sym (answered-is given c bound answers ids i h k (gives (index_of i) k at))

    look-is : AreHeld types (length b.list.types) → (i : ℕ) → i < length types
        → look_index given c bound answers ids (index.Module i) ≡ declared_name types b i
    look-is held i below =
        let number = number-is i (subst (λ n. i < n) (sym e) below) (interned_in types i) refl (held i below) in
        ap (interned_name c) number ∙ ap (λ k. interned_name k (number_or_zero (interned_in types i))) same

some-in : (count : ℕ) (o : Option TypeIndex) → IsSomeAnd o (λ k. number_of k < count) → IsSome o
some-in count None h = absurd h
some-in count (Some k) h = refl

pub new-requires : goal.new-requires
new-requires c = answers-of c.args.declared.now _ c.len-count.result c.len-count.ensures.length c.requires

pub returns-clause-knows : goal.returns-clause-knows
returns-clause-knows c = λ i lt. (
  subst (λ n. i < n) (sym (c.new.ensures.count ∙ c.len-count.ensures.length)) lt,
  subst (λ l. IsSome (interned_in l.0.now i)) (sym c.new.ensures.look_up) (some-in _ (interned_in c.args.declared.now i) (c.requires i lt)),
)

pub returns-clause-looks : goal.returns-clause-looks
returns-clause-looks c =
    look-is c.args.declared.now _ (λ i r at. subst (λ l. interned_in l.0.now (number_of i) ≡ Some r) (sym c.new.ensures.look_up) at)
    c.new.result.types.now c.new.result.count c.new.result.answers _ c.args.types.now c.new.ensures.types
    (c.new.ensures.count ∙ c.len-count.ensures.length) c.requires
