-- Whether lists of classes are equal, and laws, with their proofs: a test of numbers decides it.
use Rattle.std.proofs.Common.{◌≡◌, ◌∙◌, ℕ, Bool, nat_eq, List, if◌then◌else◌, refl, sym, ap}
use Rattle.std.specs.Bool.{Decides}
use Rattle.std.specs.Cmp.Lexicographic.{pointwise}
use Rattle.std.proofs.lemmas.Bool.Decides.{Decides-eqb, Decides-like}
use Rattle.std.proofs.lemmas.Slice.Eq.{slice_eq-Decides}
use Rattle.rule_spec.specs.declared.classes.Class.{Class}
use Rattle.rule_spec.specs.declared.classes.Class.TheVariants as class

class_number : Class → ℕ
class_number class.I32 = 0
class_number class.I64 = 1
class_number class.F32 = 2
class_number class.F64 = 3
class_number class.V128 = 4
class_number class.Ref = 5

numbered_class : ℕ → Class
numbered_class n =
    if nat_eq n 0 then class.I32 else
    if nat_eq n 1 then class.I64 else
    if nat_eq n 2 then class.F32 else
    if nat_eq n 3 then class.F64 else
    if nat_eq n 4 then class.V128 else
    class.Ref

class-back : (c : Class) → numbered_class (class_number c) ≡ c
unfolding numbered_class class_number
class-back class.I32 = refl
class-back c = refl

same_class : Class → Class → Bool
same_class a b = nat_eq (class_number a) (class_number b)

class-decides : (a b : Class) → Decides (same_class a b) (a ≡ b)
unfolding same_class
class-decides a b =
    Decides-like _ (λ (e : class_number a ≡ class_number b). sym (class-back a) ∙ ap numbered_class e ∙ class-back b) (ap class_number)
    (Decides-eqb (class_number a) (class_number b))

classes-decide : (cs ds : List Class) → Decides (pointwise same_class cs ds) (cs ≡ ds)
classes-decide cs ds = slice_eq-Decides class-decides cs ds _ refl

-- whether two lists of classes are equal: what it says determines the answer
pub decide_classes : (cs ds : List Class) → (equal : Bool) × Decides equal (cs ≡ ds)
decide_classes cs ds = (pointwise same_class cs ds, classes-decide cs ds)
