-- What typing checks of kinds does not depend on what references name.
use Rattle.std.proofs.Common.{◌≡◌, ◌&&◌, List, [], ◌∷◌, map, Option, Some, None, refl, ap}
use Rattle.std.specs.List.{list_all}
use Rattle.std.specs.Option.{option_map, option_and_then}
use Rattle.wasm_spec.specs.declared.types.UnpackedIndex.{UnpackedIndex}
use Rattle.wasm_spec.specs.declared.types.UnpackedIndex.TheVariants.{Module}
use Rattle.wasm_spec.specs.TypeData.{ValueType, I32, I64, F32, F64, V128, Ref, Storage, I8, I16, Val, Field, Func, Array, Struct, Cont, Exn, map_value, map_storage, map_field}
use Rattle.rule_spec.specs.declared.classes.Class.{Class}
use Rattle.rule_spec.specs.Typing.{class_of, storage_class, field_class, value_has_default, storage_has_default, has_default, struct_fields}
use Rattle.form_rules.specs.Unnamed.{unnamed}
use Rattle.form_rules.proofs.KindFunctions.{Kind, equal-result}
use Rattle.form_rules.specs.Defaults.{defaults_of}

-- ---- parts of kinds

abbrev no_name : UnpackedIndex → UnpackedIndex
no_name index = Module 0

class-alone : (v : ValueType UnpackedIndex) → class_of (map_value no_name v) ≡ class_of v
class-alone I32 = refl
class-alone I64 = refl
class-alone F32 = refl
class-alone F64 = refl
class-alone V128 = refl
class-alone (Ref r) = refl

default-alone : (v : ValueType UnpackedIndex) → value_has_default (map_value no_name v) ≡ value_has_default v
default-alone I32 = refl
default-alone I64 = refl
default-alone F32 = refl
default-alone F64 = refl
default-alone V128 = refl
default-alone (Ref r) = refl

storage-class-alone : (s : Storage UnpackedIndex) → storage_class (map_storage no_name s) ≡ storage_class s
storage-class-alone I8 = refl
storage-class-alone I16 = refl
storage-class-alone (Val v) = class-alone v

storage-default-alone : (s : Storage UnpackedIndex) → storage_has_default (map_storage no_name s) ≡ storage_has_default s
storage-default-alone I8 = refl
storage-default-alone I16 = refl
storage-default-alone (Val v) = default-alone v

classes-alone : (fs : List (Field UnpackedIndex)) → map field_class (map (map_field no_name) fs) ≡ map field_class fs
classes-alone [] = refl
classes-alone (f ∷ fs) = λ i. storage-class-alone f.element i ∷ classes-alone fs i

defaults-alone : (fs : List (Field UnpackedIndex)) → list_all has_default (map (map_field no_name) fs) ≡ list_all has_default fs
defaults-alone [] = refl
defaults-alone (f ∷ fs) = λ i. storage-default-alone f.element i && defaults-alone fs i

-- ---- kinds

struct-alone : (k : Kind) → option_map (map field_class) (struct_fields (unnamed k)) ≡ option_map (map field_class) (struct_fields k)
struct-alone (Func f) = refl
struct-alone (Array f) = refl
struct-alone (Struct fs) = ap (λ (cs : List Class). Some cs) (classes-alone fs)
struct-alone (Cont function) = refl
struct-alone (Exn e) = refl

pub kind-defaults-alone : (k : Kind) → defaults_of (unnamed k) ≡ defaults_of k
kind-defaults-alone (Func f) = refl
kind-defaults-alone (Array f) = refl
kind-defaults-alone (Struct fs) = defaults-alone fs
kind-defaults-alone (Cont function) = refl
kind-defaults-alone (Exn e) = refl

-- ---- the kind of a declared type

module _ {A B : Type 0} (g : Kind → Option A) (h : A → B) where
  part : (k : Kind) (o : Option Kind) → Some (option_map h (g k)) ≡ option_map (λ (d : Kind). option_map h (g d)) o
      → option_map h (g k) ≡ option_map h (option_and_then g o)
  part k None is = absurd cc
  part k (Some d) is = cc

-- the classes of its fields
pub struct-classes : (k : Kind) (o : Option Kind) → Some (unnamed k) ≡ option_map unnamed o
    → option_map (map field_class) (struct_fields k) ≡ option_map (map field_class) (option_and_then struct_fields o)
struct-classes k o same = part struct_fields (map field_class) k o (equal-result (λ d. option_map (map field_class) (struct_fields d)) struct-alone k o same)
