-- Which types have a default for each field.
use Rattle.std.specs.Prelude.{Bool, false, [], List, map, Option}
use Rattle.std.specs.List.{list_all}
use Rattle.std.specs.Option.{option_and_then}
use Rattle.wasm_spec.specs.declared.types.UnpackedIndex.{UnpackedIndex}
use Rattle.wasm_spec.specs.TypeData.{Composite, Func, Array, Struct, Cont, Exn}
use Rattle.rule_spec.specs.Lists.{Lists, Declared}
use Rattle.rule_spec.specs.Typing.{Signature, has_default, struct_fields, where_true, refers_to}

-- a struct type of which each field has a default
abbrev pub defaults_of : Composite UnpackedIndex UnpackedIndex → Bool
defaults_of (Func type) = false
defaults_of (Array field) = false
defaults_of (Struct fields) = list_all has_default fields
defaults_of (Cont function) = false
defaults_of (Exn type) = false

-- of each declared type
abbrev pub defaults : Lists → List Bool
defaults l = map (λ (d : Declared). defaults_of d.type.composite.inner) l.types

-- what `struct.new_default` takes and pushes, where the type has this kind
abbrev pub default_signature : Option (Composite UnpackedIndex UnpackedIndex) → Option Signature
default_signature k = option_and_then (λ fields. where_true (list_all has_default fields) (refers_to [])) (option_and_then struct_fields k)
