-- A small module, for a worked example.
use Rattle.std.specs.Prelude.{false, true, [], ◌∷◌, None}
use Rattle.wasm_spec.specs.declared.types.ValType.TheVariants as value
use Rattle.wasm_spec.specs.declared.entities.TypeRef.TheVariants as imported
use Rattle.wasm_spec.specs.TypeData.{Func}
use Rattle.wasm_spec.specs.TypeData as types
use Rattle.wasm_spec.specs.Module.{Module, Types, Imports, FunctionTypes, Code}

-- a function of two numbers that is defined, with three locals of a kind, after one that is
-- imported
abbrev pub defining_module : Module
defining_module =
    Types ((record {
      is_final = true;
      supertype = None;
      composite = record { inner = Func (record { params = types.I32 ∷ types.I64 ∷ []; results = [] }); shared = false };
    } ∷ []) ∷ [])
    ∷ Imports (record { space = 109 ∷ []; name = 102 ∷ []; type = imported.Func 0 } ∷ [])
    ∷ FunctionTypes (0 ∷ [])
    ∷ Code 24 (record { locals = (3, value.F32) ∷ []; rest = 0x0B ∷ [] } ∷ [])
    ∷ []
