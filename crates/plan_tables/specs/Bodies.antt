-- What the tables say of the bodies of functions.
use Rattle.std.specs.Prelude.{◌≡◌, ℕ, ◌+◌, List, [], ◌∷◌, length, map, drop, Result, Ok, Err}
use Rattle.std.specs.List.{flat_map}
use Rattle.wasm_spec.specs.declared.types.AbstractHeapType.TheVariants as abstract
use Rattle.wasm_spec.specs.declared.types.HeapType.{HeapType}
use Rattle.wasm_spec.specs.declared.types.HeapType.TheVariants.{Concrete, Abstract}
use Rattle.wasm_spec.specs.declared.types.RefType.{RefType}
use Rattle.wasm_spec.specs.declared.types.UnpackedIndex.TheVariants as named
use Rattle.wasm_spec.specs.declared.types.ValType.{ValType}
use Rattle.wasm_spec.specs.declared.types.ValType.TheVariants as val
use Rattle.form_reader.specs.Reading.{Fault}
use Rattle.form_reader.specs.ReadingNumbers.{unsigned_at, counted_bytes_at}
use Rattle.init_plan.specs.declared.translation.FunctionBodyData.{FunctionBodyData}
use Rattle.init_plan.specs.declared.translation.ModuleTranslation.{ModuleTranslation}
use Rattle.plan_tables.specs.declared.record.BodiesRecord.{BodiesRecord}
use Rattle.plan_tables.specs.declared.record.BodyRow.{BodyRow}
use Rattle.plan_tables.specs.declared.rows.LocalsRow.{LocalsRow}
use Rattle.plan_tables.specs.declared.rows.Span.{Span}
use Rattle.plan_tables.specs.declared.rows.ValueRow.{ValueRow}
use Rattle.plan_tables.specs.Numbers.{bit}
use Rattle.plan_tables.specs.Values.{plain_row}

-- a heap type as it was read, by the numbers of the converted ones; 19 one that names a type
abbrev pub read_heap_number : HeapType → ℕ
read_heap_number (Concrete i) = 19
read_heap_number (Abstract abstract.Extern) = 0
read_heap_number (Abstract abstract.NoExtern) = 1
read_heap_number (Abstract abstract.Func) = 2
read_heap_number (Abstract abstract.NoFunc) = 4
read_heap_number (Abstract abstract.Exn) = 5
read_heap_number (Abstract abstract.NoExn) = 7
read_heap_number (Abstract abstract.Cont) = 8
read_heap_number (Abstract abstract.NoCont) = 10
read_heap_number (Abstract abstract.Any) = 11
read_heap_number (Abstract abstract.Eq) = 12
read_heap_number (Abstract abstract.I31) = 13
read_heap_number (Abstract abstract.Array) = 14
read_heap_number (Abstract abstract.Struct) = 16
read_heap_number (Abstract abstract.None) = 18

-- which list the type that it names is of: 3 its group, 4 the type section, 5 types by ids
abbrev pub read_index_list : HeapType → ℕ
read_index_list (Abstract h) = 0
read_index_list (Concrete (named.RecGroup i)) = 3
read_index_list (Concrete (named.Module i)) = 4
read_index_list (Concrete (named.Id id)) = 5

abbrev pub read_index_number : HeapType → ℕ
read_index_number (Abstract h) = 0
read_index_number (Concrete (named.RecGroup i)) = i
read_index_number (Concrete (named.Module i)) = i
read_index_number (Concrete (named.Id id)) = id.0

abbrev pub read_ref_row : RefType → ValueRow
read_ref_row r = record {
  kind = 5;
  nullable = bit r.nullable;
  heap = read_heap_number r.heap;
  list = read_index_list r.heap;
  index = read_index_number r.heap;
}

abbrev pub read_row : ValType → ValueRow
read_row val.I32 = plain_row 0
read_row val.I64 = plain_row 1
read_row val.F32 = plain_row 2
read_row val.F64 = plain_row 3
read_row val.V128 = plain_row 4
read_row (val.Ref r) = read_ref_row r

-- how many locals of a type
abbrev pub locals_row : ℕ × ValType → LocalsRow
locals_row run = record { count = run.0; value = read_row run.1 }

-- what follows a number; nothing where there is none
abbrev pub behind_number : Result (ℕ × List ℕ) Fault → List ℕ
behind_number (Ok x) = x.1
behind_number (Err fault) = []

-- the bodies of a module, each behind its size, where the contents of the code section begin with
-- their number
abbrev pub sized_bodies : List ℕ → ℕ → List ℕ
sized_bodies bytes place = behind_number (unsigned_at 32 (drop place bytes))

-- bytes behind their number, and what follows them; nothing where there are none
abbrev pub counted_or_none : Result (List ℕ × List ℕ) Fault → List ℕ × List ℕ
counted_or_none (Ok x) = x
counted_or_none (Err fault) = ([], [])

-- the bytes of a body, its code, and which of the locals are its own
abbrev pub body_told : BodyRow → List ℕ × List ℕ × Span
body_told row = (row.bytes.now, row.code.now, row.locals)

-- bodies whose locals are behind n others; each is spelled behind its size
abbrev pub body_rows : List ℕ → ℕ → List FunctionBodyData → List (List ℕ × List ℕ × Span)
body_rows sized n [] = []
body_rows sized n (b ∷ bs) =
    ((counted_or_none (counted_bytes_at sized)).0, b.body.rest.now, record { begin = n; len = length b.body.locals.items })
    ∷ body_rows (counted_or_none (counted_bytes_at sized)).1 (n + length b.body.locals.items) bs

pub record TellsBodies (t : ModuleTranslation) (r : BodiesRecord) : Type 0 where
  -- the bytes of each body, which follow its size, and its code, up to its end
  pub rows : map body_told r.rows.now ≡ body_rows (sized_bodies t.wasm.now t.debuginfo.wasm_file.code_section_offset) 0 t.function_body_inputs
  pub locals : r.locals.now ≡ flat_map (λ b. map locals_row b.body.locals.items) t.function_body_inputs
