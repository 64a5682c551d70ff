-- What a trampoline passes for value types, as codes, and what is fed to a hasher.
use Rattle.std.specs.Prelude.{ℕ, ◌+◌, ◌*◌, ◌^◌, nat_lt, List, [], ◌∷◌, map, if◌then◌else◌}
use Rattle.std.specs.List.{fold, flat_map}
use Rattle.std.specs.Hash as fed
use Rattle.std.specs.Hash.{HashWrites}
use Rattle.std.specs.Hash.FoldHasher as folding
use Rattle.std.specs.declared.hash.FoldHasher.{FoldHasher}
use Rattle.wasm_types.specs.declared.heap.WasmHeapTopType.{WasmHeapTopType}
use Rattle.wasm_types.specs.declared.heap.WasmHeapTopType.TheVariants as top
use Rattle.wasm_types.specs.declared.value.WasmValType.{WasmValType}
use Rattle.wasm_types.specs.declared.value.WasmValType.TheVariants as val
use Rattle.wasm_types.specs.Tops.{top_of}

abbrev pub code_of_top : WasmHeapTopType → ℕ
code_of_top top.Extern = 5
code_of_top top.Any = 6
code_of_top top.Func = 7
code_of_top top.Exn = 8
code_of_top top.Cont = 9

-- a code for what a trampoline passes: a reference is nullable with its top
abbrev pub code_of : WasmValType → ℕ
code_of val.I32 = 0
code_of val.I64 = 1
code_of val.F32 = 2
code_of val.F64 = 3
code_of val.V128 = 4
code_of (val.Ref r) = code_of_top (top_of r.heap_type)

-- a word with the codes so far, and more codes: each full word is fed alone, and the last one has
-- the remaining codes
abbrev pub packed : ℕ → List ℕ → List ℕ
packed word [] = word ∷ []
packed word (c ∷ cs) = if nat_lt (word * 16 + c) (2 ^ 60) then packed (word * 16 + c) cs else ((word * 16 + c) ∷ packed 1 cs)

abbrev pub words_of : ℕ → List ℕ → HashWrites
words_of word cs = flat_map fed.u64 (packed word cs)

-- a hasher that was fed what a trampoline passes for each of the types
abbrev pub fed_with : FoldHasher → List WasmValType → FoldHasher
fed_with hasher ts = fold folding.write hasher (words_of 1 (map code_of ts))
