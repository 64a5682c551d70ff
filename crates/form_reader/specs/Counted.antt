-- How many entries the index spaces of a module have.
use Rattle.std.specs.Prelude.{◌≡◌, ◌+◌, ◌^◌, ◌<◌, length}
use Rattle.wasm_spec.specs.Module.{Module, types, functions, tables, memories, globals, tags}
use Rattle.form_reader.specs.declared.form.Counts.{Counts}

-- the sizes of the index spaces of a module
abbrev pub counts_of : Module → Counts
counts_of m = record {
  types = length (types m);
  functions = length (functions m);
  tables = length (tables m);
  memories = length (memories m);
  globals = length (globals m);
  tags = length (tags m);
}

-- ---- while they are counted

-- the sizes fit in 32 bits with the entries of these sections too
pub record SizesFit (old : Counts) (m : Module) : Type 0 where
  pub types : old.types + length (types m) < 2 ^ 32
  pub functions : old.functions + length (functions m) < 2 ^ 32
  pub tables : old.tables + length (tables m) < 2 ^ 32
  pub memories : old.memories + length (memories m) < 2 ^ 32
  pub globals : old.globals + length (globals m) < 2 ^ 32
  pub tags : old.tags + length (tags m) < 2 ^ 32

-- the entries of these sections are counted too
pub record CountsMore (old new : Counts) (m : Module) : Type 0 where
  pub types : new.types ≡ old.types + length (types m)
  pub functions : new.functions ≡ old.functions + length (functions m)
  pub tables : new.tables ≡ old.tables + length (tables m)
  pub memories : new.memories ≡ old.memories + length (memories m)
  pub globals : new.globals ≡ old.globals + length (globals m)
  pub tags : new.tags ≡ old.tags + length (tags m)
