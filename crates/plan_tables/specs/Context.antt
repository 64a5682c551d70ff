-- What the tables say of the layout of a context.
use Rattle.std.specs.Prelude.{◌≡◌, ℕ, ◌^◌, ◌-◌, List, [], ◌∷◌, Some, IsTrue, IsFalse, codes}
use Rattle.std.specs.Option.{option_map}
use Rattle.vm_structs.specs.declared.pointer.PtrSize.{Ghosts}
use Rattle.vm_offsets.specs.declared.offsets.VMOffsets.{VMOffsets}
use Rattle.vm_offsets.specs.Context.{entry_named}
use Rattle.vm_offsets.specs.Layouts.{fields_of, entries_of, size_of_context}
use Rattle.plan_tables.specs.declared.record.RegionRow.{RegionRow}
use Rattle.plan_tables.specs.declared.rows.Context.{Context}

-- the name, the begin and the size of a region
abbrev pub region_told : RegionRow → List ℕ × ℕ × ℕ
region_told region = (region.name.now, region.begin, region.size)

-- regions by their names and sizes, from the end back: each ends where the one before it begins
abbrev pub placed_back : ℕ → List (List ℕ × ℕ) → List (List ℕ × ℕ × ℕ)
placed_back end [] = []
placed_back end (region ∷ before) = (region.0, end - region.1, region.1) ∷ placed_back (end - region.1) before

module _ {P : Type 0} {bound : Ghosts P} (offsets : VMOffsets P bound) where
  -- the part of that name begins at a byte
  abbrev pub BeginsAt : List ℕ → ℕ → Type 0
  BeginsAt name begin = option_map (λ placed. placed.begin) (entry_named name (entries_of offsets)) ≡ Some begin

  pub record TellsContext (r : Context) : Type 0 where
    pub size : r.size ≡ size_of_context offsets
    pub imported_memories : BeginsAt (codes "imported memories") r.imported_memories
    pub memories : BeginsAt (codes "defined memories") r.memories
    pub owned_memories : BeginsAt (codes "owned memories") r.owned_memories
    pub imported_functions : BeginsAt (codes "imported functions") r.imported_functions
    pub imported_tables : BeginsAt (codes "imported tables") r.imported_tables
    pub imported_globals : BeginsAt (codes "imported globals") r.imported_globals
    pub imported_tags : BeginsAt (codes "imported tags") r.imported_tags
    pub tables : BeginsAt (codes "defined tables") r.tables
    pub globals : BeginsAt (codes "defined globals") r.globals
    pub tags : BeginsAt (codes "defined tags") r.tags
    pub func_refs : BeginsAt (codes "module functions") r.func_refs
    pub runtime_data_bases : BeginsAt (codes "runtime data base pointers") r.runtime_data_bases
    pub runtime_data_lengths : BeginsAt (codes "runtime data lengths") r.runtime_data_lengths
    -- the reference to the startup function, where there is one; else the greatest number of 32
    -- bits
    pub startup_func_ref : IsTrue (fields_of offsets).has_startup_func → BeginsAt (codes "startup funcref") r.startup_func_ref
    pub no_startup : IsFalse (fields_of offsets).has_startup_func → r.startup_func_ref ≡ 2 ^ 32 - 1
