-- The entries of name maps.
use Rattle.std.specs.Prelude.{ℕ, List, map, Option, Some, None}
use Rattle.std.specs.List.{flat_map}
use Rattle.name_maps.specs.declared.entry.NameEntry.{NameEntry}

-- a name, and what it names
pub record NameMapEntry : Type 0 where
  -- the id of the subsection
  pub subsection : ℕ
  -- the named index; in an indirect name map the index with whose map the name stands
  pub index : ℕ
  -- the named index of an indirect name map
  pub inner : Option ℕ
  pub name : List ℕ

abbrev pub entry_of : NameEntry → NameMapEntry
entry_of e = record { subsection = e.subsection; index = e.index; inner = e.inner; name = e.name.now }

-- an index and its name, in the name map of a subsection, or in that of an outer index
abbrev pub entry_in : ℕ → Option ℕ → ℕ × List ℕ → NameMapEntry
entry_in id None naming = record { subsection = id; index = naming.0; inner = None; name = naming.1 }
entry_in id (Some outer) naming = record { subsection = id; index = outer; inner = Some naming.0; name = naming.1 }

-- the entries of a name map
abbrev pub map_entries : ℕ → List (ℕ × List ℕ) → List NameMapEntry
map_entries id names = map (entry_in id None) names

-- the entries of an indirect name map, in which each outer index has a name map
abbrev pub indirect_entries : ℕ → List (ℕ × List (ℕ × List ℕ)) → List NameMapEntry
indirect_entries id maps = flat_map (λ m. map (entry_in id (Some m.0)) m.1) maps

-- the name of the module
abbrev pub module_entry : ℕ → List ℕ → NameMapEntry
module_entry id text = entry_in id None (0, text)

-- the entries of many parts, one after another
abbrev pub all_entries : List (List NameMapEntry) → List NameMapEntry
all_entries parts = flat_map (λ entries. entries) parts
