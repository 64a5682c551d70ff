-- The text of each rule of matching.
use Rattle.std.specs.Prelude.{ℕ, List, codes}
use Rattle.import_match.specs.declared.error.Mismatch.{Mismatch}
use Rattle.import_match.specs.declared.error.Mismatch.TheVariants as rule

abbrev pub text_of_mismatch : Mismatch → List ℕ
text_of_mismatch rule.Kind = codes "the kinds differ"
text_of_mismatch rule.FuncType = codes "the function types differ"
text_of_mismatch rule.TableElement = codes "the element types of the tables differ"
text_of_mismatch rule.TableIndexType = codes "the index types of the tables differ"
text_of_mismatch rule.TableMin = codes "the table is too small"
text_of_mismatch rule.TableMax = codes "the table may grow too large"
text_of_mismatch rule.MemoryIndexType = codes "the index types of the memories differ"
text_of_mismatch rule.MemoryShared = codes "one memory is shared, the other is not"
text_of_mismatch rule.MemoryPage = codes "the page sizes differ"
text_of_mismatch rule.MemoryMin = codes "the memory is too small"
text_of_mismatch rule.MemoryMax = codes "the memory may grow too large"
text_of_mismatch rule.GlobalMutability = codes "one global can be written, the other cannot"
text_of_mismatch rule.GlobalType = codes "the value types of the globals differ"
text_of_mismatch rule.TagType = codes "the types of the tags differ"
