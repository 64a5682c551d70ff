-- The plan that the code makes is the plan of the definitions.
use Rattle.std.proofs.Common.{◌≡◌, ℕ, Bool, true, false, List, [], ◌∷◌, length, map, take, drop, Option, refl, ◌∙◌, arith}
use Rattle.wasm_types.specs.declared.table.Table.{Table}
use Rattle.wasm_module.specs.declared.table_initialization.TableInitialValue.{TableInitialValue}
use Rattle.wasm_module.specs.declared.table_initialization.TableSegment.{TableSegment}
use Rattle.replay_spec.specs.Elements.{ActiveElements}
use Rattle.replay_spec.specs.Tables.{kept_initial, MayBeTaken, TakesPrefix, IsTablePlan}
use Rattle.table_images.specs.Steps.{AreTableImages, first_image}
use Rattle.table_images.specs.Views.{active_elements_of, initial_of, defined_tables_of, table_plan_of}
use Rattle.table_images.proofs.Tables.{length-defined, planned-minimums, planned-initials, planned-image, kept-unwanted}
use Rattle.table_images.proofs.Steps.{first-images, takes-prefix, takes-none}

pub table-plan : (lazy : Bool) (imported : ℕ) (ts : List Table) (vs ws : List TableInitialValue) (active taken : List ActiveElements) (kept : List TableSegment) (images : List (List (Option ℕ)))
    → length ts ≡ length vs → length ws ≡ length vs → length images ≡ length vs → map initial_of ws ≡ map (kept_initial lazy) (defined_tables_of ts vs)
    → TakesPrefix lazy imported (defined_tables_of ts vs) active taken (map active_elements_of kept) → AreTableImages lazy imported (defined_tables_of ts vs) taken images
    → IsTablePlan lazy imported (defined_tables_of ts vs) active (table_plan_of ts ws kept images)
table-plan lazy imported ts vs ws active taken kept images a b c initials prefix are = record {
  taken = taken;
  prefix = prefix;
  minimums = planned-minimums ts vs ws images a b c;
  initials = planned-initials ts ws images (omega arith) (omega arith) ∙ initials;
  images = λ i d p at made. are.each i d p.image at (planned-image ts ws images i p made);
}

-- where images are wanted: those of the segments that are moved into images
pub planned-images : (imported : ℕ) (ts : List Table) (vs ws : List TableInitialValue) (segments kept : List TableSegment) (n : ℕ) (first images : List (List (Option ℕ)))
    → length ts ≡ length vs → length ws ≡ length vs → map initial_of ws ≡ map (kept_initial true) (defined_tables_of ts vs) → kept ≡ drop n segments
    → first ≡ map (first_image true) (defined_tables_of ts vs)
    → (AreTableImages true imported (defined_tables_of ts vs) [] first → AreTableImages true imported (defined_tables_of ts vs) (map active_elements_of (take n segments)) images)
    → ((a : ActiveElements) (rest : List ActiveElements) → map active_elements_of (drop n segments) ≡ a ∷ rest → MayBeTaken true imported (defined_tables_of ts vs) a → ⊥)
    → IsTablePlan true imported (defined_tables_of ts vs) (map active_elements_of segments) (table_plan_of ts ws kept images)
planned-images imported ts vs ws segments kept n first images a b initials is begin taken stops =
    grind (arith, first-images true imported (defined_tables_of ts vs) first begin, length-defined ts vs a, takes-prefix imported (defined_tables_of ts vs) segments n images, table-plan true imported ts vs ws)

-- where none is wanted: empty images
pub planned-none : (lazy : Bool) (imported : ℕ) (ts : List Table) (vs : List TableInitialValue) (segments : List TableSegment) (images : List (List (Option ℕ))) → lazy ≡ false
    → length ts ≡ length vs → images ≡ map (first_image lazy) (defined_tables_of ts vs)
    → IsTablePlan lazy imported (defined_tables_of ts vs) (map active_elements_of segments) (table_plan_of ts vs segments images)
planned-none lazy imported ts vs segments images off a begin =
    let are = first-images lazy imported (defined_tables_of ts vs) images begin in
    table-plan lazy imported ts vs vs (map active_elements_of segments) [] segments images a refl (omega (arith, are.count, length-defined ts vs a)) (rw off (kept-unwanted ts vs a))
    (rw off (takes-none imported (defined_tables_of ts vs) (map active_elements_of segments))) are
