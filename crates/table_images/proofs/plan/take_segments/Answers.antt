use Rattle.std.proofs.Common.{arith}
use Rattle.std.proofs.lemmas.List.{length-map}
use Rattle.std.proofs.lemmas.Option.{slice_get_within}
use Rattle.table_images.proofs.CellsStand.{holds-segment}
use Rattle.table_images.proofs.Steps.{advance, stopped, ended}
use Rattle.table_images.proofs.plan.take_segments.Goals as goal

pub returns-in-None-clause-stops : goal.returns-in-None-clause-stops
returns-in-None-clause-stops c = λ s rest begins may.
    stopped c.args.imported c.args.tables.now c.args.values.now c.args.segments.now c.segments.i c.index-segments-i.result c.index-segments-i.is c.segments-test.true c.in-None.ensures.none s rest begins may

pub lay_at-requires-clause-table : goal.lay_at-requires-clause-table
lay_at-requires-clause-table c = grind (arith, slice_get_within)

pub lay_at-requires-clause-functions : goal.lay_at-requires-clause-functions
lay_at-requires-clause-functions c = holds-segment c.args.segments.now c.segments.i c.index-segments-i.result c.index-segments-i.is c.segments-test.true c.requires.functions

pub segments-preserved : goal.segments-preserved
segments-preserved c = grind (arith, length-map, advance)

pub returns-clause-stops : goal.returns-clause-stops
returns-clause-stops c = λ s rest begins may. ended c.args.segments.now s rest begins
