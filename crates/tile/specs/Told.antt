-- The way that the code holds, as a record holds it. Nothing here is cited by a public promise.
-- Assumes nothing.
use Rattle.tile.specs.Way.{Way, no_way, ends_inside}
use Rattle.tile.specs.declared.way.BorderWay.{BorderWay}
use Rattle.tile.specs.declared.way.BorderWay.TheVariants.{Absent, Inside, Over}

abbrev pub told : BorderWay → Way
told Absent = no_way
told Inside = ends_inside
told (Over number code) = record { number = number; code = code }
