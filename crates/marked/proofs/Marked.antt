-- THE MARKED SHEETS: each row of the table says what is so, by the definitions of counts, loops, codes, totals, tiles and joining.
-- Assumes nothing.
use mathlib.Core.Path.{refl}
use Rattle.flow.specs.Net.{sum, steps, given, down_in, downb, loop_length}
use Rattle.flow.specs.Path.{last, last_in}
use Rattle.flow.proofs.Test.{allb, countsb, no_loopb, on_loopb}
use Rattle.flow.proofs.Through.{level, through}
use Rattle.sheet.specs.Compass.{line_of, is_arrow, is_absent, is_code, step_of}
use Rattle.sheet.specs.Sheet.{land_at, step_from, dest_of, outlet_at}
use Rattle.sheet.specs.Totals.{greatest_below}
use Rattle.tile.specs.Border.{edge_at, on_border, border_cells, border_number, nth, border_place}
use Rattle.tile.specs.Way.{crosses, last_cell, way_at}
use Rattle.mosaic.specs.Layout.{sheet_place, piece, borders_in, border_tile, number_in_tile}
use Rattle.mosaic.specs.Join.{first_below, is_land, exit_at, onto, leads_to, feeds, own, comes_in}
use Rattle.marked.specs.Cut.{listed, tile_codes, tile_count, count_of, way_of, code_of}
use Rattle.marked.specs.Table.{table, All}
use Rattle.marked.proofs.NetTest.{firstb}
use Rattle.marked.proofs.CutTest.{sidesb, fitsb, tiledb, finishedb, joinedb, join_loopb}
use Rattle.marked.proofs.Test.{codesb, shapeb, loopb, badb, cutb, answerb, saysb, all_sayb, all_say}

pub marked : All table
unfolding sum steps given down_in downb loop_length last last_in allb countsb no_loopb on_loopb level through line_of is_arrow is_absent is_code step_of land_at step_from dest_of outlet_at greatest_below edge_at on_border border_cells border_number nth border_place crosses last_cell way_at sheet_place piece borders_in border_tile number_in_tile first_below is_land exit_at onto leads_to feeds own comes_in listed tile_codes tile_count count_of way_of code_of firstb sidesb fitsb tiledb finishedb joinedb join_loopb codesb shapeb loopb badb cutb answerb saysb all_sayb
marked = all_say table refl
