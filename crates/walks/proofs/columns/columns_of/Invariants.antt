-- `columns::columns_of` meets its contract: each column is filled as far as the loop has come. Assumes nothing.
use mathlib.Core.Path.{◌≡◌}
use mathlib.Core.List.{map}
use Rattle.lists.specs.Lists.{limit, zeros}
use Rattle.lists.proofs.Fill.{filled}
use Rattle.table.specs.Columns.{area_of, first_of, next_of, kind_no_of}
use Rattle.walks.specs.Columns.{level_of, cut_no_of, number_of, width_of, height_of, eaten_of}
use Rattle.walks.proofs.columns.columns_of.Given as goal

abbrev pub invariant-loop-i : goal.invariant-loop-i
invariant-loop-i l =
    (l.first ≡ filled (zeros limit) (map first_of l.nodes) l.i)
    × (l.next ≡ filled (zeros limit) (map next_of l.nodes) l.i)
    × (l.level ≡ filled (zeros limit) (map level_of l.nodes) l.i)
    × (l.kind ≡ filled (zeros limit) (map kind_no_of l.nodes) l.i)
    × (l.cut ≡ filled (zeros limit) (map cut_no_of l.nodes) l.i)
    × (l.number ≡ filled (zeros limit) (map number_of l.nodes) l.i)
    × (l.width ≡ filled (zeros limit) (map width_of l.nodes) l.i)
    × (l.height ≡ filled (zeros limit) (map height_of l.nodes) l.i)
    × (l.area ≡ filled (zeros limit) (map area_of l.nodes) l.i)
    × (l.eaten ≡ filled (zeros limit) (map eaten_of l.nodes) l.i)
