-- `nodes` meets its contract: each shape's nodes are its row of the table, whichever the cut. What is in the strip of the last shape is cut as the piece.
use Rattle.piece.specs.Insertion.{blueprint_of, block_of, as_blueprint, table}
use Rattle.piece.proofs.Sizes.{other-twice}
use Rattle.piece.proofs.insertion_blueprint.nodes.Goals as goal

pub returns-in-AlongCurrentCut : goal.returns-in-AlongCurrentCut
unfolding blueprint_of block_of as_blueprint table
returns-in-AlongCurrentCut c =
    simp (
      c.in-AlongCurrentCut.is,
      c.node.ensures,
      c.node-in-AlongCurrentCut.ensures,
      c.sized-along.ensures,
      c.sized-beside.ensures,
      c.rest-left_beside.ensures,
      c.eaten_behind-eaten_beside.ensures,
      c.rest-wide.ensures,
      c.no_node-z.ensures,
      c.laid-whole.ensures,
      c.laid-wanted.ensures,
    )

pub returns-in-AcrossCurrentCut : goal.returns-in-AcrossCurrentCut
unfolding blueprint_of block_of as_blueprint table
returns-in-AcrossCurrentCut c =
    simp (
      c.in-AcrossCurrentCut.is,
      c.node-in-AcrossCurrentCut.ensures,
      c.node-in-AcrossCurrentCut-2.ensures,
      c.node-in-AcrossCurrentCut-3.ensures,
      c.sized-across.ensures,
      c.sized-below.ensures,
      c.rest-left_below.ensures,
      c.eaten_behind-eaten_below.ensures,
      c.rest-tall.ensures,
      c.rotate-inner.ensures,
      c.no_node-z.ensures,
      c.laid-whole.ensures,
      c.laid-wanted.ensures,
    )

pub returns-in-AlongThenAcross : goal.returns-in-AlongThenAcross
unfolding blueprint_of block_of as_blueprint table
returns-in-AlongThenAcross c =
    simp (
      c.in-AlongThenAcross.is,
      c.node-in-AlongThenAcross.ensures,
      c.node-in-AlongThenAcross-2.ensures,
      c.node-in-AlongThenAcross-3.ensures,
      c.node-in-AlongThenAcross-4.ensures,
      c.sized-along.ensures,
      c.sized-below_in_strip.ensures,
      c.sized-beside.ensures,
      c.rest-left_beside.ensures,
      c.eaten_behind-eaten_beside.ensures,
      c.rest-wide.ensures,
      c.rest-left_below.ensures,
      c.eaten_behind-eaten_below.ensures,
      c.rest-tall.ensures,
      c.rotate-inner.ensures,
      c.no_node-z.ensures,
      c.laid-whole.ensures,
      c.laid-wanted.ensures,
    )

pub returns-in-AcrossThenAlong : goal.returns-in-AcrossThenAlong
unfolding blueprint_of block_of as_blueprint table
returns-in-AcrossThenAlong c =
    simp (
      c.in-AcrossThenAlong.is,
      c.node-in-AcrossThenAlong.ensures,
      c.node-in-AcrossThenAlong-2.ensures,
      c.node-in-AcrossThenAlong-3.ensures,
      c.node-in-AcrossThenAlong-4.ensures,
      c.node-in-AcrossThenAlong-5.ensures,
      c.sized-across.ensures,
      c.sized-beside_in_strip.ensures,
      c.sized-below.ensures,
      c.rest-left_beside.ensures,
      c.eaten_behind-eaten_beside.ensures,
      c.rest-wide.ensures,
      c.rest-left_below.ensures,
      c.eaten_behind-eaten_below.ensures,
      c.rest-tall.ensures,
      c.rotate-inner.ensures,
      c.laid-whole.ensures,
      c.laid-wanted.ensures,
      other-twice,
    )
