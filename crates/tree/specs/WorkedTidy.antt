-- Document 02, No. 5, on the sheet of the worked cases: what the definitions give, and what is worked out by hand, as one table.
use Rattle.std.specs.Prelude.{List, [], ◌∷◌}
use Rattle.piece.specs.declared.orientation.Orientation.TheVariants.{Horizontal}
use Rattle.piece.specs.declared.node.Kind.TheVariants.{Free, Part}
use Rattle.piece.specs.declared.insertion_blueprint.InsertionShape.TheVariants.{AlongCurrentCut, AcrossCurrentCut, AlongThenAcross, AcrossThenAlong}
use Rattle.piece.specs.Row.{nil}
use Rattle.tree.specs.Tree.{Tree}
use Rattle.tree.specs.Snapshot.{shape}
use Rattle.tree.specs.Removal.{remove}
use Rattle.tree.specs.Tidy.{tidied}
use Rattle.tree.specs.Worked.{CaseAnswer, stands, opening_tree, booked_by, booked_tree, cut_bit, bit, top_over}
use Rattle.tree.specs.WorkedBlade.{sawn}

-- case k of document 01: the part went, and its structure holds one free piece
abbrev pub case_k : Tree
case_k = remove 2 2 6 (booked_tree AcrossCurrentCut 100 20)

-- the same with 40 x 30, cut in two steps: two structures, one in the other
abbrev pub two_deep : Tree
two_deep = remove 3 3 8 (booked_tree AcrossThenAlong 40 30)

-- by a blade of width 3: 40 x 30 in a strip of 40, 50 x 60 beside it, and the first part went. 3 were eaten behind the strip
abbrev pub strip : Tree
strip = remove 2 2 9 (booked_by 3 4 7 (sawn AlongThenAcross 40 30) AlongCurrentCut 50 60)

unfoldable pub computed : List CaseAnswer
computed =
    stands (shape (tidied case_k))
    ∷ stands (shape (remove 1 1 7 case_k))
    ∷ stands (shape (tidied two_deep))
    ∷ stands (shape (tidied strip))
    ∷ stands (shape (tidied opening_tree))
    ∷ []

unfoldable pub expected : List CaseAnswer
expected =
    -- 1. case k: the opening tree, and so it is when the structure at place 1 is taken out by the old removal
    stands (shape opening_tree)
    ∷ stands (shape opening_tree)
    -- 2. the opening tree again
    ∷ stands (shape opening_tree)
    -- 3. the strip goes, its 40 and the 3 behind it join the 4 that are left, and that piece is last
    ∷ top_over (cut_bit Part 1 Horizontal 50 60 3 nil (bit Free 1 Horizontal 47 60 nil nil))
    -- 4. the top stays, though its one child is free
    ∷ stands (shape opening_tree)
    ∷ []
