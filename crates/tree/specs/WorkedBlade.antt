-- Document 02, No. 4, on the sheet of the worked cases, with a blade of width 3: what the definitions give, and what is worked out by hand, as one
-- table.
use Rattle.std.specs.Prelude.{List, [], ◌∷◌, ℕ}
use Rattle.piece.specs.declared.orientation.Orientation.TheVariants.{Horizontal, Vertical}
use Rattle.piece.specs.declared.node.Kind.TheVariants.{Free, Part, Structure}
use Rattle.piece.specs.declared.insertion_blueprint.InsertionShape.{InsertionShape}
use Rattle.piece.specs.declared.insertion_blueprint.InsertionShape.TheVariants.{AlongCurrentCut, AlongThenAcross}
use Rattle.piece.specs.Row.{nil}
use Rattle.tree.specs.Tree.{Tree}
use Rattle.tree.specs.Snapshot.{shape}
use Rattle.tree.specs.Removal.{remove}
use Rattle.tree.specs.Figures.{sheet_usage, one}
use Rattle.tree.specs.Worked.{CaseAnswer, stands, used, opening_tree, booked_by, usage, cut_bit, bit, top_over}

-- the part booked in the opening's free piece
abbrev pub sawn : InsertionShape → ℕ → ℕ → Tree
sawn s w h = booked_by 3 1 3 opening_tree s w h

-- 48 x 60, at place 1, and then 49 x 60 in the free piece beside it, at place 2
abbrev pub sawn_twice : Tree
sawn_twice = booked_by 3 2 5 (sawn AlongCurrentCut 48 60) AlongCurrentCut 49 60

unfoldable pub computed : List CaseAnswer
computed =
    stands (shape (sawn AlongCurrentCut 40 60))
    ∷ stands (shape (sawn AlongThenAcross 40 30))
    ∷ stands (shape (sawn AlongCurrentCut 99 60))
    ∷ usage (sawn AlongCurrentCut 99 60)
    ∷ stands (shape (sawn AlongCurrentCut 100 60))
    ∷ usage (sawn AlongCurrentCut 100 60)
    ∷ stands (shape sawn_twice)
    ∷ stands (shape (remove 1 1 7 sawn_twice))
    ∷ stands (shape (remove 1 1 5 (sawn AlongCurrentCut 49 60)))
    ∷ []

unfoldable pub expected : List CaseAnswer
expected =
    -- 1. 40 x 60: 3 are eaten behind the part, and 57 are left
    top_over (cut_bit Part 1 Horizontal 40 60 3 nil (bit Free 1 Horizontal 57 60 nil nil))
    -- 2. 40 x 30 by AlongThenAcross: 3 are eaten behind the strip, and 3 behind the part in it
    ∷ top_over
    (cut_bit Structure 1 Horizontal 40 60 3 (cut_bit Part 2 Vertical 40 30 3 nil (bit Free 2 Vertical 40 27 nil nil))
    (bit Free 1 Horizontal 57 60 nil nil))
    -- 3. 99 x 60: the blade takes all that is left, 1; the usage is 5,940 / 6,000
    ∷ top_over (cut_bit Part 1 Horizontal 99 60 1 nil (bit Free 1 Horizontal 0 60 nil nil))
    ∷ used (sheet_usage 5940 6000)
    -- 4. 100 x 60: nothing is left, and nothing is eaten; usage 1
    ∷ top_over (bit Part 1 Horizontal 100 60 nil (bit Free 1 Horizontal 0 60 nil nil))
    ∷ used one
    -- 5. 48 x 60, and 49 x 60 in the 49 that are left: it fits exactly; then the first removed, which gives its 48 and the 3 back
    ∷ top_over
    (cut_bit Part 1 Horizontal 48 60 3 nil (bit Part 1 Horizontal 49 60 nil (bit Free 1 Horizontal 0 60 nil nil)))
    ∷ top_over (bit Part 1 Horizontal 49 60 nil (bit Free 1 Horizontal 51 60 nil nil))
    -- 6. 49 x 60, then the part removed: the opening tree
    ∷ stands (shape opening_tree)
    ∷ []
