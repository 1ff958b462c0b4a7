-- The marks of the new nodes, as a booking's answer names them: the first node's, the part's, and those of the free pieces in the order of creation.
use Rattle.std.specs.Prelude.{Bool, true, cond, List, [], ◌∷◌, ◌++◌, ℕ, length, take, replicate}
use Rattle.piece.specs.declared.node.Kind.{Kind}
use Rattle.piece.specs.Row.{nil, grow}
use Rattle.piece.specs.Kinds.{is_free, is_part}
use Rattle.tree.specs.Tree.{Tree}
use Rattle.marks.specs.declared.Mark.{Mark}
use Rattle.marks.specs.Marks.{zero_mark}
use Rattle.booking.specs.declared.new_nodes.NewNode.{NewNode}
use Rattle.booking.specs.declared.new_marks.NewMarks.{NewMarks}

-- the mark of a node in the layout of this number
abbrev pub new_mark : ℕ → NewNode → Mark
new_mark number n = record { layout = number; place = n.place; serial = n.datum.serial }

-- the marks of the nodes of one kind, in order
abbrev pub marks_of : ℕ → (Kind → Bool) → List NewNode → List Mark
marks_of number test [] = []
marks_of number test (n ∷ ns) = cond (test n.datum.kind) (new_mark number n ∷ marks_of number test ns) (marks_of number test ns)

-- the first of them, and zero where there is none
abbrev pub head_mark : List Mark → Mark
head_mark [] = zero_mark
head_mark (m ∷ ms) = m

abbrev pub first_mark : ℕ → List NewNode → Mark
first_mark number [] = zero_mark
first_mark number (n ∷ ns) = new_mark number n

unfoldable pub new_marks : ℕ → List NewNode → NewMarks
new_marks number ns =
    record {
      first = first_mark number ns;
      part = head_mark (marks_of number is_part ns);
      frees = take 2 (marks_of number is_free ns ++ replicate 2 zero_mark);
      count = length (marks_of number is_free ns);
    }

abbrev pub zero_marks : NewMarks
zero_marks = record { first = zero_mark; part = zero_mark; frees = replicate 2 zero_mark; count = 0 }

-- the marks of the pieces of a row of one kind, in tree order, which is the order of creation
abbrev pub marks_in : ℕ → (Kind → Bool) → Tree → List Mark
marks_in number test nil = []
marks_in number test (grow p d k r) =
    cond (test d.kind) (record { layout = number; place = p; serial = d.serial } ∷ (marks_in number test k ++ marks_in number test r))
    (marks_in number test k ++ marks_in number test r)

-- "marks of first node and part; count; free marks in creation order", of the block that was booked
unfoldable pub block_marks : ℕ → Tree → NewMarks
block_marks number w =
    record {
      first = head_mark (marks_in number (λ (k : Kind). true) w);
      part = head_mark (marks_in number is_part w);
      frees = take 2 (marks_in number is_free w ++ replicate 2 zero_mark);
      count = length (marks_in number is_free w);
    }
