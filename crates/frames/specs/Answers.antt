-- Document 01, "Counter frames": the bytes of each answer, "success, after op and 00" and "A refusal is op, number, check".
-- Rests on Bytes and Fields.
use Rattle.std.specs.Prelude.{ℕ, ◌%◌, List, [], ◌∷◌, ◌++◌, length}
use Rattle.piece.specs.declared.insertion_option.Offer.{Offer}
use Rattle.piece.specs.Numbers.{rotation_no, shape_no}
use Rattle.marks.specs.declared.Mark.{Mark}
use Rattle.marks.specs.declared.Refusal.{Refusal}
use Rattle.marks.specs.Refusals.{refusal_no}
use Rattle.frames.specs.Bytes.{framed, line_of_bytes, two, eight}
use Rattle.frames.specs.Fields.{mark_bytes}

pub data Answer : Type 0 where
  -- the op, and what it is refused with
  refused : ℕ → Refusal → Answer
  -- the mark of the free piece
  opened : Mark → Answer
  offered : List Offer → Answer
  -- first node, part, and the free pieces in creation order
  inserted : Mark → Mark → List Mark → Answer
  -- new free piece, part numbers
  removed : Mark → List ℕ → Answer
  -- keep and restore, by their op
  done : ℕ → Answer
  -- used area, nodes, the bits of the sheet's usage
  reported : ℕ → ℕ → ℕ → Answer
  malformed : Answer

abbrev pub offer_bytes : Offer → List ℕ
offer_bytes o = rotation_no o.rotation ∷ shape_no o.shape ∷ []

-- "count; rotation and shape each"; "count; free marks"; "count; part numbers"
module _ {A : Type 0} where
  unfoldable pub each : (A → List ℕ) → List A → List ℕ
  each bytes [] = []
  each bytes (x ∷ xs) = bytes x ++ each bytes xs

unfoldable pub content_of : Answer → List ℕ
content_of (refused op r) = op ∷ refusal_no r ∷ []
content_of (opened m) = 1 ∷ 0 ∷ mark_bytes m
content_of (offered os) = 2 ∷ 0 ∷ length os ∷ each offer_bytes os
content_of (inserted f p ms) = 3 ∷ 0 ∷ (mark_bytes f ++ (mark_bytes p ++ (length ms ∷ each mark_bytes ms)))
content_of (removed m ns) = 4 ∷ 0 ∷ (mark_bytes m ++ (length ns ∷ each two ns))
content_of (done op) = op ∷ 0 ∷ []
content_of (reported used nodes bits) = 7 ∷ 0 ∷ (eight used ++ ((nodes % 256) ∷ eight bits))
content_of malformed = 255 ∷ 14 ∷ []

abbrev pub answer_bytes : Answer → List ℕ
answer_bytes a = framed (content_of a)

abbrev pub answer_line : Answer → List ℕ
answer_line a = line_of_bytes (answer_bytes a)
