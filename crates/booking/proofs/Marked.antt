-- What the code notes of the free pieces' marks while it goes along the new nodes: the marks so far, with those still to come, are all.
-- Assumes nothing.
use mathlib.Core.Path.{◌≡◌, refl, ap, ◌∙◌}
use mathlib.Core.Bool.{Bool, true, false, cond}
use mathlib.Core.List.{List, [], ◌∷◌, ◌++◌}
use Prim.Native.Nat.{ℕ, suc, ◌+◌, ◌≤◌, ◌<◌}
use native.Mathlib.Numerals.{add-one}
use native.Mathlib.Omega.{arith}
use lib.ListN.{length, set, take, drop, get_or, replicate}
use lib.Seq.{sets}
use Rattle.piece.specs.Kinds.{is_free, is_part}
use Rattle.tree.specs.Enrolment.{when}
use Rattle.marks.specs.declared.Mark.{Mark}
use Rattle.booking.specs.declared.new_nodes.NewNode.{NewNode}
use Rattle.booking.specs.NewNodes.{frees_of, no_new}
use Rattle.marks.specs.Marks.{zero_mark}
use Rattle.booking.specs.Marks.{first_mark, head_mark, marks_of, new_mark, new_marks}
use Rattle.booking.proofs.Runs.{next-entry}

abbrev free_marks : ℕ → List NewNode → List Mark
free_marks number ns = marks_of number is_free ns

-- found marks stand in frees, those of rest are still to come, and all are those of ns
pub record Noted (number : ℕ) (ns rest : List NewNode) (frees : List Mark) (found : ℕ) : Type 0 where
  pub counts : found + length (free_marks number rest) ≡ length (free_marks number ns)
  pub written : sets frees found (free_marks number rest) ≡ sets (replicate 2 zero_mark) 0 (free_marks number ns)

one_more : (b : Bool) (m : Mark) (ms : List Mark) (p : ℕ) (ps : List ℕ) → length ms ≡ length ps →
    length (cond b (m ∷ ms) ms) ≡ length (when b p ++ ps)
one_more true m ms p ps e = ap suc e
one_more false m ms p ps e = e

-- there are as many marks as places of free pieces
pub free-marks-count : (number : ℕ) (ns : List NewNode) → length (free_marks number ns) ≡ length (frees_of ns)
free-marks-count number [] = refl
free-marks-count number (n ∷ ns) =
    one_more (is_free n.datum.kind) (new_mark number n) (free_marks number ns) n.place (frees_of ns) (free-marks-count number ns)

module _ (number : ℕ) (ns : List NewNode) where
  pub noted-none : Noted number ns ns (replicate 2 zero_mark) 0
  noted-none = record { counts = omega arith; written = refl }

  -- the next node, where i are passed
  module _ (i : ℕ) (frees : List Mark) (found : ℕ) (h : Noted number ns (drop i ns) frees found) (b : i < length ns) where
    abbrev n : NewNode
    n = get_or ns i no_new

    abbrev rest : List NewNode
    rest = drop (i + 1) ns

    next : Noted number ns (n ∷ rest) frees found
    next = rw (next-entry ns i no_new b) at h

    pub noted-free : is_free n.datum.kind ≡ true → {m : Mark} {more : List Mark} {k : ℕ} → m ≡ new_mark number n →
        more ≡ set frees found m → k ≡ found + 1 → Noted number ns rest more k
    noted-free e {m} {more} {k} is put one =
        record {
          counts = let z = rw e at next.counts in omega arith;
          written = rw (put, is, one, add-one) (rw e at next.written);
        }

    -- where there are two free ones at most, it finds room
    pub noted-room : is_free n.datum.kind ≡ true → length (frees_of ns) ≤ 2 → found < 2
    noted-room e few = let z = rw e at next.counts in omega (arith, free-marks-count number ns)

    pub noted_other : is_free n.datum.kind ≡ false → {more : List Mark} {k : ℕ} → more ≡ frees → k ≡ found → Noted number ns rest more k
    noted_other e put none = rw (put, none) record { counts = rw e at next.counts; written = rw e at next.written }

-- two marks or fewer, written over two zeros
two-written : (ms : List Mark) → length ms ≤ 2 → sets (replicate 2 zero_mark) 0 ms ≡ take 2 (ms ++ replicate 2 zero_mark)
two-written [] h = refl
two-written (a ∷ []) h = refl
two-written (a ∷ b ∷ []) h = refl
two-written (a ∷ b ∷ d ∷ ms) h = absurd (omega arith)

-- at the end the four are the marks
module _ (number : ℕ) (ns : List NewNode) (first part : Mark) (frees : List Mark) (found : ℕ) where
  pub noted-all : Noted number ns [] frees found → length (frees_of ns) ≤ 2 →
      first ≡ first_mark number ns → part ≡ head_mark (marks_of number is_part ns) →
      record { first = first; part = part; frees = frees; count = found } ≡ new_marks number ns
  unfolding new_marks
  noted-all h few f p =
      let w : frees ≡ take 2 (free_marks number ns ++ replicate 2 zero_mark) =
      h.written ∙ two-written (free_marks number ns) (rw (free-marks-count number ns) few)
      in
      let k : found ≡ length (free_marks number ns) = omega (arith, h.counts) in
      rw (f, p, w, k) refl
