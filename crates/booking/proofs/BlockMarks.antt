-- The marks of the nodes that the code made of a block are those of the block's pieces: of its first, of its part, and of at most two free pieces.
-- Assumes nothing.
use mathlib.Core.Path.{◌≡◌, refl, ap, ◌∙◌}
use mathlib.Core.Bool.{Bool, true, false, cond}
use mathlib.Core.List.Memᴰ
use mathlib.Core.List.{List, [], ◌∷◌, ◌++◌, Memᴰ}
use mathlib.Core.Logic.{inl, inr, ⊎_elim}
use Prim.Native.Nat.{ℕ, ◌+◌, ◌≤◌}
use native.Mathlib.Nat.{add-zero}
use lib.ListN.{length, take}
use Rattle.piece.specs.declared.size.Size.{Size}
use Rattle.piece.specs.declared.orientation.Orientation.{Orientation}
use Rattle.piece.specs.declared.node.Datum.{Datum}
use Rattle.piece.specs.declared.node.Kind.{Kind}
use Rattle.piece.specs.declared.insertion_blueprint.InsertionShape.{InsertionShape}
use Rattle.piece.specs.declared.insertion_blueprint.InsertionShape.TheVariants.{AlongCurrentCut, AcrossCurrentCut, AlongThenAcross, AcrossThenAlong}
use Rattle.piece.specs.Insertion.{block_of, table}
use Rattle.piece.specs.Row.{nil, grow}
use Rattle.piece.specs.Kinds.{is_free, is_part}
use Rattle.tree.specs.Tree.{Tree, At}
use Rattle.piece.proofs.Padded.{padded-whole}
use Rattle.tree.specs.Booking.{Booking, planted, block}
use Rattle.marks.specs.declared.Mark.{Mark}
use Rattle.booking.specs.declared.new_nodes.NewNode.{NewNode}
use Rattle.booking.specs.declared.new_marks.NewMarks.{NewMarks}
use Rattle.booking.specs.NewNodes.{leaves}
use Rattle.marks.specs.Marks.{zero_mark}
use Rattle.booking.specs.Marks.{block_marks, first_mark, head_mark, marks_in, marks_of, new_mark, new_marks}
use Rattle.booking.proofs.Made.{frees-few}
use Rattle.booking.proofs.Marked.{free-marks-count}

module _ (number : ℕ) (test : Kind → Bool) where
  marks-more : (a b : List NewNode) → marks_of number test (a ++ b) ≡ marks_of number test a ++ marks_of number test b
  marks-more [] b = refl
  marks-more (n ∷ a) b = go (test n.datum.kind) (marks-more a b)
    where
      go : (c : Bool) → marks_of number test (a ++ b) ≡ marks_of number test a ++ marks_of number test b
          → cond c (new_mark number n ∷ marks_of number test (a ++ b)) (marks_of number test (a ++ b))
          ≡ cond c (new_mark number n ∷ marks_of number test a) (marks_of number test a) ++ marks_of number test b
      go true e = ap (λ (l : List Mark). new_mark number n ∷ l) e
      go false e = e

  marks-leaves : (r : Tree) (q : ℕ) (none : Bool) → marks_of number test (leaves q none r) ≡ marks_in number test r
  marks-leaves nil q none = refl
  marks-leaves (grow p d k r) q none =
      rw (marks-more (leaves p true k) (leaves q false r), marks-leaves k p true, marks-leaves r q false) refl

first_leaf : (number : ℕ) (r : Tree) (q : ℕ) (none : Bool) → first_mark number (leaves q none r) ≡ head_mark (marks_in number (λ (k : Kind). true) r)
first_leaf number nil q none = refl
first_leaf number (grow p d k r) q none = refl

pub marks-are : (number : ℕ) (r : Tree) (q : ℕ) (none : Bool) → new_marks number (leaves q none r) ≡ block_marks number r
unfolding new_marks block_marks
marks-are number r q none = rw (first_leaf number r q none, marks-leaves number is_part r q none, marks-leaves number is_free r q none) refl

-- "count; free marks in creation order": no shape makes more than two free pieces
pub block-marks-few : (number : ℕ) (b : Booking) (d : Datum) → length (marks_in number is_free (block b d)) ≤ 2
block-marks-few number b d =
    rw (← marks-leaves number is_free (block b d) 0 true, free-marks-count number (leaves 0 true (block b d))) (frees-few b d 0 true)

-- the mark is that of a piece of the row that passes the test
pub record Of (number : ℕ) (test : Kind → Bool) (w : Tree) (k : Mark) : Type 0 where
  pub piece : Datum
  pub layout : k.layout ≡ number
  pub there : At k.place piece w
  pub serial : piece.serial ≡ k.serial
  pub kind : test piece.kind ≡ true

module _ (number : ℕ) (test : Kind → Bool) where
  of-more : {v w : Tree} {k : Mark} → ((d : Datum) → At k.place d v → At k.place d w) → Of number test v k → Of number test w k
  of-more f o = record { piece = o.piece; layout = o.layout; there = f o.piece o.there; serial = o.serial; kind = o.kind }

  marks-of : (w : Tree) (k : Mark) → Memᴰ k (marks_in number test w) → Of number test w k
  marks-of nil k h = absurd (Memᴰ.not-nil h)
  marks-of (grow p d l r) k h = go (test d.kind) refl h (marks-of l k) (marks-of r k)
    where
      later : (Memᴰ k (marks_in number test l) → Of number test l k) → (Memᴰ k (marks_in number test r) → Of number test r k)
          → Memᴰ k (marks_in number test l ++ marks_in number test r) → Of number test (grow p d l r) k
      later il ir m =
          ⊎_elim (λ z. of-more (λ e y. inr (inl y)) (il z)) (λ z. of-more (λ e y. inr (inr y)) (ir z))
          (Memᴰ.append_cases (marks_in number test l) m)

      own : test d.kind ≡ true → k ≡ record { layout = number; place = p; serial = d.serial } → Of number test (grow p d l r) k
      own t e = rw e (record { piece = d; layout = refl; there = inl (refl, refl); serial = refl; kind = t })

      go : (c : Bool) → test d.kind ≡ c
          → Memᴰ k
          (cond c (record { layout = number; place = p; serial = d.serial } ∷ (marks_in number test l ++ marks_in number test r))
          (marks_in number test l ++ marks_in number test r))
          → (Memᴰ k (marks_in number test l) → Of number test l k) → (Memᴰ k (marks_in number test r) → Of number test r k)
          → Of number test (grow p d l r) k
      go true t m il ir = ⊎_elim (own t) (later il ir) (Memᴰ.cases_cons m)
      go false t m il ir = later il ir m

-- any kind
abbrev pub every : Kind → Bool
every k = true

-- a block has a first node and a part
module _ (number : ℕ) (b : Booking) (level : ℕ) (c : Orientation) (piece part : Size) where
  abbrev row : InsertionShape → Tree
  row s = planted b level c (block_of s b.blade c piece part)

  first-is : (s : InsertionShape) → head_mark (marks_in number every (row s)) ≡ record { layout = number; place = b.place 0; serial = b.serial + 0 }
  unfolding block_of table
  first-is AlongCurrentCut = refl
  first-is AcrossCurrentCut = refl
  first-is AlongThenAcross = refl
  first-is AcrossThenAlong = refl

  first-in : (s : InsertionShape) → Memᴰ (head_mark (marks_in number every (row s))) (marks_in number every (row s))
  unfolding block_of table
  first-in AlongCurrentCut = Memᴰ.head refl
  first-in AcrossCurrentCut = Memᴰ.head refl
  first-in AlongThenAcross = Memᴰ.head refl
  first-in AcrossThenAlong = Memᴰ.head refl

  part_in : (s : InsertionShape) → Memᴰ (head_mark (marks_in number is_part (row s))) (marks_in number is_part (row s))
  unfolding block_of table
  part_in AlongCurrentCut = Memᴰ.head refl
  part_in AcrossCurrentCut = Memᴰ.head refl
  part_in AlongThenAcross = Memᴰ.head refl
  part_in AcrossThenAlong = Memᴰ.head refl

module _ (number : ℕ) (b : Booking) (d : Datum) where
  abbrev marks : NewMarks
  marks = block_marks number (block b d)

  pub block-first-is : (block_marks number (block b d)).first ≡ record { layout = number; place = b.place 0; serial = b.serial }
  unfolding block_marks block
  block-first-is = first-is number b d.level d.cut d.size b.size b.shape ∙ rw (add-zero b.serial) refl

  pub block-first : Of number every (block b d) marks.first
  unfolding block_marks block
  block-first = marks-of number every (block b d) _ (first-in number b d.level d.cut d.size b.size b.shape)

  pub block-part : Of number is_part (block b d) marks.part
  unfolding block_marks block
  block-part = marks-of number is_part (block b d) _ (part_in number b d.level d.cut d.size b.size b.shape)

  pub block-frees : (k : Mark) → Memᴰ k (take marks.count marks.frees) → Of number is_free (block b d) k
  unfolding block_marks block
  block-frees k m =
      marks-of number is_free (block b d) k (rw (padded-whole zero_mark 2 2 (marks_in number is_free (block b d)) (block-marks-few number b d)) at m)
