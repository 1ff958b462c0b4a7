-- Bookings: two in different free pieces, and one that is taken back. Assumes nothing.
use mathlib.Core.Path.{◌≡◌, refl, sym, ◌∙◌, subst}
use mathlib.Core.Bool.{true}
use mathlib.Core.Logic.{◌⊎◌, inl, inr}
use Prim.Native.Nat.{ℕ, ◌+◌, ◌-◌, ◌≤◌, ◌<◌}
use native.Mathlib.Omega.{arith}
use borrow.Author.Tests.{eq-eqb, ne_eqb}
use Rattle.piece.specs.declared.orientation.Orientation.{Orientation}
use Rattle.piece.specs.declared.size.Size.{Size}
use Rattle.piece.specs.declared.node.Datum.{Datum}
use Rattle.piece.specs.declared.node.Kind.{Kind}
use Rattle.piece.specs.declared.node.Kind.TheVariants.{Free}
use Rattle.piece.specs.declared.insertion_blueprint.InsertionShape.{InsertionShape}
use Rattle.piece.specs.declared.insertion_blueprint.InsertionShape.TheVariants.{AlongCurrentCut, AcrossCurrentCut, AlongThenAcross, AcrossThenAlong}
use Rattle.piece.specs.declared.settings.Settings.{Settings}
use Rattle.piece.specs.Sides.{other, sized, laid}
use Rattle.piece.specs.Row.{Row, nil, grow}
use Rattle.piece.specs.Offers.{fits}
use Rattle.piece.specs.Insertion.{Made, left_behind, eaten_behind, laid_all, block_of, table}
use Rattle.tree.specs.Tree.{Tree, In, At, Distinct, after}
use Rattle.tree.specs.Sound.{FreePiece, Kinded, Children, Sound}
use Rattle.tree.specs.Snapshot.{shape}
use Rattle.tree.specs.Booking.{Booking, planted, block, booked_row, book}
use Rattle.tree.specs.Removal.{board, settled, remove}
use Rattle.tree.specs.Apart.{Alike, Clear}
use Rattle.piece.proofs.Sizes.{laid-twice, fits-laid, fits-sides}
use Rattle.tree.proofs.Rows.{same?, in-eq, at_in, after-nil}
use Rattle.tree.proofs.Shapes.{shape-after}
use Rattle.tree.proofs.Changes.{past, alike, commute}

-- Two bookings in different free pieces.

alike-sym : {b b' : Booking} → Alike b b' → Alike b' b
alike-sym a = record { shape = sym a.shape; size = sym a.size; number = sym a.number; blade = sym a.blade }

-- what a booking makes, but for the marks
module _ {b b' : Booking} (a : Alike b b') where
  planted-alike : (l : ℕ) (c : Orientation) (w : Row Made) → shape (planted b l c w) ≡ shape (planted b' l c w)
  planted-alike l c nil = refl
  planted-alike l c (grow i m k r) = rw (planted-alike (l + 1) (other c) k, planted-alike l c r, a.number)

  block-alike : (d : Datum) → shape (block b d) ≡ shape (block b' d)
  unfolding block
  block-alike d =
      planted-alike d.level d.cut (block_of b.shape b.blade d.cut d.size b.size) ∙ rw (a.shape, a.blade, a.size)

  pub booked-alike : (d : Datum) (r : Tree) → shape (after (block b d) r) ≡ shape (after (block b' d) r)
  booked-alike d r = simp shape-after (rw (block-alike d))

-- the numbers of a block's nodes are below this one
abbrev Under : ℕ → Row Made → Type 0
Under n nil = Unit {0}
Under n (grow i m k r) = (i < n) × Under n k × Under n r

five : (s : InsertionShape) (n : ℕ) (c : Orientation) (piece part : Size) → Under 5 (block_of s n c piece part)
unfolding block_of table
five AlongCurrentCut n c piece part = omega arith
five AcrossCurrentCut n c piece part = omega arith
five AlongThenAcross n c piece part = omega arith
five AcrossThenAlong n c piece part = omega arith

-- so a block that is clear of y does not have the place y
module _ (y : ℕ) (b : Booking) (h : Clear y b) where
  planted-clear : (l : ℕ) (c : Orientation) (w : Row Made) → Under 5 w → In y (planted b l c w) → ⊥
  planted-clear l c nil u g = g
  planted-clear l c (grow i m k r) u (inl e) = h i u.0 (sym e)
  planted-clear l c (grow i m k r) u (inr (inl g)) = planted-clear (l + 1) (other c) k u.1 g
  planted-clear l c (grow i m k r) u (inr (inr g)) = planted-clear l c r u.2 g

  pub block-clear : (d : Datum) → In y (block b d) → ⊥
  unfolding block
  block-clear d =
      planted-clear d.level d.cut (block_of b.shape b.blade d.cut d.size b.size) (five b.shape b.blade d.cut d.size b.size)

-- a booking among the later siblings of a block
book-behind : (y : ℕ) (b b' c c' : Booking) (d : Datum) (r : Tree) → Clear y b → Alike b b' → Alike c c'
    → shape (book y c (after (block b d) r)) ≡ shape (after (block b' d) (book y c' r))
book-behind y b b' c c' d r n ab ac =
    rw (past y (booked_row c) (block b d) r (block-clear y b n d))
    (simp shape-after (rw (block-alike ab d, alike y (booked_row c) (booked_row c') (booked-alike ac) r)))

pub books-commute : (x y : ℕ) (b c b' c' : Booking) → (x ≡ y → ⊥) → Clear y b → Clear x c' → Alike b b' → Alike c c' → (t : Tree)
    → shape (book y c (book x b t)) ≡ shape (book x b' (book y c' t))
books-commute x y b c b' c' n nb nc ab ac t =
    commute x y (booked_row b) (booked_row c) (booked_row b') (booked_row c') n (λ r. Unit {0}) (λ p d k r w. tt) (λ p d k r w. tt)
    (λ d k r w. book-behind y b b' c c' d r nb ab ac)
    (λ d k r w. sym (book-behind x c' c b' b d r nc (alike-sym ac) (alike-sym ab))) t tt

-- A booking that is taken back: the first piece of its block goes.

-- what is left is one free piece, of the sides of the table's: it has back what was eaten
remove-planted : (i : InsertionShape) (b : Booking) (n s v l : ℕ) (c : Orientation) (W H w h : ℕ) → w ≤ W
    → shape (remove (b.place 0) n s (planted b l c (laid_all c (table i v W H w h))))
    ≡ grow 0 (record { serial = 0; size = laid c (sized W H); number = 0; level = l; kind = Free; cut = c; eaten = 0 }) nil nil
unfolding table settled board
remove-planted AlongCurrentCut b n s v l c W H w h e =
    let z : w + eaten_behind v (W - w) + left_behind v (W - w) ≡ W = omega arith in
    rw (eq-eqb (b.place 0) (b.place 0) refl, laid-twice c (sized w H), laid-twice c (sized (left_behind v (W - w)) H), z)
remove-planted AcrossCurrentCut b n s v l c W H w h e =
    let z : W + 0 + 0 ≡ W = omega arith in
    rw (eq-eqb (b.place 0) (b.place 0) refl, laid-twice c (sized W H), z)
remove-planted AlongThenAcross b n s v l c W H w h e =
    let z : w + eaten_behind v (W - w) + left_behind v (W - w) ≡ W = omega arith in
    rw (eq-eqb (b.place 0) (b.place 0) refl, laid-twice c (sized w H), laid-twice c (sized (left_behind v (W - w)) H), z)
remove-planted AcrossThenAlong b n s v l c W H w h e =
    let z : W + 0 + 0 ≡ W = omega arith in
    rw (eq-eqb (b.place 0) (b.place 0) refl, laid-twice c (sized W H), z)

-- the place i is held by at most one piece
pub at-unique : (i : ℕ) (d e : Datum) (t : Tree) → Distinct t → At i d t → At i e t → e ≡ d
at-unique i d e nil n g h = absurd g
at-unique i d e (grow p f k r) n (inl g) (inl h) = h.1 ∙ sym g.1
at-unique i d e (grow p f k r) n (inl g) (inr (inl h)) = absurd (n.not_below (in-eq k g.0 (at_in i e k h)))
at-unique i d e (grow p f k r) n (inl g) (inr (inr h)) = absurd (n.not_beside (in-eq r g.0 (at_in i e r h)))
at-unique i d e (grow p f k r) n (inr (inl g)) (inl h) = absurd (n.not_below (in-eq k h.0 (at_in i d k g)))
at-unique i d e (grow p f k r) n (inr (inl g)) (inr (inl h)) = at-unique i d e k n.below g h
at-unique i d e (grow p f k r) n (inr (inl g)) (inr (inr h)) = absurd (n.apart i (at_in i d k g) (at_in i e r h))
at-unique i d e (grow p f k r) n (inr (inr g)) (inl h) = absurd (n.not_beside (in-eq r h.0 (at_in i d r g)))
at-unique i d e (grow p f k r) n (inr (inr g)) (inr (inl h)) = absurd (n.apart i (at_in i e k h) (at_in i d r g))
at-unique i d e (grow p f k r) n (inr (inr g)) (inr (inr h)) = at-unique i d e r n.beside g h

module _ (settings : Settings) (x n s : ℕ) (b : Booking) where
  -- a piece in which b can be booked
  abbrev pub Takes : Datum → Type 0
  Takes d = (d.kind ≡ Free) × (fits d.size b.size ≡ true)

  -- the tree is as it was
  abbrev Back : Tree → Type 0
  Back t = shape (remove (b.place 0) n s (book x b t)) ≡ shape t

  -- a free piece is the last of its row, childless, without a number and with nothing eaten behind it
  pub back-here : (p : ℕ) (d : Datum) (k r : Tree) → p ≡ x → Takes d → FreePiece d k r → d.eaten ≡ 0 → Back (grow p d k r)
  unfolding block block_of
  back-here p d k r e t f z =
      let c = d.cut in
      let h = fits-sides (laid c d.size) (laid c b.size) (fits-laid c d.size b.size ∙ t.1) in
      rw (eq-eqb p x e, f.childless, f.last, after-nil (block b d))
      (remove-planted b.shape b n s _ d.level c _ _ _ _ h.0 ∙ rw (laid-twice c d.size, t.0, f.unnumbered, z))

  row_back : (q : Datum) (r : Tree) → Children settings q r → ((e : Datum) → At x e r → Takes e) → (In (b.place 0) r → b.place 0 ≡ x) → Back r
  row_back q nil w h o = refl
  row_back q (grow p d k r) w h o =
      go (same? p x) (row_back d k w.below (λ e g. h e (inr (inl g))) (λ g. o (inr (inl g))))
      (row_back q r w.beside (λ e g. h e (inr (inr g))) (λ g. o (inr (inr g))))
    where
      go : (p ≡ x) ⊎ (p ≡ x → ⊥) → Back k → Back r → Back (grow p d k r)
      go (inl e) ik ir =
          let t = h d (inl (sym e, refl)) in
          let f : FreePiece d k r = subst (λ (κ : Kind). Kinded κ d k r) t.0 w.kinded in
          back-here p d k r e t f (w.ends f.last)
      go (inr m) ik ir = rw (ne_eqb p x m, ne_eqb p (b.place 0) (λ e. m (e ∙ o (inl (sym e)))), ik, ir)

  -- the top is a structure, so the piece at x is below it
  tree-back : {limit : ℕ} (t : Tree) → Sound limit settings t → ((e : Datum) → At x e t → Takes e)
      → (In (b.place 0) t → b.place 0 ≡ x) → Back t
  tree-back nil w h o = refl
  tree-back (grow p d k r) w h o =
      let top = w.topped.0 in
      let m : p ≡ x → ⊥ = λ e. let z : ◌≡◌ {A = ℕ} 0 1 = cc ((h d (inl (sym e, refl))).0, top.kind) in omega arith in
      let ik = row_back d k w.topped.1 (λ e g. h e (inr (inl g))) (λ g. o (inr (inl g))) in
      rw (ne_eqb p x m, ne_eqb p (b.place 0) (λ e. m (e ∙ o (inl (sym e)))), ik, top.alone)

  pub book-back : {limit : ℕ} (t : Tree) (d : Datum) → Sound limit settings t → At x d t → Takes d
      → (In (b.place 0) t → b.place 0 ≡ x) → Back t
  book-back t d w a f o = tree-back t w (λ e h. subst Takes (sym (at-unique x d e t w.distinct a h)) f) o
