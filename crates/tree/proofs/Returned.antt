-- A booking that is taken back by its part and then made tidy: the tidy tree is what it was. Assumes nothing.
use mathlib.Core.Path.{◌≡◌, refl, sym, ap, ◌∙◌, subst}
use mathlib.Core.Bool.{Bool, true, false, false≢true}
use mathlib.Core.Logic.{◌⊎◌, inl, inr}
use Prim.Native.Nat.{ℕ, ◌+◌, ◌<◌}
use native.Mathlib.Omega.{arith}
use borrow.Author.Tests.{eq-eqb, ne_eqb}
use Rattle.piece.specs.declared.orientation.Orientation.{Orientation}
use Rattle.piece.specs.declared.size.Size.{Size}
use Rattle.piece.specs.declared.node.Datum.{Datum}
use Rattle.piece.specs.declared.node.Kind.{Kind}
use Rattle.piece.specs.declared.node.Kind.TheVariants.{Free, Part}
use Rattle.piece.specs.declared.insertion_blueprint.InsertionShape.{InsertionShape}
use Rattle.piece.specs.declared.insertion_blueprint.InsertionShape.TheVariants.{AlongCurrentCut, AcrossCurrentCut, AlongThenAcross, AcrossThenAlong}
use Rattle.piece.specs.declared.settings.Settings.{Settings}
use Rattle.piece.specs.Sides.{other}
use Rattle.piece.specs.Row.{Row, nil, grow}
use Rattle.piece.specs.Kinds.{is_free, is_part}
use Rattle.piece.specs.Insertion.{Made, laid_all, block_of, table, new_nodes}
use Rattle.tree.specs.Tree.{Tree, In, At}
use Rattle.tree.specs.Sound.{FreePiece, Kinded, Children, Topped, Sound}
use Rattle.tree.specs.Snapshot.{shape}
use Rattle.tree.specs.Booking.{Booking, planted, block, book}
use Rattle.tree.specs.Removal.{settled, remove, cleared}
use Rattle.tree.specs.Apart.{Removable}
use Rattle.tree.specs.Accepted.{Fitting, Fresh}
use Rattle.tree.specs.Tidy.{Tidy, Takings, partless, is_empty, tidy_row, tidied}
use Rattle.tree.proofs.Rows.{same?, in-eq, at_in, after-nil}
use Rattle.tree.proofs.Pieces.{free-piece}
use Rattle.tree.proofs.Bookings.{Takes, back-here, at-unique}
use Rattle.tree.proofs.Kept.{only, not_top}
use Rattle.tree.proofs.RemoveKept.{remove-topped, remove-distinct}
use Rattle.tree.proofs.Blocks.{block_in}
use Rattle.tree.proofs.BookKept.{book-topped, book-distinct}
use Rattle.tree.proofs.BookPieces.{book-new}
use Rattle.tree.proofs.Settles.{settled-shape}
use Rattle.tree.proofs.Tidied.{not-structure}
use Rattle.tree.proofs.Takings.{done, reached}

-- The block of each shape: the part's place in the order of creation.
abbrev pub part_no : InsertionShape → ℕ
part_no AlongCurrentCut = 0
part_no AcrossCurrentCut = 1
part_no AlongThenAcross = 1
part_no AcrossThenAlong = 2

-- it is the only part there: a part of the row has this number
abbrev Parts : ℕ → Row Made → Type 0
Parts j nil = Unit {0}
Parts j (grow i m k r) = (is_part m.kind ≡ true → i ≡ j) × Parts j k × Parts j r

planted-part : (b : Booking) (l : ℕ) (c : Orientation) (j : ℕ) (w : Row Made) (y : ℕ) (e : Datum) → Parts j w → At y e (planted b l c w) → e.kind ≡ Part
    → y ≡ b.place j
planted-part b l c j nil y e f h g = absurd h
planted-part b l c j (grow i m k r) y e f (inl z) g =
    z.0 ∙ ap b.place (f.0 (ap (λ (o : Datum). is_part o.kind) (sym z.1) ∙ ap is_part g))
planted-part b l c j (grow i m k r) y e f (inr (inl z)) g = planted-part b (l + 1) (other c) j k y e f.1 z g
planted-part b l c j (grow i m k r) y e f (inr (inr z)) g = planted-part b l c j r y e f.2 z g

table-parts : (i : InsertionShape) (v : ℕ) (c : Orientation) (piece part : Size) → Parts (part_no i) (block_of i v c piece part)
unfolding block_of table
table-parts AlongCurrentCut v c piece part = ((λ z. refl), tt, ((λ z. absurd (false≢true z)), tt, tt))
table-parts AcrossCurrentCut v c piece part = ((λ z. absurd (false≢true z)), ((λ z. refl), tt, ((λ z. absurd (false≢true z)), tt, tt)), tt)
table-parts AlongThenAcross v c piece part =
    ((λ z. absurd (false≢true z)), ((λ z. refl), tt, ((λ z. absurd (false≢true z)), tt, tt)), ((λ z. absurd (false≢true z)), tt, tt))
table-parts AcrossThenAlong v c piece part = (
  (λ z. absurd (false≢true z)),
  (
    (λ z. absurd (false≢true z)),
    ((λ z. refl), tt, ((λ z. absurd (false≢true z)), tt, tt)),
    ((λ z. absurd (false≢true z)), tt, tt),
  ),
  tt,
)

pub block-part : (b : Booking) (d : Datum) (y : ℕ) (e : Datum) → At y e (block b d) → e.kind ≡ Part → y ≡ b.place (part_no b.shape)
unfolding block
block-part b d y e =
    let w = block_of b.shape b.blade d.cut d.size b.size in
    planted-part b d.level d.cut (part_no b.shape) w y e (table-parts b.shape b.blade d.cut d.size b.size)

-- no two of a block's nodes get one place
abbrev Separate : Booking → InsertionShape → Type 0
Separate b i = (j m : ℕ) → j < m → m < new_nodes i → b.place j ≡ b.place m → ⊥

-- once its part went, its first piece has no part inside, and goes too: the row is the one in which that piece went alone
table-returns : (i : InsertionShape) (b : Booking) → Separate b i → (n s v l : ℕ) (c : Orientation) (W H w h : ℕ)
    → (shape (tidy_row (remove (b.place (part_no i)) n s (planted b l c (laid_all c (table i v W H w h)))))
    ≡ shape (remove (b.place 0) n s (planted b l c (laid_all c (table i v W H w h)))))
    × (partless (remove (b.place (part_no i)) n s (planted b l c (laid_all c (table i v W H w h)))) ≡ true)
unfolding table settled
table-returns AlongCurrentCut b a n s v l c W H w h = rw (eq-eqb (b.place 0) (b.place 0) refl) (refl, refl)
table-returns AcrossCurrentCut b a n s v l c W H w h =
    rw (ne_eqb (b.place 0) (b.place 1) (a 0 1 (omega arith) (omega arith)), eq-eqb (b.place 1) (b.place 1) refl, eq-eqb (b.place 0) (b.place 0) refl)
    (refl, refl)
table-returns AlongThenAcross b a n s v l c W H w h =
    rw (
      ne_eqb (b.place 0) (b.place 1) (a 0 1 (omega arith) (omega arith)),
      eq-eqb (b.place 1) (b.place 1) refl,
      ne_eqb (b.place 3) (b.place 1) (λ e. a 1 3 (omega arith) (omega arith) (sym e)),
      eq-eqb (b.place 0) (b.place 0) refl,
    )
    (refl, refl)
table-returns AcrossThenAlong b a n s v l c W H w h =
    rw (
      ne_eqb (b.place 0) (b.place 2) (a 0 2 (omega arith) (omega arith)),
      ne_eqb (b.place 1) (b.place 2) (a 1 2 (omega arith) (omega arith)),
      eq-eqb (b.place 2) (b.place 2) refl,
      ne_eqb (b.place 4) (b.place 2) (λ e. a 2 4 (omega arith) (omega arith) (sym e)),
      eq-eqb (b.place 0) (b.place 0) refl,
    )
    (refl, refl)

module _ (settings : Settings) (x y n s : ℕ) (b : Booking) (this : y ≡ b.place (part_no b.shape)) (apart : Separate b b.shape) where
  -- what is left of the block
  block-returns : (d : Datum)
      → (shape (tidy_row (remove y n s (block b d))) ≡ shape (remove (b.place 0) n s (block b d))) × (partless (remove y n s (block b d)) ≡ true)
  unfolding block block_of
  block-returns d = rw this (table-returns b.shape b apart n s b.blade d.level d.cut _ _ _ _)

  -- the tidy row is what it was, and so is what it says of parts
  abbrev Returns : Tree → Type 0
  Returns r = (shape (tidy_row (remove y n s (book x b r))) ≡ shape (tidy_row r)) × (partless (remove y n s (book x b r)) ≡ partless r)

  returns-here : (p : ℕ) (d : Datum) (k r : Tree) → p ≡ x → Takes settings x n s b d → FreePiece d k r → d.eaten ≡ 0 → Returns (grow p d k r)
  returns-here p d k r e t f z =
      let o = block-returns d in
      let g : is_free d.kind ≡ true = ap is_free t.0 in
      let v = rw (eq-eqb p x e, after-nil (block b d)) at (back-here settings x n s b p d nil nil e t (free-piece refl refl f.unnumbered) z) in
      rw (f.childless, f.last, eq-eqb p x e, after-nil (block b d), not-structure d.kind g) (o.0 ∙ v, o.1 ∙ rw (ap is_part t.0) refl)

  row-returns : (q : Datum) (r : Tree) → Children settings q r → ((e : Datum) → At x e r → Takes settings x n s b e) → (In y r → y ≡ x) → Returns r
  row-returns q nil w h o = (refl, refl)
  row-returns q (grow p d k r) w h o =
      go (same? p x) (is_empty d k) refl (row-returns d k w.below (λ e g. h e (inr (inl g))) (λ g. o (inr (inl g))))
      (row-returns q r w.beside (λ e g. h e (inr (inr g))) (λ g. o (inr (inr g))))
    where
      py : (p ≡ x → ⊥) → p ≡ y → ⊥
      py m e = m (e ∙ o (inl (sym e)))

      go : (p ≡ x) ⊎ (p ≡ x → ⊥) → (c : Bool) → is_empty d k ≡ c → Returns k → Returns r → Returns (grow p d k r)
      go (inl e) c g ik ir =
          let t = h d (inl (sym e, refl)) in
          let f : FreePiece d k r = subst (λ (κ : Kind). Kinded κ d k r) t.0 w.kinded in
          returns-here p d k r e t f (w.ends f.last)
      go (inr m) true g ik ir =
          rw (ne_eqb p x m, ne_eqb p y (py m), ik.1, ir.1, g)
          (settled-shape 0 0 d (tidy_row (remove y n s (book x b r))) (tidy_row r) ir.0, refl)
      go (inr m) false g ik ir = rw (ne_eqb p x m, ne_eqb p y (py m), ik.1, ir.1, g, ik.0, ir.0) (refl, refl)

  -- the top is a structure, so the piece at x is below it
  pub tree-returns : (t : Tree) → Topped settings t → ((e : Datum) → At x e t → Takes settings x n s b e) → (In y t → y ≡ x)
      → shape (tidied (remove y n s (book x b t))) ≡ shape (tidied t)
  tree-returns nil w h o = refl
  tree-returns (grow p d k r) w h o =
      let m : p ≡ x → ⊥ = λ e. let z : ◌≡◌ {A = ℕ} 0 1 = cc ((h d (inl (sym e, refl))).0, w.0.kind) in omega arith in
      let ik = row-returns d k w.1 (λ e g. h e (inr (inl g))) (λ g. o (inr (inl g))) in
      rw (ne_eqb p x m, ne_eqb p y (λ e. m (e ∙ o (inl (sym e)))), ik.0, w.0.alone) refl

-- The tree that is reached.
module _ (limit : ℕ) (settings : Settings) (t : Tree) (sound : Sound limit settings t) (x : ℕ) (d : Datum) (there : At x d t) (free : d.kind ≡ Free)
    (b : Booking) (fit : Fitting settings d b) (fresh : Fresh limit x b t) (y : ℕ) (e : Datum) (at : At y e (block b d)) (part : e.kind ≡ Part) where
  -- the part's place was not held, or was x's
  part-new : In y t → y ≡ x
  part-new i = let z = block_in b d y (at_in y e (block b d) at) in z.2 ∙ fresh.unheld z.0 z.1 (in-eq t z.2 i)

  -- the top is held, and is not x
  below_top : y ≡ 0 → ⊥
  below_top z =
      not_top settings x d t sound.topped (only x d t sound.distinct there) free
      (sym (part-new (in-eq t (sym z) (top_in t sound.topped))) ∙ z)
    where
      top_in : (w : Tree) → Topped settings w → In 0 w
      top_in nil h = h
      top_in (grow p c k r) h = inl (sym h.0.place)

  part-removable : Removable y (book x b t)
  part-removable =
      record { piece = e; there = book-new limit settings t sound x d there free b y e at; solid = rw part refl; below = below_top }

  pub book-returns : (n s k : ℕ) (u : Tree) → (In n (cleared y (book x b t)) → ⊥) → Takings limit (remove y n s (book x b t)) k u → Tidy t → Tidy u
      → shape u ≡ shape t
  book-returns n s k u unheld g before after =
      let o = book-topped settings x d b t sound.topped sound.distinct there free fit in
      let v = book-distinct limit x b t sound.distinct fresh in
      reached settings (remove-topped settings y n s (book x b t) o v part-removable) (remove-distinct y n s (book x b t) v unheld) g after
      ∙ tree-returns settings x y n s b (block-part b d y e at part) fresh.apart t sound.topped
      (λ c i. subst (Takes settings x n s b) (sym (at-unique x d c t sound.distinct there i)) (free, fit.inside)) part-new
      ∙ ap shape (done settings t sound.topped sound.distinct before)
