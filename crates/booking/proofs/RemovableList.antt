-- The removable list of a booked tree. The parent of the free piece goes out if it has no child left, and comes back with the first new node; the
-- parts and structures of the block come in, each once. It rests on register's steps on such lists and on Enrolled.
use mathlib.Core.Path.{◌≡◌, refl, sym, ap, ◌∙◌, subst}
use mathlib.Core.Bool.{Bool, true, false, cond, false≢true}
use mathlib.Core.List.{List, [], ◌∷◌, ◌++◌, append-nil, append_assoc}
use mathlib.Core.Logic.{◌⊎◌, inl, inr, ⊎_elim}
use Prim.Native.Nat.{ℕ}
use Rattle.piece.specs.declared.node.Datum.{Datum}
use Rattle.piece.specs.declared.node.Kind.TheVariants.{Free, Structure}
use Rattle.piece.specs.declared.settings.Settings.{Settings}
use Rattle.tree.specs.Tree.{Tree, In, At}
use Rattle.piece.specs.Kinds.{is_free}
use Rattle.tree.specs.Sound.{Sound}
use Rattle.tree.specs.Booking.{Booking, block, book}
use Rattle.tree.specs.Accepted.{Fresh}
use Rattle.tree.specs.Steps.{less}
use Rattle.tree.specs.ListSteps.{Names, strike, push}
use Rattle.tree.specs.Pieces.{Pieces, pieces_of, Holding, RemovableList}
use Rattle.tree.specs.Family.{parent_of, childless}
use Rattle.tree.specs.Enrolment.{enrolled, booked_list}
use Rattle.tree.proofs.Rows.{same?, at_in, in-at}
use Rattle.tree.proofs.Blocks.{block-distinct}
use Rattle.tree.proofs.Bookings.{at-unique}
use Rattle.tree.proofs.BookPieces.{less-was, less-keeps, book-pieces, book-left, book-new, book-one, block_apart}
use Rattle.layout_nodes.proofs.HoldingSteps.{holding-same, holding-push, holding-strike}
use Rattle.booking.proofs.Enrolled.{Once, Solid, solid-in, enrolled-parent, enrolled-named, solid-named, enrolled-once, block-built, block-some}

-- several new pieces, one after the other: at the end the pieces of which P holds are those of B, half way those of A and what is pushed already
holding-pushes : (P : Datum → Type 0) (B : Pieces) → ((i : ℕ) (e f : Datum) → B i e → B i f → e ≡ f) → (zs : List ℕ) (A : Pieces) (ys : List ℕ)
    → ((i : ℕ) (e : Datum) → A i e → P e → B i e)
    → ((i : ℕ) → Names i zs → (e : Datum) × B i e × P e × ((f : Datum) → A i f → P f → ⊥))
    → ((i : ℕ) (e : Datum) → B i e → P e → A i e ⊎ Names i zs)
    → Once zs → Holding P A ys → Holding P B (ys ++ zs)
holding-pushes P B one [] A ys old named split u h =
    rw append-nil (holding-same P A B ys old (λ i e y q. ⊎_elim (λ a. a) absurd (split i e y q)) h)
holding-pushes P B one (z ∷ zs) A ys old named split u h =
    let g = named z (inl refl) in
    let d : Datum = g.0 in
    rw append_assoc at
    (holding-pushes P B one zs (λ i e. A i e ⊎ ((i ≡ z) × (e ≡ d))) (push ys z)
    (λ i e y q. ⊎_elim (λ a. old i e a q) (λ a. rw (a.0, a.1) g.1) y)
    (λ i n. let f = named i (inr n) in
    (f.0, f.1, f.2, λ e y q. ⊎_elim (λ a. f.3 e a q) (λ a. u.0 (subst (λ (j : ℕ). Names j zs) a.0 n)) y))
    (λ i e y q. ⊎_elim (λ a. inl (inl a))
    (λ m. ⊎_elim (λ s. inl (inr (s, one z e d (rw s at y) g.1))) inr m) (split i e y q))
    u.1
    (holding-push P A (λ i e. A i e ⊎ ((i ≡ z) × (e ≡ d))) ys z d (λ i e y q. inl y) (λ i e y q. y) (inr (refl, refl)) g.2 g.3 h))

-- the parent of the free piece is left, and is a structure: register's Family says so
module _ (limit : ℕ) (settings : Settings) (w : Tree) (sound : Sound limit settings w) (x : ℕ) (d : Datum) (there : At x d w)
    (free : d.kind ≡ Free) (b : Booking) (new : Fresh limit x b w) (parent-left : In (parent_of limit x w) (less x w))
    (parent-solid : (e : Datum) → At (parent_of limit x w) e w → e.kind ≡ Structure) where
  abbrev q : ℕ
  q = parent_of limit x w

  -- a part or a structure
  abbrev P : Datum → Type 0
  P e = is_free e.kind ≡ false

  -- no such piece stands at x
  not-x : (i : ℕ) (e : Datum) → At i e w → P e → i ≡ x → ⊥
  not-x i e y s z =
      let same : e ≡ d = at-unique x d e w sound.distinct there (rw z at y) in
      let no : false ≡ true = sym s ∙ ap (λ (n : Datum). is_free n.kind) same ∙ ap is_free free in
      false≢true no

  keeps : (i : ℕ) (e : Datum) → At i e w → P e → At i e (less x w)
  keeps i e y s = less-keeps limit settings w sound x d there free i e y (not-x i e y s)

  was : (i : ℕ) (e : Datum) → At i e (less x w) → At i e w
  was i e y = (less-was limit settings w sound x d there free i e y).0

  left : (i : ℕ) (e : Datum) → At i e (less x w) → At i e (book x b w)
  left = book-left limit settings w sound x d there free b

  parts : (i : ℕ) (e : Datum) → At i e (book x b w) → At i e (less x w) ⊎ At i e (block b d)
  parts = book-pieces limit settings w sound x d there free b

  apart : (i : ℕ) → In i (block b d) → In i (less x w) → ⊥
  apart = block_apart limit settings w sound x d there free b new

  one : (i : ℕ) (e f : Datum) → At i e (book x b w) → At i f (book x b w) → e ≡ f
  one = book-one limit settings w sound x d there free b new

  once : (none : Bool) → Once (enrolled q none (block b d))
  once none =
      enrolled-once (block b d) (block-built b d) (block-distinct b d new.apart) q
      (λ i. apart q i parent-left) none

  -- the parent comes back
  parent : (e : Datum) × At q e (book x b w) × P e
  parent =
      let e = in-at q (less x w) parent-left in
      (e.0, left q e.0 e.1, ap is_free (parent-solid e.0 (was q e.0 e.1)))

  -- a new piece of the block
  fresh : (i : ℕ) → Solid i (block b d) → (e : Datum) × At i e (book x b w) × P e × ((f : Datum) → At i f (less x w) → ⊥)
  fresh i s = (
    s.0,
    book-new limit settings w sound x d there free b i s.0 s.1,
    s.2,
    λ f y. apart i (solid-in i (block b d) s) (at_in i f (less x w) y),
  )

  -- the parent has a child left
  with-siblings : (ys : List ℕ) → RemovableList w ys → RemovableList (book x b w) (ys ++ enrolled q false (block b d))
  with-siblings ys h =
      holding-pushes P (pieces_of (book x b w)) one (enrolled q false (block b d)) (pieces_of (less x w)) ys
      (λ i e y s. left i e y)
      (λ i n. ⊎_elim (λ z. absurd (false≢true z.0)) (λ s. let f = fresh i s in (f.0, f.1, f.2, λ e y t. f.3 e y))
      (enrolled-named (block b d) (block-built b d) q false i n))
      (λ i e y s. ⊎_elim inl (λ z. inr (solid-named (block b d) (block-built b d) q false i e z s)) (parts i e y))
      (once false) (holding-same P (pieces_of w) (pieces_of (less x w)) ys keeps (λ i e y s. was i e y) h)

  -- it has none: it goes, and comes back
  without : (ys : List ℕ) → RemovableList w ys → RemovableList (book x b w) (strike ys q ++ enrolled q true (block b d))
  without ys h =
      holding-pushes P (pieces_of (book x b w)) one (enrolled q true (block b d)) A (strike ys q)
      (λ i e y s. left i e y.0)
      (λ i n. ⊎_elim (λ z. rw z.1 (parent.0, parent.1, parent.2, λ e y t. y.1 refl))
      (λ s. let f = fresh i s in (f.0, f.1, f.2, λ e y t. f.3 e y.0)) (enrolled-named (block b d) (block-built b d) q true i n))
      (λ i e y s. ⊎_elim (λ z. ⊎_elim (λ a. inr (rw a (enrolled-parent (block b d) (block-some b d) q))) (λ a. inl (z, a)) (same? i q))
      (λ z. inr (solid-named (block b d) (block-built b d) q true i e z s)) (parts i e y))
      (once true)
      (holding-strike P (pieces_of w) A q ys (λ i e y s n. (keeps i e y s, n)) (λ i e y s. (was i e y.0, y.1)) h)
    where
      A : Pieces
      A i e = At i e (less x w) × (i ≡ q → ⊥)

  pub booked-removable : (ys : List ℕ) → RemovableList w ys → RemovableList (book x b w) (booked_list limit x d b w ys)
  unfolding booked_list
  booked-removable ys h = go (childless q (less x w))
    where
      go : (none : Bool) → RemovableList (book x b w) (cond none (strike ys q) ys ++ enrolled q none (block b d))
      go true = without ys h
      go false = with-siblings ys h
