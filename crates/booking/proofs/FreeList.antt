-- The free list of a booked tree: the free piece is cut out, and the free pieces of the block are put in, in the order of their creation. Each is
-- newer than all that are there. It rests on register's steps of the free list, and on the marks of the new nodes.
use mathlib.Core.Path.{◌≡◌, refl, sym, ap, ◌∙◌, subst}
use mathlib.Core.Bool.{Bool, true, false, false≢true}
use mathlib.Core.List.{List, [], ◌∷◌, ◌++◌}
use mathlib.Core.Logic.{◌⊎◌, inl, inr, ⊎_elim}
use Prim.Native.Nat.{ℕ, ◌+◌, ◌<◌}
use native.Mathlib.Omega.{arith}
use lib.ListN.{length, length-append}
use Rattle.piece.specs.declared.orientation.Orientation.{Orientation}
use Rattle.piece.specs.declared.node.Datum.{Datum}
use Rattle.piece.specs.declared.node.Kind.{Kind}
use Rattle.piece.specs.declared.node.Kind.TheVariants.{Free, Part, Structure}
use Rattle.piece.specs.declared.settings.Settings.{Settings}
use Rattle.piece.specs.Sides.{other, area}
use Rattle.piece.specs.Row.{Row, nil, grow}
use Rattle.piece.specs.Insertion.{Made, block_of}
use Rattle.piece.specs.Kinds.{is_free}
use Rattle.tree.specs.Tree.{Tree, At, count}
use Rattle.tree.specs.Sound.{Sound}
use Rattle.tree.specs.Booking.{Booking, planted, block, book}
use Rattle.tree.specs.Accepted.{Fresh}
use Rattle.tree.specs.Steps.{less}
use Rattle.tree.specs.ListSteps.{omit, put, put_all}
use Rattle.tree.specs.Pieces.{Pieces, pieces_of, FreeOf, FreeList, Serials}
use Rattle.tree.proofs.Rows.{at_in}
use Rattle.tree.proofs.Numbered.{Numbered}
use Rattle.tree.proofs.BookPieces.{less-gone, less-was, less-keeps, less_one, book-pieces, book-left, book-new, book-one}
use Rattle.layout_nodes.proofs.FreeSteps.{free-same, free-cut, free-put}
use Rattle.booking.specs.declared.new_nodes.NewNode.{NewNode}
use Rattle.booking.specs.NewNodes.{leaves, frees_of}
use Rattle.booking.proofs.Issued.{block-numbered, older}

-- ---- the list of the new nodes

-- the new node e at i is in the list
abbrev pub Among : ℕ → Datum → List NewNode → Type 0
Among i e [] = ⊥
Among i e (n ∷ ns) = ((i ≡ n.place) × (e ≡ n.datum)) ⊎ Among i e ns

module _ (i : ℕ) (e : Datum) where
  among_in : (m n : List NewNode) → Among i e (m ++ n) → Among i e m ⊎ Among i e n
  among_in [] n h = inr h
  among_in (a ∷ m) n (inl z) = inl (inl z)
  among_in (a ∷ m) n (inr h) = ⊎_elim (λ z. inl (inr z)) inr (among_in m n h)

  among_first : (m n : List NewNode) → Among i e m → Among i e (m ++ n)
  among_first [] n h = absurd h
  among_first (a ∷ m) n (inl z) = inl z
  among_first (a ∷ m) n (inr h) = inr (among_first m n h)

  among_second : (m n : List NewNode) → Among i e n → Among i e (m ++ n)
  among_second [] n h = h
  among_second (a ∷ m) n h = inr (among_second m n h)

  -- the new nodes are the pieces of the row
  pub among-at : (r : Tree) (q : ℕ) (none : Bool) → Among i e (leaves q none r) → At i e r
  among-at nil q none h = h
  among-at (grow p d k r) q none (inl z) = inl z
  among-at (grow p d k r) q none (inr h) =
      inr (⊎_elim (λ z. inl (among-at k p true z)) (λ z. inr (among-at r q false z)) (among_in (leaves p true k) (leaves q false r) h))

  pub at-among : (r : Tree) (q : ℕ) (none : Bool) → At i e r → Among i e (leaves q none r)
  at-among nil q none h = h
  at-among (grow p d k r) q none (inl z) = inl z
  at-among (grow p d k r) q none (inr (inl h)) = inr (among_first (leaves p true k) (leaves q false r) (at-among k p true h))
  at-among (grow p d k r) q none (inr (inr h)) = inr (among_second (leaves p true k) (leaves q false r) (at-among r q false h))

-- "they rise by one per node in creation order", from s on
abbrev pub Counted : ℕ → List NewNode → Type 0
Counted s [] = Unit {0}
Counted s (n ∷ ns) = (n.datum.serial ≡ s) × Counted (s + 1) ns

counted-both : (s : ℕ) (m n : List NewNode) → Counted s m → Counted (s + length m) n → Counted s (m ++ n)
counted-both s [] n h g = subst (λ (z : ℕ). Counted z n) (omega arith) g
counted-both s (a ∷ m) n h g = (h.0, counted-both (s + 1) m n h.1 (subst (λ (z : ℕ). Counted z n) (omega arith) g))

module _ (b : Booking) where
  leaves-length : (l : ℕ) (c : Orientation) (w : Row Made) (q : ℕ) (none : Bool) → length (leaves q none (planted b l c w)) ≡ count w
  leaves-length l c nil q none = refl
  leaves-length l c (grow j m k r) q none =
      let f = leaves-length (l + 1) (other c) k (b.place j) true in
      let g = leaves-length l c r q false in
      simp length-append (omega arith)

  planted-counted : (l : ℕ) (c : Orientation) (w : Row Made) (n : ℕ) → Numbered n w → (q : ℕ) (none : Bool)
      → Counted (b.serial + n) (leaves q none (planted b l c w))
  planted-counted l c nil n h q none = tt
  planted-counted l c (grow j m k r) n h q none =
      let f = leaves-length (l + 1) (other c) k (b.place j) true in (
        omega (arith, h.0),
        counted-both (b.serial + n + 1) (leaves (b.place j) true (planted b (l + 1) (other c) k)) (leaves q false (planted b l c r))
            (subst (λ (z : ℕ). Counted z (leaves (b.place j) true (planted b (l + 1) (other c) k))) (omega arith)
            (planted-counted (l + 1) (other c) k (n + 1) h.1 (b.place j) true))
            (subst (λ (z : ℕ). Counted z (leaves q false (planted b l c r))) (omega arith)
            (planted-counted l c r (n + 1 + count k) h.2 q false)),
      )

  pub block-counted : (d : Datum) (q : ℕ) (none : Bool) → Counted b.serial (leaves q none (block b d))
  unfolding block
  block-counted d q none =
      subst (λ (z : ℕ). Counted z (leaves q none (planted b d.level d.cut (block_of b.shape b.blade d.cut d.size b.size)))) (omega arith)
      (planted-counted d.level d.cut (block_of b.shape b.blade d.cut d.size b.size) 0
      (block-numbered b.shape b.blade d.cut d.size b.size) q none)

-- ---- one free piece after the other

free_or : (κ : Kind) → (κ ≡ Free) ⊎ (is_free κ ≡ false)
free_or Free = inl refl
free_or Part = inr refl
free_or Structure = inr refl

-- at the end the pieces are B; half way they are A, all with serials below s, and those that have come
module _ (B : Pieces) (one : (i : ℕ) (e f : Datum) → B i e → B i f → e ≡ f) (areas : ℕ → ℕ)
    (sized : (i : ℕ) (e : Datum) → B i e → areas i ≡ area e.size) where
  -- the pieces with one more
  abbrev With : Pieces → NewNode → Pieces
  With A n i e = A i e ⊎ ((i ≡ n.place) × (e ≡ n.datum))

  module _ (A : Pieces) (n : NewNode) (ns : List NewNode) (s : ℕ) (old : (i : ℕ) (e : Datum) → A i e → B i e)
      (new : (i : ℕ) (e : Datum) → Among i e (n ∷ ns) → B i e) (low : (i : ℕ) (e : Datum) → A i e → e.serial < s)
      (serial : n.datum.serial ≡ s) where
    with-old : (i : ℕ) (e : Datum) → With A n i e → B i e
    with-old i e h = ⊎_elim (old i e) (λ z. new i e (inl z)) h

    with-low : (i : ℕ) (e : Datum) → With A n i e → e.serial < s + 1
    with-low i e (inl h) = let a = low i e h in omega arith
    with-low i e (inr z) = let a : e.serial ≡ n.datum.serial = ap (λ (c : Datum). c.serial) z.1 in omega arith

    -- the new piece is put in; its place is new, since it would have an older serial
    with-put : (xs : List ℕ) → n.datum.kind ≡ Free → FreeOf A xs → FreeOf (With A n) (put areas xs n.place)
    with-put xs z f =
        free-put A (With A n) areas n.place n.datum xs (λ i e y k. inl y) (λ i e y k. y) (inr (refl, refl)) z
        (λ e y k. let a = low n.place e y in
        let same : e ≡ n.datum = one n.place e n.datum (old n.place e y) (new n.place n.datum (inl (refl, refl))) in
        let c : e.serial ≡ n.datum.serial = ap (λ (o : Datum). o.serial) same in
        omega arith)
        (λ i e y k. let a = low i e y in omega arith) (λ i e g y z. one i e g (old i e y) (old i g z))
        (λ i e g y z. one i e g (with-old i e y) (with-old i g z)) (λ i e y k. sized i e (with-old i e y)) f

  free-puts : (ns : List NewNode) (s : ℕ) (A : Pieces) (xs : List ℕ)
      → ((i : ℕ) (e : Datum) → A i e → B i e)
      → ((i : ℕ) (e : Datum) → Among i e ns → B i e)
      → ((i : ℕ) (e : Datum) → B i e → e.kind ≡ Free → A i e ⊎ Among i e ns)
      → ((i : ℕ) (e : Datum) → A i e → e.serial < s)
      → Counted s ns → FreeOf A xs → FreeOf B (put_all areas xs (frees_of ns))
  free-puts [] s A xs old new split low rising f =
      free-same A B xs (λ i e y z. old i e y) (λ i e y z. ⊎_elim (λ a. a) absurd (split i e y z)) one f
  free-puts (n ∷ ns) s A xs old new split low rising f =
      ⊎_elim
      (λ z. let is : is_free n.datum.kind ≡ true = ap is_free z in
      rw is
      (free-puts ns (s + 1) (With A n) (put areas xs n.place) (with-old A n ns s old new low rising.0) (λ i e y. new i e (inr y))
      (λ i e y k. ⊎_elim (λ a. inl (inl a)) (λ v. ⊎_elim (λ a. inl (inr a)) inr v) (split i e y k))
      (with-low A n ns s old new low rising.0) rising.1 (with-put A n ns s old new low rising.0 xs z f)))
      (λ z. rw z
      (free-puts ns (s + 1) A xs old (λ i e y. new i e (inr y))
      (λ i e y k. ⊎_elim inl (λ v. ⊎_elim (λ a. absurd (false≢true (sym z ∙ ap (λ (o : Datum). is_free o.kind) (sym a.1) ∙ ap is_free k))) inr v)
      (split i e y k)) (λ i e y. let a = low i e y in omega arith) rising.1 f))
      (free_or n.datum.kind)

module _ (limit : ℕ) (settings : Settings) (w : Tree) (sound : Sound limit settings w) (x : ℕ) (d : Datum) (there : At x d w)
    (free : d.kind ≡ Free) where
  -- when the free piece has gone
  pub cut-free : (xs : List ℕ) → FreeList w xs → FreeList (less x w) (omit xs x)
  cut-free xs f =
      free-cut (pieces_of w) (pieces_of (less x w)) x xs (λ i e y z n. less-keeps limit settings w sound x d there free i e y n)
      (λ i e y z. (less-was limit settings w sound x d there free i e y).0)
      (λ e y z. less-gone limit settings w sound x d there free (at_in x e (less x w) y)) (less_one limit settings w sound x d there free) f

  module _ (b : Booking) (new : Fresh limit x b w) (last : ℕ) (marked : Serials w last) (next : b.serial ≡ last + 1) (areas : ℕ → ℕ)
      (sized : (i : ℕ) (e : Datum) → At i e (book x b w) → areas i ≡ area e.size) where
    pub booked-free : (q : ℕ) (none : Bool) (xs : List ℕ) → FreeList w xs
        → FreeList (book x b w) (put_all areas (omit xs x) (frees_of (leaves q none (block b d))))
    booked-free q none xs f =
        free-puts (pieces_of (book x b w)) (book-one limit settings w sound x d there free b new) areas sized (leaves q none (block b d))
        b.serial (pieces_of (less x w)) (omit xs x) (book-left limit settings w sound x d there free b)
        (λ i e y. book-new limit settings w sound x d there free b i e (among-at i e (block b d) q none y))
        (λ i e y z. ⊎_elim inl (λ v. inr (at-among i e (block b d) q none v)) (book-pieces limit settings w sound x d there free b i e y))
        (λ i e y. let a = older limit settings w sound x d there free b last marked next i e y in omega arith) (block-counted b d q none)
        (cut-free xs f)
