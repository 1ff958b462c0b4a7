-- The steps on a list that holds the places of the pieces of which P holds, each once, where the pieces change with it. Where one such piece is
-- new, its place is pushed; where such pieces are gone, their places are struck out. The list then holds those that there are. And such a list
-- is no longer than the tree has pieces. Assumes nothing.
use mathlib.Core.Path.{◌≡◌, refl, sym, ap, ◌∙◌}
use mathlib.Core.List.{List, [], ◌∷◌}
use mathlib.Core.Logic.{◌⊎◌, inl, inr, ⊎_elim}
use Prim.Native.Nat.{ℕ, ◌<◌, ◌≤◌}
use native.Mathlib.Omega.{arith}
use lib.ListN.{get_or, length}
use Rattle.piece.specs.declared.node.Datum.{Datum}
use Rattle.piece.specs.Row.{nil, grow}
use Rattle.lists.specs.Lists.{limit}
use Rattle.tree.specs.Tree.{Tree, At, In, count}
use Rattle.tree.specs.ListSteps.{spot, omit, strike, push, strike_all, Names}
use Rattle.tree.specs.Pieces.{Pieces, pieces_of, Holding}
use Rattle.tree.proofs.ListSteps.{Absent, spot-case, cut-absent, strike-absent}
use Rattle.tree.proofs.ListSteps.{Up, down-of, up_of, up-order, Wider, up_in, down-in, push-wider, Fewer, cut-fewer, strike-fewer}
use Rattle.tree.proofs.Rows.{at_in}
use Rattle.layout_nodes.specs.Inner.{Single}
use Rattle.tree.proofs.Pigeon.{low-filled, low-most}

-- ---- the same pieces

pub holding-same : (P : Datum → Type 0) (A A' : Pieces) (xs : List ℕ)
    → ((i : ℕ) (e : Datum) → A i e → P e → A' i e)
    → ((i : ℕ) (e : Datum) → A' i e → P e → A i e)
    → Holding P A xs → Holding P A' xs
holding-same P A A' xs old back h =
    record {
      each = λ k b. let g = h.each k b in (g.0, old (get_or xs k 0) g.0 g.1 g.2, g.2);
      all = λ i e y q. h.all i e (back i e y q) q;
      once = h.once;
    }

-- ---- one piece more

-- the pieces of which P holds are those of before and the piece d at p
module _ (P : Datum → Type 0) (A A' : Pieces) (p : ℕ) (d : Datum)
    (old : (i : ℕ) (e : Datum) → A i e → P e → A' i e)
    (split : (i : ℕ) (e : Datum) → A' i e → P e → A i e ⊎ ((i ≡ p) × (e ≡ d)))
    (there : A' p d) (is : P d) (fresh : (e : Datum) → A p e → P e → ⊥) where
  -- no entry is the new place
  pub holding-apart : (xs : List ℕ) → Holding P A xs → Absent p xs
  holding-apart xs h i b e = let g = h.each i b in fresh g.0 (rw e at g.1) g.2

  -- the new place is put in anywhere
  pub holding-wider : (k : ℕ) (xs ys : List ℕ) → Wider k p xs ys → Holding P A xs → Holding P A' ys
  holding-wider k xs ys v h = record { each = each; all = all; once = once }
    where
      each : (j : ℕ) → j < length ys → (e : Datum) × A' (get_or ys j 0) e × P e
      each j b = go (down-of k j)
        where
          go : (j ≡ k) ⊎ ((i : ℕ) × Up k i j) → (e : Datum) × A' (get_or ys j 0) e × P e
          go (inl e) = rw (e, v.here) (d, there, is)
          go (inr u) =
              let g = h.each u.0 (down-in k p xs ys v u.0 j u.1 b) in
              rw (v.moved u.0 j u.1) (g.0, old (get_or xs u.0 0) g.0 g.1 g.2, g.2)

      all : (i : ℕ) (e : Datum) → A' i e → P e → (j : ℕ) × (j < length ys) × (get_or ys j 0 ≡ i)
      all i e y q = go (split i e y q)
        where
          go : A i e ⊎ ((i ≡ p) × (e ≡ d)) → (j : ℕ) × (j < length ys) × (get_or ys j 0 ≡ i)
          go (inl a) =
              let g = h.all i e a q in
              let u = up_of k g.0 in
              (u.0, up_in k p xs ys v g.0 u.0 u.1 g.1, v.moved g.0 u.0 u.1 ∙ g.2)
          go (inr a) = let s = v.fits in let t = v.more in (k, omega arith, v.here ∙ sym a.0)

      -- an old entry is not the new one
      other : (i j m : ℕ) → Up k m j → j < length ys → i ≡ k → get_or ys i 0 ≡ get_or ys j 0 → ⊥
      other i j m u b s e =
          holding-apart xs h m (down-in k p xs ys v m j u b) (sym (v.moved m j u) ∙ sym e ∙ ap (λ (n : ℕ). get_or ys n 0) s ∙ v.here)

      once : (i j : ℕ) → i < length ys → j < length ys → get_or ys i 0 ≡ get_or ys j 0 → i ≡ j
      once i j a b e = go (down-of k i) (down-of k j)
        where
          go : (i ≡ k) ⊎ ((m : ℕ) × Up k m i) → (j ≡ k) ⊎ ((n : ℕ) × Up k n j) → i ≡ j
          go (inl s) (inl t) = s ∙ sym t
          go (inl s) (inr t) = absurd (other i j t.0 t.1 b s e)
          go (inr s) (inl t) = absurd (other j i s.0 s.1 a t (sym e))
          go (inr s) (inr t) =
              (up-order k s.0 i t.0 j s.1 t.1).2
              (h.once s.0 t.0 (down-in k p xs ys v s.0 i s.1 a) (down-in k p xs ys v t.0 j t.1 b)
              (sym (v.moved s.0 i s.1) ∙ e ∙ v.moved t.0 j t.1))

pub holding-push : (P : Datum → Type 0) (A A' : Pieces) (xs : List ℕ) (p : ℕ) (d : Datum)
    → ((i : ℕ) (e : Datum) → A i e → P e → A' i e)
    → ((i : ℕ) (e : Datum) → A' i e → P e → A i e ⊎ ((i ≡ p) × (e ≡ d)))
    → A' p d → P d → ((e : Datum) → A p e → P e → ⊥)
    → Holding P A xs → Holding P A' (push xs p)
holding-push P A A' xs p d old split there is fresh =
    holding-wider P A A' p d old split there is fresh (length xs) xs (push xs p) (push-wider xs p)

-- ---- one piece fewer

-- the pieces of which P holds are those of before but for the one at x
module _ (P : Datum → Type 0) (A A' : Pieces) (x : ℕ) (xs : List ℕ)
    (old : (i : ℕ) (e : Datum) → A i e → P e → (i ≡ x → ⊥) → A' i e)
    (back : (i : ℕ) (e : Datum) → A' i e → P e → A i e × (i ≡ x → ⊥))
    (h : Holding P A xs) where
  fewer : (k : ℕ) → k < length xs → get_or xs k 0 ≡ x → (ys : List ℕ) → Fewer k xs ys → Holding P A' ys
  fewer k inside here ys v = record { each = each; all = all; once = once }
    where
      each : (j : ℕ) → j < length ys → (e : Datum) × A' (get_or ys j 0) e × P e
      each j b =
          let f = v.stood j b in
          let g = h.each f.0 f.1 in
          let n : get_or xs f.0 0 ≡ x → ⊥ = λ q. f.2 (h.once f.0 k f.1 inside (q ∙ sym here)) in
          rw f.3 (g.0, old (get_or xs f.0 0) g.0 g.1 g.2 n, g.2)

      all : (i : ℕ) (e : Datum) → A' i e → P e → (j : ℕ) × (j < length ys) × (get_or ys j 0 ≡ i)
      all i e y q =
          let z = back i e y q in
          let g = h.all i e z.0 q in
          let n : g.0 ≡ k → ⊥ = λ r. z.1 (sym g.2 ∙ ap (λ (o : ℕ). get_or xs o 0) r ∙ here) in
          let s = v.stays g.0 g.1 n in
          (s.0, s.1, s.2 ∙ g.2)

      once : (i j : ℕ) → i < length ys → j < length ys → get_or ys i 0 ≡ get_or ys j 0 → i ≡ j
      once i j a b z =
          let f = v.stood i a in
          let g = v.stood j b in
          v.apart i j a b (h.once f.0 g.0 f.1 g.1 (sym f.3 ∙ z ∙ g.3))

  -- no piece of which P holds stood at x
  unchanged : Absent x xs → Holding P A' xs
  unchanged absent =
      holding-same P A A' xs
      (λ i e y q. old i e y q (λ s. let g = h.all i e y q in absent g.0 g.1 (g.2 ∙ s))) (λ i e y q. (back i e y q).0) h

  pub holding-cut : Holding P A' (omit xs x)
  holding-cut =
      ⊎_elim (λ s. fewer (spot xs x) s.0 s.1 (omit xs x) (cut-fewer xs x s.0))
      (λ absent. rw (cut-absent xs x absent) (unchanged absent)) (spot-case xs x)

  pub holding-strike : Holding P A' (strike xs x)
  holding-strike =
      ⊎_elim (λ s. fewer (spot xs x) s.0 s.1 (strike xs x) (strike-fewer xs x s.0))
      (λ absent. rw (strike-absent xs x absent) (unchanged absent)) (spot-case xs x)

-- several places; half way through, the pieces are those of A but for the places that are done
pub holding-strike-all : (P : Datum → Type 0) (A A' : Pieces) (ps xs : List ℕ)
    → ((i : ℕ) (e : Datum) → A i e → P e → (Names i ps → ⊥) → A' i e)
    → ((i : ℕ) (e : Datum) → A' i e → P e → A i e × (Names i ps → ⊥))
    → Holding P A xs → Holding P A' (strike_all xs ps)
holding-strike-all P A A' [] xs old back h =
    holding-same P A A' xs (λ i e y q. old i e y q (λ n. n)) (λ i e y q. (back i e y q).0) h
holding-strike-all P A A' (p ∷ ps) xs old back h =
    holding-strike-all P (λ i e. A i e × (i ≡ p → ⊥)) A' ps (strike xs p)
    (λ i e y q n. old i e y.0 q (λ m. ⊎_elim y.1 n m))
    (λ i e y q. let b = back i e y q in ((b.0, λ s. b.1 (inl s)), λ n. b.1 (inr n)))
    (holding-strike P A (λ i e. A i e × (i ≡ p → ⊥)) p xs (λ i e y q o. (y, o)) (λ i e y q. y) h)

-- ---- no longer than the tree has pieces

-- the tree with each place named anew
abbrev renamed : (ℕ → ℕ) → Tree → Tree
renamed f nil = nil
renamed f (grow p d k r) = grow (f p) d (renamed f k) (renamed f r)

renamed-count : (f : ℕ → ℕ) (w : Tree) → count (renamed f w) ≡ count w
renamed-count f nil = refl
renamed-count f (grow p d k r) = omega (arith, renamed-count f k, renamed-count f r)

renamed-in : (f : ℕ → ℕ) (i : ℕ) (e : Datum) (w : Tree) → At i e w → In (f i) (renamed f w)
renamed-in f i e nil y = y
renamed-in f i e (grow p d k r) (inl y) = inl (ap f y.0)
renamed-in f i e (grow p d k r) (inr (inl y)) = inr (inl (renamed-in f i e k y))
renamed-in f i e (grow p d k r) (inr (inr y)) = inr (inr (renamed-in f i e r y))

-- a tree that has each place below n has no fewer pieces
filled : (n : ℕ) (w : Tree) → ((i : ℕ) → i < n → In i w) → n ≤ count w
filled n w full = omega (arith, low-filled 0 n w (omega arith) (λ j a b. full j b), low-most n w)

module _ (P : Datum → Type 0) (w : Tree) (l : List ℕ) (h : Holding P (pieces_of w) l) where
  -- each entry is found at its index
  spot_back : (k : ℕ) → k < length l → spot l (get_or l k 0) ≡ k
  spot_back k b =
      ⊎_elim (λ s. h.once (spot l (get_or l k 0)) k s.0 b s.1) (λ absent. absurd (absent k b refl)) (spot-case l (get_or l k 0))

  -- the tree is named by where its places stand in the list
  pub holding-most : length l ≤ count w
  holding-most =
      rw (renamed-count (spot l) w) at
      (filled (length l) (renamed (spot l) w)
      (λ k b. let g = h.each k b in
      rw (spot_back k b) at (renamed-in (spot l) (get_or l k 0) g.0 w g.1)))

  -- each entry is a place, and none stands twice
  pub holding-single : ((p : ℕ) → In p w → p < limit) → Single l
  holding-single placed =
      record {
        low = λ k b. let g = h.each k b in placed (get_or l k 0) (at_in (get_or l k 0) g.0 w g.1);
        once = h.once;
      }
