-- Tidying: an untidy piece wherever it stands, how many structures have no part inside, and that one of these is untidy. Assumes nothing.
use mathlib.Core.Path.{◌≡◌, refl, sym, ◌∙◌, subst}
use mathlib.Core.Bool.{Bool, true, false, false≢true, not, ◌&&◌, and-eq-true_iff, and_assoc}
use mathlib.Core.Logic.{◌⊎◌, inl, inr}
use mathlib.Core.List.{[]}
use Prim.Native.Nat.{ℕ, ◌+◌, ◌≤◌}
use native.Mathlib.Omega.{arith}
use borrow.Author.Tests.{eq-eqb, ne_eqb}
use Rattle.piece.specs.declared.node.Datum.{Datum}
use Rattle.piece.specs.declared.node.Kind.{Kind}
use Rattle.piece.specs.declared.node.Kind.TheVariants.{Free, Part, Structure}
use Rattle.piece.specs.declared.settings.Settings.{Settings}
use Rattle.piece.specs.Row.{nil, grow}
use Rattle.piece.specs.Kinds.{is_free, is_part, is_structure}
use Rattle.tree.specs.Tree.{Tree, In, At, Distinct, after}
use Rattle.tree.specs.Sound.{StructurePiece, Kinded, Children, Topped}
use Rattle.tree.specs.Steps.{Kids}
use Rattle.tree.specs.Removal.{settled, remove, subtree, numbers}
use Rattle.tree.specs.Tidy.{Untidy, partless, is_empty, empty_in, empties, tidy_row}
use Rattle.tree.proofs.Rows.{same?, in-eq}
use Rattle.tree.proofs.Changes.{absent}
use Rattle.tree.proofs.Kept.{Where, where-absent, This, only, free-kind}
use Rattle.tree.proofs.Kids.{kids-in}
use Rattle.tree.proofs.Removals.{settled-past, settled-join}

-- a structure with no part inside; and one with no other such structure inside
abbrev pub Hollow : Datum → Tree → Tree → Type 0
Hollow d k r = (d.kind ≡ Structure) × (partless k ≡ true)

abbrev pub Bare : Datum → Tree → Tree → Type 0
Bare d k r = (d.kind ≡ Structure) × (partless k ≡ true) × (empty_in k ≡ 0)

-- What is known of the piece at a place, wherever it stands.

-- one row of children is below a place
only-kids : (x : ℕ) (m t : Tree) → Distinct t → Kids x m t → Where x (λ d k r. k ≡ m) t
only-kids x m nil u h = tt
only-kids x m (grow y e k r) u (inl h) =
    ((λ z. sym h.1), where-absent x _ k (λ i. u.not_below (in-eq k h.0 i)), where-absent x _ r (λ i. u.not_beside (in-eq r h.0 i)))
only-kids x m (grow y e k r) u (inr (inl h)) =
    let i = kids-in x m k h in
    ((λ z. absurd (u.not_below (in-eq k (sym z) i))), only-kids x m k u.below h, where-absent x _ r (u.apart x i))
only-kids x m (grow y e k r) u (inr (inr h)) =
    let i = kids-in x m r h in
    ((λ z. absurd (u.not_beside (in-eq r (sym z) i))), where-absent x _ k (λ j. u.apart x j i), only-kids x m r u.beside h)

where-both : (x : ℕ) (P Q R : Datum → Tree → Tree → Type 0) → ((d : Datum) (k r : Tree) → P d k r → Q d k r → R d k r) → (t : Tree)
    → Where x P t → Where x Q t → Where x R t
where-both x P Q R f nil v w = tt
where-both x P Q R f (grow y d k r) v w =
    ((λ e. f d k r (v.0 e) (w.0 e)), where-both x P Q R f k v.1 w.1, where-both x P Q R f r v.2 w.2)

pub bare-hollow : (x : ℕ) (t : Tree) → Where x Bare t → Where x Hollow t
bare-hollow x t w = where-both x Bare Bare Hollow (λ d k r a b. (a.0, a.1)) t w w

pub untidy-bare : (x : ℕ) (t : Tree) → Distinct t → Untidy x t → Where x Bare t
untidy-bare x t u a =
    where-both x (This a.piece) (λ d k r. k ≡ grow a.place a.child nil nil) Bare
    (λ d k r e h. rw (e, h, a.free) (a.structure, refl, refl)) t (only x a.piece t u a.there) (only-kids x _ t u a.only)

-- No part.

pub free-is : (a : Kind) → is_free a ≡ true → a ≡ Free
free-is Free e = refl
free-is Part e = absurd (false≢true e)
free-is Structure e = absurd (false≢true e)

pub structure-is : (a : Kind) → is_structure a ≡ true → a ≡ Structure
structure-is Free e = absurd (false≢true e)
structure-is Part e = absurd (false≢true e)
structure-is Structure e = refl

partless-after : (a b : Tree) → partless (after a b) ≡ partless a && partless b
partless-after nil b = refl
partless-after (grow p d k r) b =
    rw (partless-after r b, and_assoc (not (is_part d.kind)) (partless k && partless r) (partless b), and_assoc (partless k) (partless r) (partless b)) refl

-- so no number comes out
partless-numbers : (t : Tree) → partless t ≡ true → numbers t ≡ []
partless-numbers nil h = refl
partless-numbers (grow p d k r) h = go (is_part d.kind) refl (partless-numbers k) (partless-numbers r)
  where
    go : (b : Bool) → is_part d.kind ≡ b → (partless k ≡ true → numbers k ≡ []) → (partless r ≡ true → numbers r ≡ [])
        → numbers (grow p d k r) ≡ []
    go true e ik ir = absurd (false≢true (rw e at h))
    go false e ik ir =
        let a = (and-eq-true_iff (partless k) (partless r)).0 (rw e at h) in
        rw (e, ik a.0, ir a.1) refl

pub subtree-numbers : (x : ℕ) (t : Tree) → Where x Bare t → numbers (subtree x t) ≡ []
subtree-numbers x t w = partless-numbers (subtree x t) (go t w)
  where
    go : (t : Tree) → Where x Bare t → partless (subtree x t) ≡ true
    go nil w = refl
    go (grow y d k r) w = at (same? y x) (go k w.1) (go r w.2)
      where
        at : (y ≡ x) ⊎ (y ≡ x → ⊥) → partless (subtree x k) ≡ true → partless (subtree x r) ≡ true → partless (subtree x (grow y d k r)) ≡ true
        at (inl e) ik ir = let b = w.0 e in rw (eq-eqb y x e, b.0, b.1) refl
        at (inr m) ik ir = rw (ne_eqb y x m, partless-after (subtree x k) (subtree x r), ik, ir) refl

-- A row from which a structure with no part inside went.
module _ (settings : Settings) (n s : ℕ) where
  -- the board that settles is free: it brings no part, and no structure
  settled-partless : (q d : Datum) (r : Tree) → Children settings q r → partless (settled n s d r) ≡ partless r
  unfolding settled
  settled-partless q d nil w = refl
  settled-partless q d (grow z e l r) w = go (is_free e.kind) refl (settled-partless q d r w.beside)
    where
      go : (b : Bool) → is_free e.kind ≡ b → partless (settled n s d r) ≡ partless r → partless (settled n s d (grow z e l r)) ≡ partless (grow z e l r)
      go true f ih =
          let p = free-kind e.kind e l r f w.kinded in
          rw (p.childless, p.last, settled-join n s d z e f, free-is e.kind f) refl
      go false f ih = rw (settled-past n s d z e l r f, ih) refl

  settled-empty : (q d : Datum) (r : Tree) → Children settings q r → empty_in (settled n s d r) ≡ empty_in r
  unfolding settled
  settled-empty q d nil w = refl
  settled-empty q d (grow z e l r) w = go (is_free e.kind) refl (settled-empty q d r w.beside)
    where
      go : (b : Bool) → is_free e.kind ≡ b → empty_in (settled n s d r) ≡ empty_in r → empty_in (settled n s d (grow z e l r)) ≡ empty_in (grow z e l r)
      go true f ih =
          let p = free-kind e.kind e l r f w.kinded in
          rw (p.childless, p.last, settled-join n s d z e f, free-is e.kind f) refl
      go false f ih = rw (settled-past n s d z e l r f, ih) refl

  module _ (x : ℕ) where
    pub remove-partless : (q : Datum) (r : Tree) → Children settings q r → Where x Hollow r → partless (remove x n s r) ≡ partless r
    remove-partless q nil w h = refl
    remove-partless q (grow p d k r) w h = go (same? p x) (remove-partless d k w.below h.1) (remove-partless q r w.beside h.2)
      where
        go : (p ≡ x) ⊎ (p ≡ x → ⊥) → partless (remove x n s k) ≡ partless k → partless (remove x n s r) ≡ partless r
            → partless (remove x n s (grow p d k r)) ≡ partless (grow p d k r)
        go (inl e) ik ir = let b = h.0 e in rw (eq-eqb p x e, settled-partless q d r w.beside, b.0, b.1) refl
        go (inr m) ik ir = rw (ne_eqb p x m, ik, ir) refl

    -- one less of them
    row_count : (q : Datum) (r : Tree) → Children settings q r → Distinct r → In x r → Where x Bare r → 1 + empty_in (remove x n s r) ≡ empty_in r
    row_count q nil w u i h = absurd i
    row_count q (grow p d k r) w u i h =
        go (same? p x) i (λ j. row_count d k w.below u.below j h.1) (λ j. row_count q r w.beside u.beside j h.2)
      where
        go : (p ≡ x) ⊎ (p ≡ x → ⊥) → In x (grow p d k r) → (In x k → 1 + empty_in (remove x n s k) ≡ empty_in k)
            → (In x r → 1 + empty_in (remove x n s r) ≡ empty_in r) → 1 + empty_in (remove x n s (grow p d k r)) ≡ empty_in (grow p d k r)
        go (inl e) j ik ir =
            let b = h.0 e in
            let z = settled-empty q d r w.beside in
            rw (eq-eqb p x e, z, b.0, b.1) (omega (arith, b.2))
        go (inr m) (inl e) ik ir = absurd (m (sym e))
        go (inr m) (inr (inl j)) ik ir =
            let z = ik j in
            let v = remove-partless d k w.below (bare-hollow x k h.1) in
            rw (ne_eqb p x m, absent x (settled n s) r (u.apart x j), v) (omega arith)
        go (inr m) (inr (inr j)) ik ir = let z = ir j in rw (ne_eqb p x m, absent x (settled n s) k (λ o. u.apart x o j)) (omega arith)

    pub tree-count : (t : Tree) → Topped settings t → Distinct t → In x t → (x ≡ 0 → ⊥) → Where x Bare t → 1 + empties (remove x n s t) ≡ empties t
    tree-count nil h u i m w = absurd i
    tree-count (grow p d k r) h u i m w = rw (ne_eqb p x (λ e. m (sym e ∙ h.0.place))) (row_count d k h.1 u.below (go i) w.1)
      where
        go : In x (grow p d k r) → In x k
        go (inl e) = absurd (m (e ∙ h.0.place))
        go (inr (inl j)) = j
        go (inr (inr j)) = absurd (rw h.0.alone at j)

-- Where there is a structure with no part inside, one of them is untidy.

-- an untidy piece of a row
pub record Found (t : Tree) : Type 0 where
  pub at : ℕ
  pub piece : Datum
  pub there : At at piece t
  pub structure : piece.kind ≡ Structure
  pub place : ℕ
  pub child : Datum
  pub only : Kids at (grow place child nil nil) t
  pub free : child.kind ≡ Free

found : (v t : Tree) → ((i : ℕ) (e : Datum) → At i e v → At i e t) → ((q : ℕ) (k : Tree) → Kids q k v → Kids q k t) → Found v → Found t
found v t f g h =
    record {
      at = h.at;
      piece = h.piece;
      there = f h.at h.piece h.there;
      structure = h.structure;
      place = h.place;
      child = h.child;
      only = g h.at (grow h.place h.child nil nil) h.only;
      free = h.free;
    }

some? : (n : ℕ) → (n ≡ 0) ⊎ (1 ≤ n)
some? n = go (same? n 0)
  where
    go : (n ≡ 0) ⊎ (n ≡ 0 → ⊥) → (n ≡ 0) ⊎ (1 ≤ n)
    go (inl e) = inl e
    go (inr m) = inr (omega arith)

-- with no other inside, it has one child, and that is free
lone : (settings : Settings) (q : Datum) (k : Tree) → Children settings q k → partless k ≡ true → empty_in k ≡ 0 → (k ≡ nil → ⊥)
    → (c : ℕ) × (e : Datum) × (k ≡ grow c e nil nil) × (e.kind ≡ Free)
lone settings q nil w h z n = absurd (n refl)
lone settings q (grow c e l m) w h z n = go e.kind refl w.kinded
  where
    go : (a : Kind) → e.kind ≡ a → Kinded a e l m → (c' : ℕ) × (e' : Datum) × (grow c e l m ≡ grow c' e' nil nil) × (e'.kind ≡ Free)
    go Free f p = (c, e, rw (p.childless, p.last) refl, f)
    go Part f p = absurd (false≢true (rw f at h))
    go Structure f p =
        let a = (and-eq-true_iff (partless l) (partless m)).0 (rw f at h) in
        absurd (omega (arith, rw (f, a.0) at z))

pub find : (settings : Settings) (q : Datum) (r : Tree) → Children settings q r → 1 ≤ empty_in r → Found r
find settings q nil w h = absurd (omega arith)
find settings q (grow p d k r) w h =
    go (some? (empty_in k)) (some? (empty_in r)) (is_empty d k) refl (find settings d k w.below) (find settings q r w.beside)
  where
    go : (empty_in k ≡ 0) ⊎ (1 ≤ empty_in k) → (empty_in r ≡ 0) ⊎ (1 ≤ empty_in r) → (b : Bool) → is_empty d k ≡ b
        → (1 ≤ empty_in k → Found k) → (1 ≤ empty_in r → Found r) → Found (grow p d k r)
    go (inr y) z b e fk fr = found k (grow p d k r) (λ i c o. inr (inl o)) (λ i l o. inr (inl o)) (fk y)
    go (inl y) (inr z) b e fk fr = found r (grow p d k r) (λ i c o. inr (inr o)) (λ i l o. inr (inr o)) (fr z)
    go (inl y) (inl z) false e fk fr = absurd (omega (arith, rw e at h))
    go (inl y) (inl z) true e fk fr =
        let a = (and-eq-true_iff (is_structure d.kind) (partless k)).0 e in
        let f = structure-is d.kind a.0 in
        let g : StructurePiece d k = subst (λ (κ : Kind). Kinded κ d k r) f w.kinded in
        let l = lone settings d k w.below a.1 y g.parent in
        record {
          at = p;
          piece = d;
          there = inl (refl, refl);
          structure = f;
          place = l.0;
          child = l.1;
          only = inl (refl, sym l.2);
          free = l.3;
        }

-- where there is none, nothing is left to do
pub tidy-row : (r : Tree) → empty_in r ≡ 0 → tidy_row r ≡ r
tidy-row nil h = refl
tidy-row (grow p d k r) h = go (is_empty d k) refl (tidy-row k) (tidy-row r)
  where
    go : (b : Bool) → is_empty d k ≡ b → (empty_in k ≡ 0 → tidy_row k ≡ k) → (empty_in r ≡ 0 → tidy_row r ≡ r) → tidy_row (grow p d k r) ≡ grow p d k r
    go true e ik ir = absurd (omega (arith, rw e at h))
    go false e ik ir = let z : empty_in k + empty_in r ≡ 0 = omega (arith, rw e at h) in rw (e, ik (omega arith), ir (omega arith)) refl
