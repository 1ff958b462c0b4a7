-- A tree whose pieces at one place give way to another row: what of a sound tree is kept. Booking and removal are both of this kind.
use mathlib.Core.Path.{◌≡◌, refl, sym, ap, ◌∙◌}
use mathlib.Core.Bool.{true}
use mathlib.Core.Logic.{◌⊎◌, inl, inr}
use Prim.Native.Nat.{ℕ, ◌+◌, ◌≤◌}
use native.Mathlib.Omega.{arith}
use borrow.Author.Tests.{eq-eqb, ne_eqb}
use Rattle.piece.specs.declared.node.Datum.{Datum}
use Rattle.piece.specs.declared.node.Kind.{Kind}
use Rattle.piece.specs.declared.node.Kind.TheVariants.{Free, Part, Structure}
use Rattle.piece.specs.declared.settings.Settings.{Settings}
use Rattle.piece.specs.Sides.{other}
use Rattle.piece.specs.Row.{nil, grow}
use Rattle.piece.specs.Kinds.{is_free}
use Rattle.tree.specs.Tree.{Tree, In, At, Distinct, count, change}
use Rattle.tree.specs.Sound.{reach, extent, FreePiece, StructurePiece, Kinded, Children, Topped}
use Rattle.tree.proofs.Rows.{same?, in-eq, at_in}
use Rattle.tree.proofs.Pieces.{free-piece, part-piece, structure-piece, top}

-- the pieces at the place x, each with its children and its later siblings, are such
abbrev pub Where : ℕ → (Datum → Tree → Tree → Type 0) → Tree → Type 0
Where x P nil = Unit {0}
Where x P (grow y d k r) = (y ≡ x → P d k r) × Where x P k × Where x P r

pub where-absent : (x : ℕ) (P : Datum → Tree → Tree → Type 0) (t : Tree) → (In x t → ⊥) → Where x P t
where-absent x P nil n = tt
where-absent x P (grow y d k r) n =
    ((λ e. absurd (n (inl (sym e)))), where-absent x P k (λ h. n (inr (inl h))), where-absent x P r (λ h. n (inr (inr h))))

-- a piece is d; and if d is a free piece it has no children and is last
abbrev pub This : Datum → Datum → Tree → Tree → Type 0
This d e k r = e ≡ d

abbrev pub Alone : Datum → Datum → Tree → Tree → Type 0
Alone d e k r = (e ≡ d) × (k ≡ nil) × (r ≡ nil)

-- one piece stands at a place
pub only : (x : ℕ) (d : Datum) (t : Tree) → Distinct t → At x d t → Where x (This d) t
only x d nil u h = tt
only x d (grow y e k r) u (inl h) =
    ((λ z. sym h.1), where-absent x _ k (λ i. u.not_below (in-eq k h.0 i)), where-absent x _ r (λ i. u.not_beside (in-eq r h.0 i)))
only x d (grow y e k r) u (inr (inl h)) =
    let i = at_in x d k h in
    ((λ z. absurd (u.not_below (in-eq k (sym z) i))), only x d k u.below h, where-absent x _ r (u.apart x i))
only x d (grow y e k r) u (inr (inr h)) =
    let i = at_in x d r h in
    ((λ z. absurd (u.not_beside (in-eq r (sym z) i))), where-absent x _ k (λ j. u.apart x j i), only x d r u.beside h)

-- what holds of them follows from their being children of a parent
where-children : (settings : Settings) (x : ℕ) (P Q : Datum → Tree → Tree → Type 0)
    → ((q d : Datum) (y : ℕ) (k r : Tree) → P d k r → Children settings q (grow y d k r) → Q d k r)
    → (q : Datum) (t : Tree) → Children settings q t → Where x P t → Where x Q t
where-children settings x P Q f q nil h w = tt
where-children settings x P Q f q (grow y d k r) h w =
    ((λ e. f q d y k r (w.0 e) h), where-children settings x P Q f d k h.below w.1, where-children settings x P Q f q r h.beside w.2)

-- the top is no free piece
pub not_top : (settings : Settings) (x : ℕ) (d : Datum) (t : Tree) → Topped settings t → Where x (This d) t → d.kind ≡ Free
    → x ≡ 0 → ⊥
not_top settings x d nil h w a e = h
not_top settings x d (grow p c k r) h w a e =
    let same : c ≡ d = w.0 (h.0.place ∙ sym e) in
    let solid : c.kind ≡ Structure = h.0.kind in
    let z : ◌≡◌ {A = ℕ} 0 1 = cc in
    omega arith

pub free-kind : (a : Kind) (d : Datum) (k r : Tree) → is_free a ≡ true → Kinded a d k r → FreePiece d k r
free-kind Free d k r e h = h
free-kind Part d k r e h = let z : ◌≡◌ {A = ℕ} 0 1 = cc in absurd (omega arith)
free-kind Structure d k r e h = let z : ◌≡◌ {A = ℕ} 0 1 = cc in absurd (omega arith)

pub free-alone : (settings : Settings) (x : ℕ) (d : Datum) (t : Tree) → Topped settings t → Distinct t → At x d t → d.kind ≡ Free
    → Where x (Alone d) t
free-alone settings x d nil h u i a = tt
free-alone settings x d (grow p c k r) h u i a =
    let w = only x d (grow p c k r) u i in (
      (λ z. absurd (not_top settings x d (grow p c k r) h w a (sym z ∙ h.0.place))),
      where-children settings x (This d) (Alone d) alone c k h.1 w.1,
      rw h.0.alone tt,
    )
  where
    alone : (q e : Datum) (y : ℕ) (l m : Tree) → e ≡ d → Children settings q (grow y e l m) → Alone d e l m
    alone q e y l m z g = let f = free-kind e.kind e l m (cc) g.kinded in (z, f.childless, f.last)

-- a row of children of q may give way to another one
pub record Exchange (settings : Settings) (q : Datum) (u v : Tree) : Type 0 where
  pub children : Children settings q v
  pub same : extent (other q.cut) v ≡ extent (other q.cut) u
  pub some : 1 ≤ count u → 1 ≤ count v

count-some : (t : Tree) → (t ≡ nil → ⊥) → 1 ≤ count t
count-some nil n = absurd (n refl)
count-some (grow p d k r) n = omega arith

-- a row that gives way to none is none
count_none : (u v : Tree) → (1 ≤ count u → 1 ≤ count v) → v ≡ nil → u ≡ nil
count_none nil v f e = refl
count_none (grow p d k r) v f e = absurd (omega (arith, f (omega arith), ap count e))

module _ (settings : Settings) (x : ℕ) (f : Datum → Tree → Tree) (P : Datum → Tree → Tree → Type 0)
    (local : (q d : Datum) (y : ℕ) (k r : Tree) → P d k r → Children settings q (grow y d k r) → Exchange settings q (grow y d k r) (f d r)) where
  kept-structure : (d : Datum) (k : Tree) → StructurePiece d k → Exchange settings d k (change x f k) → StructurePiece d (change x f k)
  kept-structure d k h e =
      structure-piece (e.some (count-some k h.parent)) h.sided (e.same ∙ h.filled) h.unnumbered

  kept-kind : (a : Kind) (d : Datum) (k r : Tree) → Kinded a d k r → Exchange settings d k (change x f k) → Kinded a d (change x f k) (change x f r)
  kept-kind Free d k r h e = free-piece (ap (change x f) h.childless) (ap (change x f) h.last) h.unnumbered
  kept-kind Part d k r h e = part-piece (ap (change x f) h.childless) h.sided h.numbered
  kept-kind Structure d k r h e = kept-structure d k h e

  pub exchange : (q : Datum) (t : Tree) → Where x P t → Children settings q t → Exchange settings q t (change x f t)
  exchange q nil w h = record { children = tt; same = refl; some = λ z. z }
  exchange q (grow y d k r) w h = go (same? y x) (exchange d k w.1 h.below) (exchange q r w.2 h.beside)
    where
      go : (y ≡ x) ⊎ (y ≡ x → ⊥) → Exchange settings d k (change x f k) → Exchange settings q r (change x f r)
          → Exchange settings q (grow y d k r) (change x f (grow y d k r))
      go (inl e) a b = rw (eq-eqb y x e) (local q d y k r (w.0 e) h)
      go (inr n) a b =
          rw (ne_eqb y x n)
          (record {
            children = record {
              child = h.child;
              kinded = kept-kind d.kind d k r h.kinded a;
              ends = λ z. h.ends (count_none r (change x f r) b.some z);
              below = a.children;
              beside = b.children;
            };
            same = ap (λ (z : ℕ). reach (other q.cut) d + z) b.same;
            some = λ z. omega arith;
          })

  pub topped : (t : Tree) → Topped settings t → (x ≡ 0 → ⊥) → Where x P t → Topped settings (change x f t)
  topped nil h n w = h
  topped (grow p d k r) h n w =
      let e = exchange d k w.1 h.1 in
      rw (ne_eqb p x (λ z. n (sym z ∙ h.0.place))) (
        top h.0.place (ap (change x f) h.0.alone) h.0.level h.0.kind h.0.size h.0.eaten (kept-structure d k h.0.piece e),
        e.children,
      )
