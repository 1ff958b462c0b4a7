-- Many deeds at once: one of them done first, and then the others at once, gives what all of them at once give, but for the marks. Assumes nothing.
use mathlib.Core.Path.{◌≡◌, refl, sym, ◌∙◌}
use mathlib.Core.Bool.{Bool, true, false}
use mathlib.Core.List.{List, ◌∷◌}
use mathlib.Core.Logic.{◌⊎◌, inl, inr}
use mathlib.Core.Option.{Option, none, some}
use Prim.Native.Nat.{ℕ}
use native.Mathlib.Omega.{arith}
use borrow.Author.Tests.{eq-eqb, ne_eqb}
use Rattle.piece.specs.declared.node.Datum.{Datum}
use Rattle.piece.specs.declared.node.Kind.TheVariants.{Free, Structure}
use Rattle.piece.specs.declared.settings.Settings.{Settings}
use Rattle.piece.specs.Row.{nil, grow}
use Rattle.piece.specs.Kinds.{is_free}
use Rattle.tree.specs.Tree.{Tree, In, Distinct, after, change}
use Rattle.tree.specs.Sound.{Child, Children, Sound}
use Rattle.tree.specs.Snapshot.{shape}
use Rattle.tree.specs.Booking.{block}
use Rattle.tree.specs.Removal.{without_last, settled, cleared}
use Rattle.tree.specs.AtOnce.{Deed, books, takes, does, leaves, Suits, AlikeDeed, Task, deed_at, Suited, Spared, put, at_once}
use Rattle.tree.proofs.Rows.{same?, in-eq}
use Rattle.tree.proofs.Shapes.{shape-after}
use Rattle.tree.proofs.Kept.{Where, where-absent, free-kind}
use Rattle.tree.proofs.Counts.{in-cleared}
use Rattle.tree.proofs.Bookings.{block-clear, booked-alike}
use Rattle.tree.proofs.Removals.{settled-alike}
use Rattle.tree.proofs.Settles.{Keeps, TakesOut, settles, settled-shape}

-- a deed sees no marks in what is beside its piece
pub does-shape : (f : Deed) (d : Datum) (u v : Tree) → shape u ≡ shape v → shape (does f d u) ≡ shape (does f d v)
does-shape (books b) d u v e = simp shape-after (rw e)
does-shape (takes n s) d u v e = settled-shape n s d u v e

-- and makes the same whatever marks it gives
pub does-alike : (f g : Deed) → AlikeDeed f g → (d : Datum) (r : Tree) → shape (does f d r) ≡ shape (does g d r)
does-alike (books b) (books c) a d r = booked-alike a d r
does-alike (books b) (takes n s) a d r = absurd a
does-alike (takes n s) (books c) a d r = absurd a
does-alike (takes n s) (takes m u) a d r = settled-alike n s m u d r

-- a free piece of this row stands at i
abbrev FreeIn : ℕ → Tree → Type 0
FreeIn i nil = ⊥
FreeIn i (grow p d k r) = ((i ≡ p) × (is_free d.kind ≡ true)) ⊎ FreeIn i r

-- for no free piece of the row has the list a deed
abbrev Idle : List Task → Tree → Type 0
Idle ts r = (i : ℕ) → FreeIn i r → deed_at i ts ≡ none

module _ (ts : List Task) where
  -- nothing is done in a row where the list has nothing
  idle : (w : Tree) → ((i : ℕ) → In i w → deed_at i ts ≡ none) → at_once ts w ≡ w
  idle nil h = refl
  idle (grow p d k r) h = rw (h p (inl refl), idle k (λ i g. h i (inr (inl g))), idle r (λ i g. h i (inr (inr g)))) refl

  idle-after : (u v : Tree) → ((i : ℕ) → In i u → deed_at i ts ≡ none) → at_once ts (after u v) ≡ after u (at_once ts v)
  idle-after nil v h = refl
  idle-after (grow p d k r) v h = rw (h p (inl refl), idle k (λ i g. h i (inr (inl g))), idle-after r v (λ i g. h i (inr (inr g)))) refl

  -- The piece d of a row of q's children is taken out, and then the rest is done behind it; or that is done first. A free piece of the row is in the way of
  -- neither, if nothing is booked there.
  taken-first : (settings : Settings) (n s n' s' : ℕ) (q d : Datum) → Child settings q d → deed_at n ts ≡ none → (r : Tree) → Children settings q r
      → Suited ts r → Idle ts r → shape (at_once ts (settled n s d r)) ≡ shape (settled n' s' d (at_once ts r))
  taken-first settings n s n' s' q d a new r w o u =
      settles settings n s n' s' q d a (at_once ts) (λ v. Suited ts v × Idle ts v)
      (λ p e k v h. ((λ y g f z at. h.0 y g f z (inr (inr at))), λ i z. h.1 i (inr z))) refl (λ z. rw new refl)
      (λ p e f h. rw (h.1 p (inl (refl, f))) refl) (λ p e k v f h. go p e k f (λ g z. h.0 p g e z (inl (refl, refl))) (deed_at p ts) refl) r w (o, u)
    where
      go : (p : ℕ) (e : Datum) (k : Tree) → is_free e.kind ≡ false → ((g : Deed) → deed_at p ts ≡ some g → Suits g p e) → (f : Option Deed)
          → deed_at p ts ≡ f → Keeps (at_once ts) p e k ⊎ TakesOut (at_once ts) p e k
      go p e k b h none z = inl (at_once ts k, λ v. rw z refl)
      go p e k b h (some (takes m u)) z = inr (m, u, λ v. rw z refl)
      go p e k b h (some (books c)) z = let free : e.kind ≡ Free = h (books c) z in let no : ◌≡◌ {A = ℕ} 0 1 = cc in absurd (omega arith)

-- nor for one among the later siblings r of a piece that f takes out
abbrev Unbooked : Deed → List Task → Tree → Type 0
Unbooked (books b) ts r = Unit {0}
Unbooked (takes n s) ts r = Idle ts r

-- the list has nothing for a place, if it would be wrong to
nothing-at : (i : ℕ) (ts : List Task) → ((g : Deed) → deed_at i ts ≡ some g → ⊥) → deed_at i ts ≡ none
nothing-at i ts h = go (deed_at i ts) refl
  where
    go : (o : Option Deed) → deed_at i ts ≡ o → deed_at i ts ≡ none
    go none e = e
    go (some g) e = absurd (h g e)

-- at a row that begins with the piece of f
at_head : (settings : Settings) (f : Deed) (ts : List Task) → Spared f ts → (q d : Datum) (r : Tree) → Child settings q d → Children settings q r
    → Suited ts r → Unbooked f ts r → shape (at_once ts (does f d r)) ≡ shape (does f d (at_once ts r))
at_head settings (books b) ts spared q d r c w o u =
    rw (idle-after ts (block b d) r (λ i h. nothing-at i ts (λ g z. block-clear i b (spared i g z) d h))) refl
at_head settings (takes n s) ts spared q d r c w o u =
    taken-first ts settings n s n s q d c (nothing-at n ts (λ g z. spared n g z refl)) r w o u

module _ (settings : Settings) (x : ℕ) (f f' : Deed) (same : AlikeDeed f f') (ts : List Task) (spared : Spared f ts) where
  abbrev whole : List Task
  whole = record { place = x; deed = f' } ∷ ts

  -- both lists have the same for the other places
  elsewhere : (p : ℕ) → (p ≡ x → ⊥) → deed_at p whole ≡ deed_at p ts
  elsewhere p n = rw (ne_eqb x p (λ e. n (sym e))) refl

  without-x : (w : Tree) → (In x w → ⊥) → at_once whole w ≡ at_once ts w
  without-x nil n = refl
  without-x (grow p d k r) n =
      rw (elsewhere p (λ e. n (inl (sym e))), without-x k (λ h. n (inr (inl h))), without-x r (λ h. n (inr (inr h)))) refl

  -- first f, and then the rest
  abbrev First : Tree → Type 0
  First w = shape (at_once ts (change x (does f) w)) ≡ shape (at_once whole w)

  put_first : (p : ℕ) (d : Datum) (k r : Tree) → First k → First r → (o : Option Deed)
      → shape (put o p d (at_once ts (change x (does f) k)) (at_once ts (change x (does f) r))) ≡ shape (put o p d (at_once whole k) (at_once whole r))
  put_first p d k r ik ir none = rw (ik, ir)
  put_first p d k r ik ir (some g) = does-shape g d (at_once ts (change x (does f) r)) (at_once whole r) ir

  first-row : (q : Datum) (w : Tree) → Children settings q w → Distinct w → Suited ts w → Where x (λ d k r. Unbooked f ts r) w → First w
  first-row q nil c u o n = refl
  first-row q (grow p d k r) c u o n =
      go (same? p x) (first-row d k c.below u.below (λ y g e h at. o y g e h (inr (inl at))) n.1)
      (first-row q r c.beside u.beside (λ y g e h at. o y g e h (inr (inr at))) n.2)
    where
      go : (p ≡ x) ⊎ (p ≡ x → ⊥) → First k → First r → First (grow p d k r)
      go (inl e) ik ir =
          rw (eq-eqb p x e, eq-eqb x p (sym e), without-x r (λ h. u.not_beside (in-eq r (sym e) h)))
          (at_head settings f ts spared q d r c.child c.beside (λ y g z h at. o y g z h (inr (inr at))) (n.0 e)
          ∙ does-alike f f' same d (at_once ts r))
      go (inr m) ik ir = rw (ne_eqb p x m, elsewhere p m) (put_first p d k r ik ir (deed_at p ts))

-- ---- what is to be done elsewhere is at pieces that the first deed leaves, so not at the free piece of a row of which something is taken out

free_in : (i : ℕ) (r : Tree) → FreeIn i r → In i r
free_in i nil h = h
free_in i (grow p d k r) (inl h) = inl h.0
free_in i (grow p d k r) (inr h) = inr (inr (free_in i r h))

-- it is the last of its row, and goes with what is taken out
free-goes : (settings : Settings) (q : Datum) (i : ℕ) (r : Tree) → Children settings q r → Distinct r → FreeIn i r → In i (without_last r) → ⊥
free-goes settings q i nil c u h g = g
free-goes settings q i (grow p d k r) c u h g = go (is_free d.kind) refl h g (free-goes settings q i r c.beside u.beside)
  where
    later : FreeIn i r → (In i (without_last r) → ⊥) → In i (grow p d k (without_last r)) → ⊥
    later z ih (inl e) = u.not_beside (in-eq r e (free_in i r z))
    later z ih (inr (inl v)) = u.apart i v (free_in i r z)
    later z ih (inr (inr v)) = ih v

    go : (b : Bool) → is_free d.kind ≡ b → FreeIn i (grow p d k r) → In i (without_last (grow p d k r)) → (FreeIn i r → In i (without_last r) → ⊥) → ⊥
    go true b (inl z) o ih = rw (b, (free-kind d.kind d k r b c.kinded).last) at o
    go true b (inr z) o ih = rw (free-kind d.kind d k r b c.kinded).last at z
    go false b (inl z) o ih = let no : ◌≡◌ {A = ℕ} 0 1 = cc in omega arith
    go false b (inr z) o ih = later z (ih z) (rw b at o)

-- what the list has for the pieces of w is at pieces that are left when x is taken out
abbrev Left : ℕ → List Task → Tree → Type 0
Left x ts w = (i : ℕ) (g : Deed) → deed_at i ts ≡ some g → In i w → In i (cleared x w)

module _ (settings : Settings) (x n s : ℕ) (ts : List Task) where
  unbooked : (q : Datum) (w : Tree) → Children settings q w → Distinct w → Left x ts w → Where x (λ d k r. Unbooked (takes n s) ts r) w
  unbooked q nil c u h = tt
  unbooked q (grow p d k r) c u h = go (same? p x) (unbooked d k c.below u.below) (unbooked q r c.beside u.beside)
    where
      Free : Tree → Type 0
      Free w = Where x (λ e l m. Unbooked (takes n s) ts m) w

      go : (p ≡ x) ⊎ (p ≡ x → ⊥) → (Left x ts k → Free k) → (Left x ts r → Free r) → Free (grow p d k r)
      go (inl e) ik ir = (
        (λ z i v. nothing-at i ts (λ g o.
            free-goes settings q i r c.beside u.beside v (rw (eq-eqb p x e) at (h i g o (inr (inr (free_in i r v))))))),
        where-absent x _ k (λ v. u.not_below (in-eq k (sym e) v)),
        where-absent x _ r (λ v. u.not_beside (in-eq r (sym e) v)),
      )
      go (inr m) ik ir = (
        (λ z. absurd (m z)),
        ik (λ i g o v. below i v (rw (ne_eqb p x m) at (h i g o (inr (inl v))))),
        ir (λ i g o v. beside i v (rw (ne_eqb p x m) at (h i g o (inr (inr v))))),
      )
        where
          below : (i : ℕ) → In i k → In i (grow p d (cleared x k) (cleared x r)) → In i (cleared x k)
          below i v (inl e) = absurd (u.not_below (in-eq k e v))
          below i v (inr (inl o)) = o
          below i v (inr (inr o)) = absurd (u.apart i v (in-cleared x i r o))

          beside : (i : ℕ) → In i r → In i (grow p d (cleared x k) (cleared x r)) → In i (cleared x r)
          beside i v (inl e) = absurd (u.not_beside (in-eq r e v))
          beside i v (inr (inl o)) = absurd (u.apart i (in-cleared x i k o) v)
          beside i v (inr (inr o)) = o

-- ---- the law, on a whole tree

unbooked-row : (settings : Settings) (x : ℕ) (f : Deed) (ts : List Task) (q : Datum) (w : Tree) → Children settings q w → Distinct w
    → ((i : ℕ) (g : Deed) → deed_at i ts ≡ some g → In i w → In i (leaves f x w)) → Where x (λ d k r. Unbooked f ts r) w
unbooked-row settings x (takes n s) ts q w c u h = unbooked settings x n s ts q w c u h
unbooked-row settings x (books b) ts q w c u h = anywhere w
  where
    anywhere : (v : Tree) → Where x (λ d k r. Unit {0}) v
    anywhere nil = tt
    anywhere (grow p d k r) = ((λ e. tt), anywhere k, anywhere r)

-- the top stays
stays-below : (f : Deed) (x p : ℕ) (d : Datum) (k : Tree) → (p ≡ x → ⊥) → (In p k → ⊥) → (i : ℕ) → In i k
    → In i (leaves f x (grow p d k nil)) → In i (leaves f x k)
stays-below f x p d k n u i h g = go (rw (ne_eqb p x n) at g)
  where
    go : In i (grow p d (leaves f x k) nil) → In i (leaves f x k)
    go (inl e) = absurd (u (in-eq k e h))
    go (inr (inl o)) = o
    go (inr (inr o)) = absurd o

pub not-at-top : (g : Deed) (p : ℕ) (d : Datum) → p ≡ 0 → d.kind ≡ Structure → Suits g p d → ⊥
not-at-top (books b) p d e κ h = let no : ◌≡◌ {A = ℕ} 0 1 = cc in omega arith
not-at-top (takes n s) p d e κ h = h.1 e

pub first-then-rest : {limit : ℕ} {settings : Settings} (t : Tree) → Sound limit settings t → (x : ℕ) (f f' : Deed) (ts : List Task)
    → AlikeDeed f f' → (x ≡ 0 → ⊥) → Spared f ts
    → ((i : ℕ) (g : Deed) → deed_at i ts ≡ some g → In i t → In i (leaves f x t)) → Suited ts t
    → shape (at_once ts (change x (does f) t)) ≡ shape (at_once (record { place = x; deed = f' } ∷ ts) t)
first-then-rest nil w x f f' ts same below spared stays suited = absurd w.topped
first-then-rest {settings = settings} (grow p d k r) w x f f' ts same below spared stays suited =
    let top = w.topped.0 in
    let n : p ≡ x → ⊥ = λ e. below (sym e ∙ top.place) in
    let alone : r ≡ nil = top.alone in
    let idle-top = nothing-at p ts (λ g h. not-at-top g p d top.place top.kind (suited p g d h (inl (refl, refl)))) in
    let left : (i : ℕ) (g : Deed) → deed_at i ts ≡ some g → In i k → In i (leaves f x k) =
    λ i g h o. stays-below f x p d k n w.distinct.not_below i o (rw alone at (stays i g h (inr (inl o))))
    in
    let row = first-row settings x f f' same ts spared d k w.topped.1 w.distinct.below (λ y g e h at. suited y g e h (inr (inl at)))
    (unbooked-row settings x f ts d k w.topped.1 w.distinct.below left)
    in
    rw (ne_eqb p x n, ne_eqb x p (λ e. n (sym e)), idle-top, alone, row)

-- ---- the same list in another order

pub same-at-once : (ts us : List Task) → ((i : ℕ) → deed_at i ts ≡ deed_at i us) → (t : Tree) → at_once ts t ≡ at_once us t
same-at-once ts us h nil = refl
same-at-once ts us h (grow p d k r) = rw (h p, same-at-once ts us h k, same-at-once ts us h r) refl
