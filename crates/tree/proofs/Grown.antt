-- How many nodes there are when all of a list of bookings is made at once: no fewer than before, and as many more as one of them adds. So a list of bookings that
-- comes to a tree within the limit keeps within it all the way. Assumes nothing.
use mathlib.Core.Path.{◌≡◌, refl, sym, ap, ◌∙◌}
use mathlib.Core.List.{List}
use mathlib.Core.Logic.{inl, inr}
use mathlib.Core.Option.{Option, none, some}
use Prim.Native.Nat.{ℕ, ◌+◌, ◌≤◌}
use native.Mathlib.Omega.{arith}
use Rattle.piece.specs.declared.node.Datum.{Datum}
use Rattle.piece.specs.declared.node.Kind.TheVariants.{Free}
use Rattle.piece.specs.declared.settings.Settings.{Settings}
use Rattle.piece.specs.Row.{nil, grow}
use Rattle.piece.specs.Kinds.{is_free}
use Rattle.piece.specs.Insertion.{new_nodes}
use Rattle.lists.proofs.Scan.{clash}
use Rattle.tree.specs.Tree.{Tree, In, count}
use Rattle.tree.specs.Sound.{Children, Sound}
use Rattle.tree.specs.Snapshot.{shape}
use Rattle.tree.specs.Booking.{Booking, block}
use Rattle.tree.specs.AtOnce.{Deed, Suited, Task, at_once, books, deed_at, put, takes}
use Rattle.tree.proofs.Rows.{count-after}
use Rattle.tree.proofs.Kept.{free-kind}
use Rattle.tree.proofs.Blocks.{block-count, some-new}
use Rattle.tree.proofs.AtOnce.{not-at-top}

-- trees of one shape have as many nodes
count-shape : (t : Tree) → count (shape t) ≡ count t
count-shape nil = refl
count-shape (grow p d k r) = rw (count-shape k, count-shape r) refl

pub same_count : (t u : Tree) → shape t ≡ shape u → count t ≡ count u
same_count t u e = sym (count-shape t) ∙ ap count e ∙ count-shape u

module _ (settings : Settings) (ts : List Task)
    -- nothing is taken out
    (only : (y n s : ℕ) → deed_at y ts ≡ some (takes n s) → ⊥) where
  -- a piece in which something is booked is free, so nothing is below it
  bare : (q : Datum) (p : ℕ) (d : Datum) (k r : Tree) (g : Deed) → Children settings q (grow p d k r) → Suited ts (grow p d k r) → deed_at p ts ≡ some g
      → (b : Booking) × (g ≡ books b) × (k ≡ nil)
  bare q p d k r (takes n s) c o e = absurd (only p n s e)
  bare q p d k r (books b) c o e =
      let free : d.kind ≡ Free = o p (books b) d e (inl (refl, refl)) in
      (b, refl, (free-kind d.kind d k r (ap is_free free) c.kinded).childless)

  -- what stands there afterwards
  count-put : (b : Booking) (p : ℕ) (d : Datum) (k r : Tree) → count (put (some (books b)) p d k r) ≡ new_nodes b.shape + count r
  count-put b p d k r = omega (arith, count-after (block b d) r, block-count b d)

  no-fewer : (q : Datum) (w : Tree) → Children settings q w → Suited ts w → count w ≤ count (at_once ts w)
  no-fewer q nil c o = omega arith
  no-fewer q (grow p d k r) c o =
      go (deed_at p ts) refl (no-fewer d k c.below (λ y g e h at. o y g e h (inr (inl at)))) (no-fewer q r c.beside (λ y g e h at. o y g e h (inr (inr at))))
    where
      go : (f : Option Deed) → deed_at p ts ≡ f → count k ≤ count (at_once ts k) → count r ≤ count (at_once ts r)
          → count (grow p d k r) ≤ count (put f p d (at_once ts k) (at_once ts r))
      go none e ik ir = omega arith
      go (some g) e ik ir =
          let z = bare q p d k r g c o e in
          rw z.1 (omega (arith, count-put z.0 p d (at_once ts k) (at_once ts r), some-new z.0.shape, ap count z.2))

  -- b is booked at x
  module _ (x : ℕ) (b : Booking) (booked : deed_at x ts ≡ some (books b)) where
    abbrev Grows : Tree → Type 0
    Grows w = count w + new_nodes b.shape ≤ count (at_once ts w) + 1

    row-grows : (q : Datum) (w : Tree) → Children settings q w → Suited ts w → In x w → Grows w
    row-grows q nil c o h = absurd h
    row-grows q (grow p d k r) c o h = go (deed_at p ts) refl h (λ z. row-grows d k c.below below z) (λ z. row-grows q r c.beside beside z)
      where
        below : Suited ts k
        below y g e h at = o y g e h (inr (inl at))

        beside : Suited ts r
        beside y g e h at = o y g e h (inr (inr at))

        go : (f : Option Deed) → deed_at p ts ≡ f → In x (grow p d k r) → (In x k → Grows k) → (In x r → Grows r)
            → count (grow p d k r) + new_nodes b.shape ≤ count (put f p d (at_once ts k) (at_once ts r)) + 1
        go none e (inl z) ik ir = let there : deed_at p ts ≡ some (books b) = rw z at booked in absurd (clash (cc))
        go none e (inr (inl z)) ik ir = omega (arith, ik z, no-fewer q r c.beside beside)
        go none e (inr (inr z)) ik ir = omega (arith, ir z, no-fewer d k c.below below)
        go (some g) e (inl z) ik ir =
            let there : deed_at p ts ≡ some (books b) = rw z at booked in
            let is : g ≡ books b = cc in
            let v = bare q p d k r g c o e in
            rw is (omega (arith, count-put b p d (at_once ts k) (at_once ts r), no-fewer q r c.beside beside, ap count v.2))
        go (some g) e (inr (inl z)) ik ir = absurd (rw (bare q p d k r g c o e).2 at z)
        go (some g) e (inr (inr z)) ik ir =
            let v = bare q p d k r g c o e in
            rw v.1 (omega (arith, ir z, count-put v.0 p d (at_once ts k) (at_once ts r), some-new v.0.shape, ap count v.2))

    -- the top stays: nothing is booked there
    pub grows : {limit : ℕ} (t : Tree) → Sound limit settings t → Suited ts t → In x t → Grows t
    grows nil w o h = absurd w.topped
    grows (grow p d k r) w o h = go (deed_at p ts) refl h
      where
        go : (f : Option Deed) → deed_at p ts ≡ f → In x (grow p d k r)
            → count (grow p d k r) + new_nodes b.shape ≤ count (put f p d (at_once ts k) (at_once ts r)) + 1
        go (some g) e i = absurd (not-at-top g p d w.topped.0.place w.topped.0.kind (o p g d e (inl (refl, refl))))
        go none e (inl z) = let there : deed_at p ts ≡ some (books b) = rw z at booked in absurd (clash (cc))
        go none e (inr (inl z)) =
            rw w.topped.0.alone (omega (arith, row-grows d k w.topped.1 (λ y g f v at. o y g f v (inr (inl at))) z))
        go none e (inr (inr z)) = absurd (rw w.topped.0.alone at z)
