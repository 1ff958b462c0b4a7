-- The pieces that stay where they are when those at one place give way to another row (Kept): same place, same datum, so same serial.
use mathlib.Core.Path.{◌≡◌, refl, sym, ◌∙◌}
use mathlib.Core.Bool.{Bool, true, false, cond, ◌&&◌}
use mathlib.Core.Logic.{◌⊎◌, inl, inr}
use Prim.Native.Nat.{ℕ}
use native.Mathlib.Omega.{arith}
use lib.Dec.{eqb}
use borrow.Author.Tests.{eq-eqb, ne_eqb}
use Rattle.piece.specs.declared.node.Datum.{Datum}
use Rattle.piece.specs.declared.settings.Settings.{Settings}
use Rattle.piece.specs.Row.{nil, grow}
use Rattle.tree.specs.Tree.{Tree, At, Inside, after, is_nil, change, rest}
use Rattle.piece.specs.Kinds.{is_free}
use Rattle.tree.specs.Sound.{Children, Topped}
use Rattle.tree.specs.Booking.{Booking, block, booked_row, book}
use Rattle.tree.specs.Removal.{without_last, settled, remove, left, cleared}
use Rattle.tree.specs.Steps.{less}
use Rattle.tree.proofs.Rows.{same?, at_in}
use Rattle.tree.proofs.Kept.{Where, Alone, free-kind}

at_first : (i : ℕ) (e : Datum) (a b : Tree) → At i e a → At i e (after a b)
at_first i e nil b h = absurd h
at_first i e (grow p d k r) b (inl z) = inl z
at_first i e (grow p d k r) b (inr (inl h)) = inr (inl h)
at_first i e (grow p d k r) b (inr (inr h)) = inr (inr (at_first i e r b h))

pub at_second : (i : ℕ) (e : Datum) (a b : Tree) → At i e b → At i e (after a b)
at_second i e nil b h = h
at_second i e (grow p d k r) b h = inr (inr (at_second i e r b h))

-- what one row keeps, another one that has more keeps too
at_more : (x : ℕ) (g f : Datum → Tree → Tree) (i : ℕ) (e : Datum) → ((d : Datum) (r : Tree) → At i e (g d r) → At i e (f d r))
    → (t : Tree) → At i e (change x g t) → At i e (change x f t)
at_more x g f i e more nil h = h
at_more x g f i e more (grow y d k r) h = go (eqb y x) h (at_more x g f i e more k) (at_more x g f i e more r)
  where
    go : (b : Bool) → At i e (cond b (g d r) (grow y d (change x g k) (change x g r))) → (At i e (change x g k) → At i e (change x f k))
        → (At i e (change x g r) → At i e (change x f r)) → At i e (cond b (f d r) (grow y d (change x f k) (change x f r)))
    go true h a b = more d r h
    go false (inl z) a b = inl z
    go false (inr (inl h)) a b = inr (inl (a h))
    go false (inr (inr h)) a b = inr (inr (b h))

-- what is left was there
at_less : (x : ℕ) (g : Datum → Tree → Tree) (i : ℕ) (e : Datum) → ((d : Datum) (r : Tree) → At i e (g d r) → At i e r)
    → (t : Tree) → At i e (change x g t) → At i e t
at_less x g i e less nil h = h
at_less x g i e less (grow y d k r) h = go (eqb y x) h (at_less x g i e less k) (at_less x g i e less r)
  where
    go : (b : Bool) → At i e (cond b (g d r) (grow y d (change x g k) (change x g r))) → (At i e (change x g k) → At i e k)
        → (At i e (change x g r) → At i e r) → At i e (grow y d k r)
    go true h a b = inr (inr (less d r h))
    go false (inl z) a b = inl z
    go false (inr (inl h)) a b = inr (inl (a h))
    go false (inr (inr h)) a b = inr (inr (b h))

pub less-at : (i : ℕ) (e : Datum) (x : ℕ) (w : Tree) → At i e (less x w) → At i e w
less-at i e x w h = at_less x rest i e (λ d r z. z) w h

without_at : (i : ℕ) (e : Datum) (r : Tree) → At i e (without_last r) → At i e r
without_at i e nil h = h
without_at i e (grow p d k r) h = go (is_free d.kind && is_nil r) h (without_at i e r)
  where
    go : (c : Bool) → At i e (cond c nil (grow p d k (without_last r))) → (At i e (without_last r) → At i e r) → At i e (grow p d k r)
    go true h hr = absurd h
    go false (inl z) hr = inl z
    go false (inr (inl z)) hr = inr (inl z)
    go false (inr (inr z)) hr = inr (inr (hr z))

pub cleared_at : (i : ℕ) (e : Datum) (x : ℕ) (w : Tree) → At i e (cleared x w) → At i e w
cleared_at i e x w h = at_less x left i e (λ d r. without_at i e r) w h

-- where a piece without children gives way to a row that has its later siblings, all others stay
pub at_others : (x : ℕ) (f : Datum → Tree → Tree) (P : Datum → Tree → Tree → Type 0) (i : ℕ) (e : Datum)
    → ((d : Datum) (k r : Tree) → P d k r → k ≡ nil) → ((d : Datum) (r : Tree) → At i e r → At i e (f d r)) → (i ≡ x → ⊥)
    → (t : Tree) → Where x P t → At i e t → At i e (change x f t)
at_others x f P i e bare more n nil w h = h
at_others x f P i e bare more n (grow y d k r) w h =
    go (same? y x) h (at_others x f P i e bare more n k w.1) (at_others x f P i e bare more n r w.2)
  where
    go : (y ≡ x) ⊎ (y ≡ x → ⊥) → At i e (grow y d k r) → (At i e k → At i e (change x f k)) → (At i e r → At i e (change x f r))
        → At i e (change x f (grow y d k r))
    go (inl z) (inl o) a b = absurd (n (o.0 ∙ z))
    go (inl z) (inr (inl h)) a b = absurd (rw (bare d k r (w.0 z)) at h)
    go (inl z) (inr (inr h)) a b = rw (eq-eqb y x z) (more d r h)
    go (inr m) (inl o) a b = rw (ne_eqb y x m) (inl o)
    go (inr m) (inr (inl h)) a b = rw (ne_eqb y x m) (inr (inl (a h)))
    go (inr m) (inr (inr h)) a b = rw (ne_eqb y x m) (inr (inr (b h)))

pub at-book : (x : ℕ) (d : Datum) (b : Booking) (i : ℕ) (e : Datum) (t : Tree) → Where x (Alone d) t
    → (i ≡ x → ⊥) → At i e t → At i e (book x b t)
at-book x d b i e t w n h =
    at_others x (booked_row b) (Alone d) i e (λ c k r z. z.1) (λ c r. at_second i e (block b c) r) n t w h

pub at-remove : (x n s i : ℕ) (e : Datum) (t : Tree) → At i e (cleared x t) → At i e (remove x n s t)
unfolding settled
at-remove x n s i e t h = at_more x left (settled n s) i e (λ d r. at_first i e (without_last r) _) t h

-- what is no free piece, is not at x and is not below x, is left
at_left : (settings : Settings) (q : Datum) (i : ℕ) (e : Datum) (r : Tree) → Children settings q r → is_free e.kind ≡ false → At i e r
    → At i e (without_last r)
at_left settings q i e nil h f g = g
at_left settings q i e (grow p d k r) h f g = go (is_free d.kind) refl g (at_left settings q i e r h.beside f)
  where
    go : (b : Bool) → is_free d.kind ≡ b → At i e (grow p d k r) → (At i e r → At i e (without_last r)) → At i e (without_last (grow p d k r))
    go true z (inl o) a = let same : e ≡ d = o.1 in let no : ◌≡◌ {A = ℕ} 0 1 = cc in absurd (omega arith)
    go true z (inr (inl o)) a = absurd (rw (free-kind d.kind d k r z h.kinded).childless at o)
    go true z (inr (inr o)) a = absurd (rw (free-kind d.kind d k r z h.kinded).last at o)
    go false z (inl o) a = rw z (inl o)
    go false z (inr (inl o)) a = rw z (inr (inl o))
    go false z (inr (inr o)) a = rw z (inr (inr (a o)))

at_row : (settings : Settings) (x : ℕ) (q : Datum) (i : ℕ) (e : Datum) → is_free e.kind ≡ false → (i ≡ x → ⊥) → (t : Tree) → Children settings q t
    → (Inside x i t → ⊥) → At i e t → At i e (cleared x t)
at_row settings x q i e f n nil h m g = g
at_row settings x q i e f n (grow y d k r) h m g =
    go (same? y x) g (at_row settings x d i e f n k h.below (λ z. m (inr (inl z)))) (at_row settings x q i e f n r h.beside (λ z. m (inr (inr z))))
  where
    go : (y ≡ x) ⊎ (y ≡ x → ⊥) → At i e (grow y d k r) → (At i e k → At i e (cleared x k)) → (At i e r → At i e (cleared x r))
        → At i e (cleared x (grow y d k r))
    go (inl z) (inl o) a b = absurd (n (o.0 ∙ z))
    go (inl z) (inr (inl o)) a b = absurd (m (inl (sym z, at_in i e k o)))
    go (inl z) (inr (inr o)) a b = rw (eq-eqb y x z) (at_left settings q i e r h.beside f o)
    go (inr z) (inl o) a b = rw (ne_eqb y x z) (inl o)
    go (inr z) (inr (inl o)) a b = rw (ne_eqb y x z) (inr (inl (a o)))
    go (inr z) (inr (inr o)) a b = rw (ne_eqb y x z) (inr (inr (b o)))

pub at-cleared : (settings : Settings) (x i : ℕ) (e : Datum) (t : Tree) → Topped settings t → (x ≡ 0 → ⊥) → is_free e.kind ≡ false
    → (i ≡ x → ⊥) → (Inside x i t → ⊥) → At i e t → At i e (cleared x t)
at-cleared settings x i e nil h b f n m g = g
at-cleared settings x i e (grow p d k r) h b f n m g = rw (ne_eqb p x (λ z. b (sym z ∙ h.0.place))) (go g)
  where
    go : At i e (grow p d k r) → At i e (grow p d (cleared x k) (cleared x r))
    go (inl o) = inl o
    go (inr (inl o)) = inr (inl (at_row settings x d i e f n k h.1 (λ z. m (inr (inl z))) o))
    go (inr (inr o)) = absurd (rw h.0.alone at o)
