-- Removals: two of them, whichever is first. Assumes nothing.
use mathlib.Core.Path.{◌≡◌, refl, sym, ◌∙◌, subst}
use mathlib.Core.Bool.{Bool, true, false, false≢true, and-false}
use mathlib.Core.Option.{Option, some}
use mathlib.Core.Logic.{◌⊎◌, inl, inr}
use Prim.Native.Nat.{ℕ, ◌+◌}
use native.Mathlib.Nat.{add_left_comm}
use borrow.Author.Tests.{eq-eqb, ne_eqb}
use Rattle.piece.specs.declared.orientation.Orientation.{Orientation}
use Rattle.piece.specs.declared.size.Size.{Size}
use Rattle.piece.specs.declared.node.Datum.{Datum}
use Rattle.piece.specs.declared.settings.Settings.{Settings}
use Rattle.piece.specs.Sides.{other, sized, laid}
use Rattle.piece.specs.Row.{nil, grow}
use Rattle.piece.proofs.Sizes.{laid-twice}
use Rattle.tree.specs.Tree.{Tree, At, Distinct, is_nil, after}
use Rattle.tree.specs.Sound.{reach, Child, Children, Sound}
use Rattle.piece.specs.Kinds.{is_free}
use Rattle.tree.specs.Snapshot.{shape, unmarked}
use Rattle.tree.specs.Removal.{freed, spare, board, last_free, without_last, settled, remove}
use Rattle.tree.specs.Apart.{Removable}
use Rattle.tree.proofs.Rows.{same?}
use Rattle.tree.proofs.Shapes.{shape-after}
use Rattle.tree.proofs.Kept.{free-kind}
use Rattle.tree.proofs.Changes.{alike, commute}
use Rattle.tree.proofs.Bookings.{at-unique}

-- What stands at the end of a row.

longer : (a : Tree) (n : ℕ) (d : Datum) → is_nil (after a (grow n d nil nil)) ≡ false
longer nil n d = refl
longer (grow p e k r) n d = refl

-- a free piece there is found, and the row without it is what was before it
last-free : (a : Tree) (n s : ℕ) (d : Datum) (z : Size) → last_free (after a (grow n (freed s d z) nil nil)) ≡ some (freed s d z)
last-free nil n s d z = refl
last-free (grow p e k r) n s d z = rw (longer r n (freed s d z), and-false (is_free e.kind)) (last-free r n s d z)

without-last : (a : Tree) (n s : ℕ) (d : Datum) (z : Size) → without_last (after a (grow n (freed s d z) nil nil)) ≡ a
without-last nil n s d z = refl
without-last (grow p e k r) n s d z = rw (longer r n (freed s d z), and-false (is_free e.kind), without-last r n s d z)

-- pieces that are not free stay before the board that settles
pub settled-past : (n s : ℕ) (d : Datum) (z : ℕ) (e : Datum) (k r : Tree) → is_free e.kind ≡ false
    → settled n s d (grow z e k r) ≡ grow z e k (settled n s d r)
unfolding settled
settled-past n s d z e k r h = rw h

-- the free piece joins it
pub settled-join : (n s : ℕ) (d : Datum) (z : ℕ) (e : Datum) → is_free e.kind ≡ true
    → settled n s d (grow z e nil nil) ≡ grow n (freed s d (board d (some e))) nil nil
unfolding settled
settled-join n s d z e h = rw h

-- a row after one of its pieces went, but for the marks
pub shape-settled : (n s : ℕ) (d : Datum) (r : Tree)
    → shape (settled n s d r) ≡ after (shape (without_last r)) (grow 0 (unmarked (freed 0 d (board d (last_free r)))) nil nil)
unfolding settled
shape-settled n s d r = shape-after (without_last r) (grow n (freed s d (board d (last_free r))) nil nil)

-- the new piece's marks do not count
pub settled-alike : (n s n' s' : ℕ) (d : Datum) (r : Tree) → shape (settled n s d r) ≡ shape (settled n' s' d r)
settled-alike n s n' s' d r = shape-settled n s d r ∙ sym (shape-settled n' s' d r)

-- Two boards of one row.

-- two boards a and b wide join what is m wide, whichever is first
joined-swap : (c : Orientation) (a b m h : ℕ)
    → laid c (sized (a + (laid c (laid c (sized (b + m) h))).width) h) ≡ laid c (sized (b + (laid c (laid c (sized (a + m) h))).width) h)
joined-swap c a b m h = simp laid-twice (rw (add_left_comm a b m))

-- they join the row's free piece one after the other: it has the same size whichever was first
board-swap : (c : Orientation) (d e : Datum) (s u : ℕ) (o : Option Datum) → d.cut ≡ c → e.cut ≡ c
    → (laid c d.size).height ≡ (laid c e.size).height
    → board e (some (freed s d (board d o))) ≡ board d (some (freed u e (board e o)))
unfolding board
board-swap c d e s u o p q h = rw (p, q, h) (joined-swap c (reach c e) (reach c d) (spare c o) (laid c e.size).height)

-- two pieces of a row go, one after the other: their boards and the row's free piece are one piece at the end
settled-twice : (n s m s' : ℕ) (d e : Datum) (r : Tree)
    → shape (settled m s' e (settled n s d r))
    ≡ after (shape (without_last r)) (grow 0 (unmarked (freed 0 e (board e (some (freed s d (board d (last_free r))))))) nil nil)
unfolding settled
settled-twice n s m s' d e r =
    let z = board d (last_free r) in
    shape-settled m s' e (settled n s d r) ∙ rw (without-last (without_last r) n s d z, last-free (without_last r) n s d z)

-- the children of q are at one level, have one cut and lie side by side, so that it is one piece whichever went first
pub twice : (settings : Settings) (n s m s' n' u m' u' : ℕ) (q d e : Datum) (r : Tree) → Child settings q d → Child settings q e
    → shape (settled m s' e (settled n s d r)) ≡ shape (settled n' u d (settled m' u' e r))
twice settings n s m s' n' u m' u' q d e r a b =
    let c = other q.cut in
    let h : (laid c d.size).height ≡ (laid c e.size).height = cc in
    cc (settled-twice n s m s' d e r, settled-twice m' u' n' u e d r, board-swap c d e s u' (last_free r) a.cut b.cut h)

-- Two removals.

-- the piece at x, wherever it stands, is not free
abbrev Solid : ℕ → Tree → Type 0
Solid x t = (e : Datum) → At x e t → is_free e.kind ≡ false

solid : (x : ℕ) (t : Tree) → Distinct t → Removable x t → Solid x t
solid x t w a e g = subst (λ (d : Datum). is_free d.kind ≡ false) (sym (at-unique x a.piece e t w a.there g)) a.solid

-- the piece d went, and y goes from among its later siblings, or y went first
module _ (settings : Settings) (y n s m s' n' u m' u' : ℕ) (q d : Datum) where
  abbrev Behind : Tree → Type 0
  Behind r = shape (remove y m s' (settled n s d r)) ≡ shape (settled n' u d (remove y m' u' r))

  behind : (y ≡ n → ⊥) → Child settings q d → (r : Tree) → Children settings q r → Solid y r → Behind r
  unfolding settled
  behind yn a nil w o = rw (ne_eqb n y (λ e. yn (sym e)))
  behind yn a (grow z e k r) w o = go (is_free e.kind) refl (same? z y) (behind yn a r w.beside (λ f g. o f (inr (inr g))))
    where
      go : (b : Bool) → is_free e.kind ≡ b → (z ≡ y) ⊎ (z ≡ y → ⊥) → Behind r → Behind (grow z e k r)
      go true f (inl g) ih = absurd (false≢true (sym (o e (inl (sym g, refl))) ∙ f))
      go true f (inr l) ih =
          let p = free-kind e.kind e k r f w.kinded in
          rw (p.childless, p.last, settled-join n s d z e f, ne_eqb z y l, settled-join n' u d z e f, ne_eqb n y (λ g. yn (sym g)))
      go false f (inl g) ih = rw (settled-past n s d z e k r f, eq-eqb z y g) (twice settings n s m s' n' u m' u' q d e r a w.child)
      go false f (inr l) ih =
          rw (
            settled-past n s d z e k r f,
            ne_eqb z y l,
            settled-past n' u d z e (remove y m' u' k) (remove y m' u' r) f,
            ih,
            alike y (settled m s') (settled m' u') (settled-alike m s' m' u') k,
          )

module _ (settings : Settings) (x y n s m s' n' u m' u' : ℕ) where
  -- a row of children, in which neither x nor y is free
  abbrev Row : Tree → Type 0
  Row r = (q : Datum) × Children settings q r × Solid x r × Solid y r

  row-removals : (x ≡ y → ⊥) → (y ≡ n → ⊥) → (x ≡ m' → ⊥) → (r : Tree) → Row r
      → shape (remove y m s' (remove x n s r)) ≡ shape (remove x n' u (remove y m' u' r))
  row-removals xy yn xm =
      commute x y (settled n s) (settled m s') (settled n' u) (settled m' u') xy Row
      (λ p d k r w. (d, w.1.below, (λ e g. w.2 e (inr (inl g))), (λ e g. w.3 e (inr (inl g)))))
      (λ p d k r w. (w.0, w.1.beside, (λ e g. w.2 e (inr (inr g))), (λ e g. w.3 e (inr (inr g)))))
      (λ d k r w. behind settings y n s m s' n' u m' u' w.0 d yn w.1.child r w.1.beside (λ e g. w.3 e (inr (inr g))))
      (λ d k r w. sym (behind settings x m' u' n' u m s' n s w.0 d xm w.1.child r w.1.beside (λ e g. w.2 e (inr (inr g)))))

  -- the top stays: both go from below it
  pub removes-commute : {limit : ℕ} (t : Tree) → Sound limit settings t → Removable x t → Removable y t
      → (x ≡ y → ⊥) → (y ≡ n → ⊥) → (x ≡ m' → ⊥) → shape (remove y m s' (remove x n s t)) ≡ shape (remove x n' u (remove y m' u' t))
  removes-commute nil w ax ay xy yn xm = refl
  removes-commute (grow p d k r) w ax ay xy yn xm =
      let top = w.topped.0 in
      let nx = ne_eqb p x (λ e. ax.below (sym e ∙ top.place)) in
      let ox = solid x (grow p d k r) w.distinct ax in
      let oy = solid y (grow p d k r) w.distinct ay in
      let ik = row-removals xy yn xm k (d, w.topped.1, (λ e g. ox e (inr (inl g))), (λ e g. oy e (inr (inl g)))) in
      rw (nx, ne_eqb p y (λ e. ay.below (sym e ∙ top.place)), nx, ik, top.alone)
