-- Removal: the row that is left of x's, with the new piece at its end, is a row of the same parent and fills it as before.
use mathlib.Core.Path.{◌≡◌, refl, ap, ◌∙◌, subst}
use mathlib.Core.Bool.{Bool, true, false, cond, ◌&&◌}
use mathlib.Core.Logic.{◌⊎◌, inl, inr, ⊎_elim}
use mathlib.Core.Option.{Option}
use Prim.Native.Nat.{ℕ, ◌+◌, ◌≤◌}
use native.Mathlib.Omega.{arith}
use Rattle.piece.specs.declared.orientation.Orientation.{Orientation}
use Rattle.piece.specs.declared.size.Size.{Size}
use Rattle.piece.specs.declared.node.Datum.{Datum}
use Rattle.piece.specs.declared.node.Kind.{Kind}
use Rattle.piece.specs.declared.node.Kind.TheVariants.{Free, Part, Structure}
use Rattle.piece.specs.declared.settings.Settings.{Settings}
use Rattle.piece.specs.Sides.{sized, laid}
use Rattle.piece.specs.Row.{nil, grow}
use Rattle.piece.specs.Kinds.{is_free}
use Rattle.piece.proofs.Sizes.{laid-twice}
use Rattle.tree.specs.Tree.{Tree, In, Distinct, count, after, is_nil, change}
use Rattle.tree.specs.Sound.{reach, extent, Kinded, Child, Children, Topped}
use Rattle.tree.specs.Removal.{freed, spare, board, last_free, without_last, settled, remove, left, cleared}
use Rattle.tree.specs.Apart.{Removable}
use Rattle.tree.proofs.Rows.{in-eq, count-after, in_after, distinct-one, distinct-after}
use Rattle.tree.proofs.Pieces.{free-piece, child}
use Rattle.tree.proofs.Kept.{This, only, free-kind, Exchange, topped}
use Rattle.tree.proofs.Places.{distinct-change}

board-laid : (d : Datum) (o : Option Datum)
    → laid d.cut (board d o) ≡ sized (reach d.cut d + spare d.cut o) (laid d.cut d.size).height
unfolding board
board-laid d o = laid-twice d.cut _

-- the new piece is a child of the parent of d
freed-children : (settings : Settings) (n s : ℕ) (q d : Datum) (o : Option Datum) → Child settings q d → Children settings q (grow n (freed s d (board d o)) nil nil)
freed-children settings n s q d o h =
    record {
      child = child h.level h.stage h.cut (ap (λ (z : Size). z.height) (board-laid d o) ∙ h.side) (omega arith);
      kinded = free-piece refl refl refl;
      ends = λ z. refl;
      below = tt;
      beside = tt;
    }

-- only a free piece asks something of its later siblings
solid-kind : (a : Kind) (d : Datum) (k r u : Tree) → is_free a ≡ false → Kinded a d k r → Kinded a d k u
solid-kind Free d k r u e h = let z : ◌≡◌ {A = ℕ} 0 1 = cc in absurd (omega arith)
solid-kind Part d k r u e h = h
solid-kind Structure d k r u e h = h

-- a row u in the place of the free piece at the end of the row r
instead : (settings : Settings) (c : Orientation) (q : Datum) (r u : Tree) → 1 ≤ count u → Children settings q r → Children settings q u
    → Children settings q (after (without_last r) u) × (extent c (after (without_last r) u) + spare c (last_free r) ≡ extent c r + extent c u)
instead settings c q nil u n h g = (g, omega arith)
instead settings c q (grow p d k r) u n h g = go (is_free d.kind) refl (instead settings c q r u n h.beside g)
  where
    go : (b : Bool) → is_free d.kind ≡ b
        → Children settings q (after (without_last r) u) × (extent c (after (without_last r) u) + spare c (last_free r) ≡ extent c r + extent c u)
        → Children settings q (after (without_last (grow p d k r)) u)
        × (extent c (after (without_last (grow p d k r)) u) + spare c (last_free (grow p d k r)) ≡ extent c (grow p d k r) + extent c u)
    go true e ih = let l = (free-kind d.kind d k r e h.kinded).last in rw (e, l) (g, omega (arith, h.ends l))
    go false e ih = rw e (
      record {
        child = h.child;
        kinded = solid-kind d.kind d k r _ e h.kinded;
        ends = λ z. absurd (omega (arith, count-after (without_last r) u, ap count z));
        below = h.below;
        beside = ih.0;
      },
      omega arith,
    )

pub settled-exchange : (settings : Settings) (n s : ℕ) (q d : Datum) (y : ℕ) (k r : Tree) → Children settings q (grow y d k r)
    → Exchange settings q (grow y d k r) (settled n s d r)
unfolding settled
settled-exchange settings n s q d y k r h =
    let u = grow n (freed s d (board d (last_free r))) nil nil in
    let i = instead settings d.cut q r u (omega arith) h.beside (freed-children settings n s q d (last_free r) h.child) in
    let w = ap (λ (z : Size). z.width) (board-laid d (last_free r)) in
    record {
      children = i.0;
      same = subst (λ (c : Orientation). extent c (settled n s d r) ≡ extent c (grow y d k r)) h.child.cut (omega arith);
      some = λ z. rw count-after (omega arith);
    }

-- what is left of a row
pub in_left : (i : ℕ) (r : Tree) → In i (without_last r) → In i r
in_left i nil h = h
in_left i (grow p d k r) h = go (is_free d.kind && is_nil r) h (in_left i r)
  where
    go : (b : Bool) → In i (cond b nil (grow p d k (without_last r))) → (In i (without_last r) → In i r) → In i (grow p d k r)
    go true h a = absurd h
    go false (inl e) a = inl e
    go false (inr (inl h)) a = inr (inl h)
    go false (inr (inr h)) a = inr (inr (a h))

distinct-left : (r : Tree) → Distinct r → Distinct (without_last r)
distinct-left nil u = tt
distinct-left (grow p d k r) u = go (is_free d.kind && is_nil r) (distinct-left r u.beside)
  where
    go : (b : Bool) → Distinct (without_last r) → Distinct (cond b nil (grow p d k (without_last r)))
    go true a = tt
    go false a = record {
      not_below = u.not_below;
      not_beside = λ h. u.not_beside (in_left p r h);
      apart = λ i h g. u.apart i h (in_left i r g);
      below = u.below;
      beside = a;
    }

count_left : (r : Tree) → count (without_last r) ≤ count r
count_left nil = omega arith
count_left (grow p d k r) = go (is_free d.kind && is_nil r) (count_left r)
  where
    go : (b : Bool) → count (without_last r) ≤ count r → count (cond b nil (grow p d k (without_last r))) ≤ count (grow p d k r)
    go true a = omega arith
    go false a = omega arith

-- the places of the row that is left
pub settled-in : (n s i : ℕ) (d : Datum) (r : Tree) → In i (settled n s d r) → In i (left d r) ⊎ (i ≡ n)
unfolding settled
settled-in n s i d r h = ⊎_elim inl (λ z. inr (⊎_elim (λ e. e) (λ o. ⊎_elim absurd absurd o) z)) (in_after i (without_last r) _ h)

settled-distinct : (n s : ℕ) (d : Datum) (r : Tree) → Distinct r → ((i : ℕ) → i ≡ n → In i (left d r) → ⊥) → Distinct (settled n s d r)
unfolding settled
settled-distinct n s d r u m =
    distinct-after (without_last r) _ (distinct-left r u) (distinct-one n (freed s d (board d (last_free r))))
    (λ i h g. ⊎_elim (λ e. m i e h) (λ o. ⊎_elim absurd absurd o) g)

pub settled-count : (n s : ℕ) (d : Datum) (r : Tree) → count (settled n s d r) ≤ 1 + count r
unfolding settled
settled-count n s d r = rw count-after (omega (arith, count_left r))

pub remove-topped : (settings : Settings) (x n s : ℕ) (t : Tree) → Topped settings t → Distinct t → Removable x t
    → Topped settings (remove x n s t)
remove-topped settings x n s t h u m =
    topped settings x (settled n s) (This m.piece) (λ q d y k r z. settled-exchange settings n s q d y k r) t h m.below
    (only x m.piece t u m.there)

pub remove-distinct : (x n s : ℕ) (t : Tree) → Distinct t → (In n (cleared x t) → ⊥) → Distinct (remove x n s t)
remove-distinct x n s t u m =
    distinct-change x left (settled n s) (λ i. i ≡ n) (settled-in n s) (λ i d r. in_left i r) (settled-distinct n s) t u
    (λ i e h. m (in-eq (change x left t) e h))
