-- The unlinking of a leaf is the loss of a leaf in the tree that the table holds.
use mathlib.Core.Path.{◌≡◌, refl, sym, ap, ◌∙◌}
use mathlib.Core.List.{List}
use mathlib.Core.Bool.{cond}
use mathlib.Core.Logic.{◌⊎◌, inl, inr, ⊎_elim}
use Prim.Native.Nat.{ℕ, ◌<◌}
use native.Mathlib.Omega.{arith}
use lib.Dec.{leb}
use borrow.Author.Tests.{le-leb, lt-leb}
use Rattle.piece.specs.declared.node.Datum.{Datum}
use Rattle.piece.specs.Row.{nil, grow}
use Rattle.tree.specs.Tree.{Tree, In, Distinct, after}
use Rattle.tree.specs.Steps.{less, Kids}
use Rattle.tree.proofs.Rows.{same?, in-eq, in?, in_after, in-first, in-second, distinct-after}
use Rattle.tree.proofs.Kids.{kids-in, kids_under, kids-distinct, kids-self, put, put-new, in-put, put-distinct}
use Rattle.tree.proofs.Kids.{after-apart, after_first, after-second}
use Rattle.tree.proofs.Goes.{less-put}
use Rattle.table.specs.declared.Node.{Node}
use Rattle.table.specs.Table.{mk, zero_node, at, head, last, Rep, Holds, unlink}
use Rattle.table.proofs.Touch.{Cut, cut}
use Rattle.table.proofs.Rep.{Shows, shows, Part, bound, limit-out, last-cases, head-cases, last-after, rep-part, part-rep, split, joined}
use Rattle.table.proofs.Rep.{renext, reprev, rep-put}

-- what the parent's links lead to when the piece x between two parts of a row has gone
module _ (limit x : ℕ) (d : Datum) where
  head-is : (a b : Tree) → ((i : ℕ) → In i a → i < limit)
      → cond (leb limit (last limit a)) (head limit b) (head limit (after a (grow x d nil b))) ≡ head limit (after a b)
  head-is nil b low = rw (le-leb limit limit (omega arith)) refl
  head-is (grow p e k r) b low = rw (lt-leb limit (last p r) (low (last p r) (⊎_elim inl (λ h. inr (inr h)) (last-cases p r)))) refl

  last-is : (a b : Tree) → ((i : ℕ) → In i b → i < limit)
      → cond (leb limit (head limit b)) (last limit a) (last limit (after a (grow x d nil b))) ≡ last limit (after a b)
  last-is a nil low = rw (le-leb limit limit (omega arith), last-after limit a nil) refl
  last-is a (grow p e k r) low =
      rw (lt-leb limit p (low p (inl refl)), last-after limit a (grow x d nil (grow p e k r)), last-after limit a (grow p e k r)) refl

module _ (limit : ℕ) (t : List Node) (q x : ℕ) (a : Tree) (d : Datum) (b w : Tree) (h : Holds limit t w)
    (kids : Kids q (after a (grow x d nil b)) w) where
  abbrev m : Tree
  m = after a (grow x d nil b)

  abbrev u : List Node
  u = unlink limit t x

  abbrev pv : ℕ
  pv = last limit a

  abbrev nx : ℕ
  nx = head limit b

  row : Shows limit t q m
  row = shows limit t limit limit q m w h.rep kids

  dis : Distinct m
  dis = kids-distinct q m w h.distinct kids

  parts : Part limit t q limit x a × Part limit t q pv limit (grow x d nil b)
  parts = split limit t q limit limit a (grow x d nil b) (rep-part limit t q limit m row.rep)

  in-a : (i : ℕ) → In i a → In i m
  in-a i y = in-first i a (grow x d nil b) y

  in_b : (i : ℕ) → In i b → In i m
  in_b i y = in-second i a (grow x d nil b) (inr (inr y))

  -- x, q and the places of the two parts are different places
  not-q : (i : ℕ) → In i m → i ≡ q → ⊥
  not-q i y e = kids-self q m w h.distinct kids (in-eq m e y)

  not-x-a : (i : ℕ) → In i a → i ≡ x → ⊥
  not-x-a i y e = after-apart a (grow x d nil b) dis i y (inl e)

  not-x-b : (i : ℕ) → In i b → i ≡ x → ⊥
  not-x-b i y e = (after-second a (grow x d nil b) dis).not_beside (in-eq b e y)

  apart : (i : ℕ) → In i a → In i b → ⊥
  apart i y z = after-apart a (grow x d nil b) dis i y (inr (inr z))

  not-limit : (i : ℕ) → In i m → i ≡ limit → ⊥
  not-limit i y e = limit-out limit t q limit m row.rep (in-eq m e y)

  before : (pv ≡ limit) ⊎ In pv a
  before = last-cases limit a

  behind : (nx ≡ limit) ⊎ In nx b
  behind = head-cases limit b

  x-in : In x m
  x-in = in-second x a (grow x d nil b) (inl refl)

  g : Cut limit t u x q pv nx
  g =
      cut limit t x q pv nx (ap (λ (n : Node). n.parent) parts.1.1) (ap (λ (n : Node). n.prev) parts.1.1)
      (ap (λ (n : Node). n.next) parts.1.1) h.len parts.1.0 row.low (λ e. not-q x x-in (sym e))
      (λ e. ⊎_elim (λ z. not-limit x x-in (sym e ∙ z)) (λ z. not-x-a pv z e) before)
      (λ e. ⊎_elim (λ z. not-limit x x-in (sym e ∙ z)) (λ z. not-x-b nx z e) behind)
      (λ e. let l : q < limit = row.low in ⊎_elim (λ z. omega arith) (λ z. not-q pv (in-a pv z) e) before)
      (λ e. let l : q < limit = row.low in ⊎_elim (λ z. omega arith) (λ z. not-q nx (in_b nx z) e) behind)
      (λ l e. ⊎_elim (λ z. omega arith) (λ z. ⊎_elim (λ y. omega arith) (λ y. apart pv z (in-eq b (sym e) y)) behind) before)

  new_row : Rep limit u q limit (after a b)
  new_row =
      part-rep limit u q limit (after a b)
      (joined limit u q limit limit a b
      (renext limit t u q limit x nx a (after_first a (grow x d nil b) dis) parts.0
      (λ i y n. g.other i (not-x-a i y) (not-q i (in-a i y)) n
      (λ e. ⊎_elim (λ z. not-limit i (in-a i y) (e ∙ z)) (λ z. apart i y (in-eq b (sym e) z)) behind))
      (λ y. g.before (bound limit t q limit pv m row.rep (in-a pv y))))
      (reprev limit t u q x limit pv b (after-second a (grow x d nil b) dis).beside parts.1.3
      (λ i y n. g.other i (not-x-b i y) (not-q i (in_b i y))
      (λ e. ⊎_elim (λ z. not-limit i (in_b i y) (e ∙ z)) (λ z. apart i (in-eq a (sym e) z) y) before) n)
      (λ y. g.behind (bound limit t q limit nx m row.rep (in_b nx y)))))

  low : (i : ℕ) → In i m → i < limit
  low i y = bound limit t q limit i m row.rep y

  entry : at u q
      ≡ mk (at t q).datum (at t q).parent (at t q).prev (head limit (after a b)) (last limit (after a b)) (at t q).next
  entry =
      rw (row.first, row.last-is, head-is limit x d a b (λ i y. low i (in-a i y)), last-is limit x d a b (λ i y. low i (in_b i y))) at
      g.parent

  is-put : less x w ≡ put q (after a b) w
  is-put = less-put q x a d nil b w h.distinct kids

  -- what stays of the row, and of the tree
  stays : (i : ℕ) → In i m → (i ≡ x → ⊥) → In i (after a b)
  stays i y n =
      ⊎_elim (λ z. in-first i a b z)
      (λ z. ⊎_elim (λ e. absurd (n e)) (λ v. ⊎_elim absurd (λ j. in-second i a b j) v) z)
      (in_after i a (grow x d nil b) y)

  pub in-less : (i : ℕ) → In i w → (i ≡ x → ⊥) → In i (less x w)
  in-less i y n =
      rw is-put
      (⊎_elim (λ z. put-new q (after a b) m i w h.distinct kids (stays i z n))
      (λ z. in-put q (after a b) m i w h.distinct kids y z) (in? i m))

  -- x, a leaf of the tree below q, is unlinked
  pub unlink-holds : Holds limit (unlink limit t x) (less x w)
  unlink-holds =
      record {
        len = g.len;
        rep = rw is-put
            (rep-put limit t u q m (after a b) limit limit w h.rep h.distinct kids
            (λ i y n o. g.other i (λ e. o (in-eq m (sym e) x-in)) n
            (λ e. ⊎_elim (λ z. limit-out limit t limit limit w h.rep (in-eq w (e ∙ z) y)) (λ z. o (in-a i (in-eq a (sym e) z))) before)
            (λ e. ⊎_elim (λ z. limit-out limit t limit limit w h.rep (in-eq w (e ∙ z) y)) (λ z. o (in_b i (in-eq b (sym e) z))) behind))
            entry new_row);
        distinct = rw is-put
            (put-distinct q (after a b) m w h.distinct kids
            (distinct-after a b (after_first a (grow x d nil b) dis) (after-second a (grow x d nil b) dis).beside apart)
            (λ i y z. ⊎_elim (in-a i) (in_b i) (in_after i a b y)));
        rest = λ i l n. ⊎_elim (λ e. rw e g.gone) (λ nx. kept i l n nx) (same? i x);
      }
    where
      under : (i : ℕ) → In i m → In i w
      under i y = kids_under q m i w kids y

      kept : (i : ℕ) → i < limit → (In i (less x w) → ⊥) → (i ≡ x → ⊥) → at u i ≡ zero_node
      kept i l n nx =
          let o : In i w → ⊥ = (λ y. n (in-less i y nx)) in
          g.other i nx (λ e. o (in-eq w (sym e) (kids-in q m w kids)))
          (λ e. ⊎_elim (λ z. omega arith) (λ z. o (under i (in-a i (in-eq a (sym e) z)))) before)
          (λ e. ⊎_elim (λ z. omega arith) (λ z. o (under i (in_b i (in-eq b (sym e) z)))) behind)
          ∙ h.rest i l o
