-- A sum over the numbers below a bound is the sum over the places of a tree, if each of those is below the bound, none stands twice, and the other
-- numbers add nothing; and a worth that the places of a table have adds up to that of the tree that it holds. Assumes nothing.
use mathlib.Core.Path.{◌≡◌, refl, sym, ap, ◌∙◌}
use mathlib.Core.List.{List}
use mathlib.Core.Bool.{cond}
use mathlib.Core.Logic.{◌⊎◌, inl, inr, ⊎_elim}
use Prim.Native.Nat.{ℕ, zero, suc, ◌+◌, ◌<◌}
use native.Mathlib.Omega.{arith}
use lib.Dec.{eqb}
use borrow.Author.Tests.{eq-eqb, ne_eqb}
use Rattle.piece.specs.declared.node.Datum.{Datum}
use Rattle.piece.specs.Row.{nil, grow}
use Rattle.tree.specs.Tree.{Tree, In, Distinct}
use Rattle.tree.proofs.Rows.{same?, in-eq, in?}
use Rattle.table.specs.declared.Node.{Node}
use Rattle.table.specs.Table.{zero_datum, at, Rep, Holds}
use Rattle.table.proofs.Rep.{bound}

-- ---- sums over the numbers below n

abbrev pub sum : (ℕ → ℕ) → ℕ → ℕ
sum f zero = 0
sum f (suc n) = sum f n + f n

sum_same : (f g : ℕ → ℕ) (n : ℕ) → ((i : ℕ) → i < n → f i ≡ g i) → sum f n ≡ sum g n
sum_same f g zero e = refl
sum_same f g (suc n) e = let ih = sum_same f g n (λ i h. e i (omega arith)) in omega (arith, e n (omega arith))

sum-none : (f : ℕ → ℕ) (n : ℕ) → ((i : ℕ) → i < n → f i ≡ 0) → sum f n ≡ 0
sum-none f zero e = refl
sum-none f (suc n) e = let ih = sum-none f n (λ i h. e i (omega arith)) in omega (arith, e n (omega arith))

sum-add : (f g : ℕ → ℕ) (n : ℕ) → sum (λ i. f i + g i) n ≡ sum f n + sum g n
sum-add f g zero = refl
sum-add f g (suc n) = let ih = sum-add f g n in omega arith

-- ---- and over the pieces of a row

module _ (h : ℕ → ℕ) where
  abbrev pub row_sum : Tree → ℕ
  row_sum nil = 0
  row_sum (grow p d k r) = h p + (row_sum k + row_sum r)

  -- what the place i gives to that sum
  abbrev only : ℕ → ℕ → ℕ
  only p i = cond (eqb i p) (h i) 0

  abbrev share : Tree → ℕ → ℕ
  share nil i = 0
  share (grow p d k r) i = only p i + (share k i + share r i)

  other : (p i : ℕ) → (i ≡ p → ⊥) → only p i ≡ 0
  other p i n = rw (ne_eqb i p n) refl

  this : (p i : ℕ) → i ≡ p → only p i ≡ h i
  this p i e = rw (eq-eqb i p e) refl

  sum-only : (p n : ℕ) → p < n → sum (only p) n ≡ h p
  sum-only p zero l = let none : ⊥ = omega arith in absurd none
  sum-only p (suc n) l = go (same? n p) (sum-only p n)
    where
      go : (n ≡ p) ⊎ (n ≡ p → ⊥) → (p < n → sum (only p) n ≡ h p) → sum (only p) n + only p n ≡ h p
      go (inl e) ih =
          let z = sum-none (only p) n (λ i l. other p i (λ y. omega arith)) in
          omega (arith, this p n e, ap h e)
      go (inr m) ih = let z = ih (omega arith) in omega (arith, other p n m)

  sum-share : (w : Tree) (n : ℕ) → ((i : ℕ) → In i w → i < n) → sum (share w) n ≡ row_sum w
  sum-share nil n low = sum-none (share nil) n (λ i l. refl)
  sum-share (grow p d k r) n low =
      let a = sum-share k n (λ i y. low i (inr (inl y))) in
      let b = sum-share r n (λ i y. low i (inr (inr y))) in
      sum-add (only p) (λ i. share k i + share r i) n
      ∙ omega (arith, sum-only p n (low p (inl refl)), sum-add (share k) (share r) n)

  share-out : (i : ℕ) (w : Tree) → (In i w → ⊥) → share w i ≡ 0
  share-out i nil n = refl
  share-out i (grow p d k r) n =
      rw (other p i (λ e. n (inl e)), share-out i k (λ y. n (inr (inl y))), share-out i r (λ y. n (inr (inr y)))) refl

  share_in : (i : ℕ) (w : Tree) → Distinct w → In i w → share w i ≡ h i
  share_in i nil dis y = absurd y
  share_in i (grow p d k r) dis (inl e) =
      omega (arith, this p i e, share-out i k (λ y. dis.not_below (in-eq k e y)), share-out i r (λ y. dis.not_beside (in-eq r e y)))
  share_in i (grow p d k r) dis (inr (inl y)) =
      omega (arith, other p i (λ e. dis.not_below (in-eq k e y)), share_in i k dis.below y, share-out i r (dis.apart i y))
  share_in i (grow p d k r) dis (inr (inr y)) =
      omega (arith, other p i (λ e. dis.not_beside (in-eq r e y)), share-out i k (λ z. dis.apart i z y), share_in i r dis.beside y)

  -- the row has all that counts: each of its places is one of the numbers, and none stands twice
  pub everywhere : (w : Tree) (n : ℕ) → Distinct w → ((i : ℕ) → In i w → i < n) → ((i : ℕ) → i < n → (In i w → ⊥) → h i ≡ 0)
      → sum h n ≡ row_sum w
  everywhere w n dis low rest =
      sum_same h (share w) n
      (λ i l. ⊎_elim (λ y. sym (share_in i w dis y)) (λ o. rest i l o ∙ sym (share-out i w o)) (in? i w))
      ∙ sum-share w n low

-- ---- over the pieces that a table holds

module _ (f : Datum → ℕ) where
  -- what the pieces of a row and below are worth
  abbrev pub worth : Tree → ℕ
  worth nil = 0
  worth (grow p d k r) = f d + (worth k + worth r)

  module _ (limit : ℕ) (t : List Node) where
    row-worth : (q pv : ℕ) (w : Tree) → Rep limit t q pv w → row_sum (λ i. f (at t i).datum) w ≡ worth w
    row-worth q pv nil rep = refl
    row-worth q pv (grow p d k r) rep = rw (rep.1, row-worth p limit k rep.2, row-worth q p r rep.3) refl

    -- the places of a table are worth what the tree is that it holds
    pub holds-worth : (w : Tree) → f zero_datum ≡ 0 → Holds limit t w → sum (λ i. f (at t i).datum) limit ≡ worth w
    holds-worth w z h =
        everywhere (λ i. f (at t i).datum) w limit h.distinct (λ i y. bound limit t limit limit i w h.rep y)
        (λ i b n. ap (λ (x : Node). f x.datum) (h.rest i b n) ∙ z)
        ∙ row-worth limit limit w h.rep
