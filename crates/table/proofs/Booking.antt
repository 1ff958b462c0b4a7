-- A booking on the table: the free piece is unlinked, and the nodes of the block are appended in the order of their creation. The table then
-- holds the tree in which the block stands in the free piece's place.
use mathlib.Core.Path.{◌≡◌, refl, ap, ◌∙◌}
use mathlib.Core.List.{List}
use mathlib.Core.Logic.{◌⊎◌, inl, inr, ⊎_elim}
use Prim.Native.Nat.{ℕ, ◌<◌}
use Rattle.piece.specs.declared.node.Datum.{Datum}
use Rattle.piece.specs.Row.{nil, grow}
use Rattle.tree.specs.Tree.{Tree, In, Distinct, after}
use Rattle.tree.specs.Booking.{Booking, block, book}
use Rattle.tree.specs.Steps.{hang, app, less, Kids}
use Rattle.tree.proofs.Rows.{in-eq, after-nil}
use Rattle.tree.proofs.Kids.{kids-of, kids-in, put}
use Rattle.tree.proofs.Hangs.{hang-of-put, hang-in, in-hang, in-hung, hang-nil, hang-row}
use Rattle.tree.proofs.Goes.{less-put, less-kids, book-put}
use Rattle.table.specs.declared.Node.{Node}
use Rattle.table.specs.Table.{Holds, append, unlink}
use Rattle.table.specs.Steps.{plant}
use Rattle.table.proofs.Append.{append-holds}
use Rattle.table.proofs.Unlink.{unlink-holds}

-- the first piece p of a row is appended under q, then its children k under it, then the rest r of the row under q
module _ (limit : ℕ) (t : List Node) (q p : ℕ) (d : Datum) (k r w : Tree) (h : Holds limit t w) (i : In q w) (dis : Distinct (grow p d k r))
    (low : (j : ℕ) → In j (grow p d k r) → j < limit) (new : (j : ℕ) → In j (grow p d k r) → In j w → ⊥) where
  abbrev w₁ : Tree
  w₁ = app q p d w

  abbrev leaf : Tree
  leaf = grow p d nil nil

  own : (l : Tree) × Kids q l w
  own = kids-of q w i

  pub first_holds : Holds limit (append limit t q p d) w₁
  first_holds = append-holds limit t q p d w h i (low p (inl refl)) (new p (inl refl))

  pub first-in : In p w₁
  first-in = in-hung q leaf own.0 w h.distinct own.1 p (inl refl)

  in-w₁ : (j : ℕ) → In j w₁ → (j ≡ p) ⊎ In j w
  in-w₁ j y =
      ⊎_elim (λ z. ⊎_elim inl (λ v. ⊎_elim absurd absurd v) z) inr (hang-in q leaf own.0 w h.distinct own.1 j y)

  pub kids-new : (j : ℕ) → In j k → In j w₁ → ⊥
  kids-new j y z = ⊎_elim (λ e. dis.not_below (in-eq k e y)) (new j (inr (inl y))) (in-w₁ j z)

  lower : (l : Tree) × Kids p l w₁
  lower = kids-of p w₁ first-in

  pub rest_in : In q (hang p k w₁)
  rest_in =
      in-hang p k lower.0 w₁ first_holds.distinct lower.1 q (in-hang q leaf own.0 w h.distinct own.1 q i)

  pub rest-new : (j : ℕ) → In j r → In j (hang p k w₁) → ⊥
  rest-new j y z =
      ⊎_elim (λ v. dis.apart j v y) (λ v. ⊎_elim (λ e. dis.not_beside (in-eq r e y)) (new j (inr (inr y))) (in-w₁ j v))
      (hang-in p k lower.0 w₁ first_holds.distinct lower.1 j z)

module _ (limit : ℕ) where
  -- the nodes of a row, appended one by one, hang under q
  pub plant-holds : (b : Tree) (t : List Node) (q : ℕ) (w : Tree) → Holds limit t w → In q w → Distinct b → ((j : ℕ) → In j b → j < limit)
      → ((j : ℕ) → In j b → In j w → ⊥) → Holds limit (plant limit t q b) (hang q b w)
  plant-holds nil t q w h i dis low new = rw (hang-nil q w) h
  plant-holds (grow p d k r) t q w h i dis low new =
      let h₁ = first_holds limit t q p d k r w h i dis low new in
      let h₂ = plant-holds k (append limit t q p d) p (app q p d w) h₁ (first-in limit t q p d k r w h i dis low new) dis.below
      (λ j y. low j (inr (inl y))) (kids-new limit t q p d k r w h i dis low new)
      in
      let h₃ = plant-holds r (plant limit (append limit t q p d) p k) q (hang p k (app q p d w)) h₂
      (rest_in limit t q p d k r w h i dis low new) dis.beside (λ j y. low j (inr (inr y))) (rest-new limit t q p d k r w h i dis low new)
      in
      rw (hang-row q p d k r w (new p (inl refl))) at h₃

module _ (limit : ℕ) (t : List Node) (q x : ℕ) (a : Tree) (d : Datum) (w : Tree) (b : Booking) where
  -- x is a leaf and the last child of q, and the places of the block are different ones that are not held when x has gone
  pub book-holds : Holds limit t w → Kids q (after a (grow x d nil nil)) w → Distinct (block b d) → ((i : ℕ) → In i (block b d) → i < limit)
      → ((i : ℕ) → In i (block b d) → In i (less x w) → ⊥) → Holds limit (plant limit (unlink limit t x) q (block b d)) (book x b w)
  book-holds h kids dis low new =
      let is : less x w ≡ put q a w = less-put q x a d nil nil w h.distinct kids ∙ ap (λ (z : Tree). put q z w) (after-nil a) in
      let i : In q (less x w) = kids-in q (after a nil) (less x w) (less-kids q x a d nil nil w h.distinct kids) in
      let g = plant-holds limit (block b d) (unlink limit t x) q (less x w) (unlink-holds limit t q x a d nil w h kids) i dis low new in
      let e : hang q (block b d) (less x w) ≡ book x b w =
      rw (is, hang-of-put q (block b d) a w, book-put q x a d nil nil w h.distinct kids b, after-nil (block b d)) refl
      in
      rw e at g
