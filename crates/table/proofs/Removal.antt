-- A removal on the table: the places of the subtree are unlinked, the children's before a piece's own, so that each is a leaf when it goes;
-- then the free piece at the end of the row, if there is one; and the new free piece is appended. The table then holds the tree from which the
-- piece was removed.
use mathlib.Core.Path.{◌≡◌, refl, sym, ◌∙◌}
use mathlib.Core.List.{List, [], ◌∷◌, ◌++◌}
use mathlib.Core.Bool.{Bool, true, false, cond, and-false, ◌&&◌}
use mathlib.Core.Option.{none, some}
use Prim.Native.Nat.{ℕ, ◌<◌}
use borrow.Author.Tests.{eq-eqb, ne_eqb}
use Rattle.piece.specs.declared.node.Datum.{Datum}
use Rattle.piece.specs.Row.{nil, grow}
use Rattle.tree.specs.Tree.{Tree, In, Distinct, after}
use Rattle.tree.specs.Removal.{freed, board, last_free, without_last, settled, remove, cleared}
use Rattle.piece.specs.Kinds.{is_free}
use Rattle.tree.specs.Steps.{app, less, Kids, leaving}
use Rattle.tree.proofs.Rows.{after-nil, after-assoc}
use Rattle.tree.proofs.Kids.{kids-in, kids-kids, kids-row, put, put-kids, put-put, put_same, pass-piece}
use Rattle.tree.proofs.Hangs.{hang-of-put}
use Rattle.tree.proofs.Goes.{less-put, less-kids, cleared-put, remove-put}
use Rattle.tree.proofs.Spots.{free_end, FreeLeaves}
use Rattle.table.specs.declared.Node.{Node}
use Rattle.table.specs.Table.{at, last, Rep, Holds, append, unlink}
use Rattle.table.specs.Steps.{free_last_place, free_last_datum, unlink_all}
use Rattle.table.proofs.Rep.{shows, last-after, row_from}
use Rattle.table.proofs.Append.{append-holds}
use Rattle.table.proofs.Unlink.{unlink-holds}

unlink-more : (limit : ℕ) (t : List Node) (xs ys : List ℕ) → unlink_all limit t (xs ++ ys) ≡ unlink_all limit (unlink_all limit t xs) ys
unlink-more limit t [] ys = refl
unlink-more limit t (x ∷ xs) ys = unlink-more limit (unlink limit t x) xs ys

-- the piece c among the children of q loses its own
bared : (q c : ℕ) (a : Tree) (e : Datum) (k b w : Tree) → Distinct w → Kids q (after a (grow c e k b)) w
    → put c nil w ≡ put q (after a (grow c e nil b)) w
bared q c a e k b w dis kids =
    rw (pass-piece c (put c nil) refl (λ p d m r n. rw (ne_eqb p c n) refl) q a e k b w dis kids, eq-eqb c c refl) refl

module _ (limit : ℕ) where
  -- the pieces k among the children of q go, with all below them
  pub row_out : (k : Tree) (t : List Node) (q : ℕ) (a b w : Tree) → Holds limit t w → Kids q (after a (after k b)) w
      → Holds limit (unlink_all limit t (leaving k)) (put q (after a b) w)
  row_out nil t q a b w h kids = rw (put_same q (after a b) w h.distinct kids) h
  row_out (grow c e k r) t q a b w h kids =
      let r₁ = after r b in
      let m = after a (grow c e k r₁) in
      let bare = after a (grow c e nil r₁) in
      let t₁ = unlink_all limit t (leaving k) in
      let kids-c : Kids c (after k nil) w = rw (after-nil k) (kids-kids q m c k w kids (kids-row c a e k r₁)) in
      let h₁ : Holds limit t₁ (put q bare w) = rw (bared q c a e k r₁ w h.distinct kids) at (row_out k t c nil nil w h kids-c) in
      let kids₁ : Kids q bare (put q bare w) = put-kids q bare m w h.distinct kids in
      let is : less c (put q bare w) ≡ put q (after a r₁) w =
      less-put q c a e nil r₁ (put q bare w) h₁.distinct kids₁ ∙ put-put q (after a r₁) bare w
      in
      let h₂ : Holds limit (unlink limit t₁ c) (put q (after a r₁) w) = rw is at (unlink-holds limit t₁ q c a e r₁ (put q bare w) h₁ kids₁) in
      let h₃ = row_out r (unlink limit t₁ c) q a b (put q (after a r₁) w) h₂ (put-kids q (after a r₁) m w h.distinct kids) in
      rw (unlink-more limit t (leaving k) (c ∷ leaving r)) (rw (put-put q (after a b) (after a r₁) w) at h₃)

  -- the free piece at the end of the row goes
  pub free-out : (b : Tree) (t : List Node) (q : ℕ) (a w : Tree) → Holds limit t w → Kids q (after a b) w → FreeLeaves b
      → Holds limit (unlink_all limit t (free_end b)) (put q (after a (without_last b)) w)
  free-out nil t q a w h kids f = rw (put_same q (after a nil) w h.distinct kids) h
  free-out (grow p e k nil) t q a w h kids f = go (is_free e.kind) refl
    where
      go : (c : Bool) → is_free e.kind ≡ c
          → Holds limit (unlink_all limit t (free_end (grow p e k nil))) (put q (after a (without_last (grow p e k nil))) w)
      go true z =
          let kids₁ : Kids q (after a (grow p e nil nil)) w = rw (f.0 z) at kids in
          rw z (rw (less-put q p a e nil nil w h.distinct kids₁) at (unlink-holds limit t q p a e nil w h kids₁))
      go false z = rw (z, put_same q (after a (grow p e k nil)) w h.distinct kids) h
  free-out (grow p e k (grow p₁ e₁ k₁ r₁)) t q a w h kids f =
      let r = grow p₁ e₁ k₁ r₁ in
      let a₁ = after a (grow p e k nil) in
      rw (and-false (is_free e.kind))
      (rw (after-assoc a (grow p e k nil) (without_last r)) at
      (free-out (grow p₁ e₁ k₁ r₁) t q a₁ w h (rw (after-assoc a (grow p e k nil) r) kids) f.1))

-- The free piece at the end of a row, as the table shows it. Before x, which is not free, goes, it is its parent's last child.
module _ (limit : ℕ) (t : List Node) (q : ℕ) where
  Ends : Tree → ℕ → Type 0
  Ends b y =
      (free_end b ≡ cond (is_free (at t y).datum.kind) (y ∷ []) []) × (last_free b ≡ cond (is_free (at t y).datum.kind) (some (at t y).datum) none)

  ends_some : (pv p : ℕ) (e : Datum) (k r : Tree) → Rep limit t q pv (grow p e k r) → Ends (grow p e k r) (last p r)
  unfolding Ends
  ends_some pv p e k nil rep = rw rep.1 (go (is_free e.kind))
    where
      go : (c : Bool) → (cond (c && true) (p ∷ []) [] ≡ cond c (p ∷ []) []) × (cond (c && true) (some e) none ≡ cond c (some e) none)
      go true = (refl, refl)
      go false = (refl, refl)
  ends_some pv p e k (grow p₁ e₁ k₁ r₁) rep = rw (and-false (is_free e.kind)) (ends_some p p₁ e₁ k₁ r₁ rep.3)

  ends : (pv x : ℕ) (d : Datum) (l b : Tree) → Rep limit t q pv (grow x d l b) → is_free d.kind ≡ false → Ends b (last x b)
  unfolding Ends
  ends pv x d l nil rep e = rw (rep.1, e) (refl, refl)
  ends pv x d l (grow p₁ e₁ k₁ r₁) rep e = ends_some x p₁ e₁ k₁ r₁ rep.3

module _ (limit : ℕ) (t : List Node) (q x : ℕ) (a : Tree) (d : Datum) (l b w : Tree) (h : Holds limit t w)
    (kids : Kids q (after a (grow x d l b)) w) where
  -- the free piece at the end of the row
  pub end_is : is_free d.kind ≡ false → (free_end b ≡ free_last_place t q) × (last_free b ≡ free_last_datum t q)
  unfolding Ends free_last_place free_last_datum
  end_is e =
      let m = after a (grow x d l b) in
      let o = shows limit t limit limit q m w h.rep kids in
      let y : (at t q).last ≡ last x b = o.last-is ∙ last-after limit a (grow x d l b) in
      rw y (ends limit t q (last limit a) x d l b (row_from limit t q limit a (grow x d l b) o.rep) e)

  -- x goes, with all below it
  pub subtree-out : Holds limit (unlink_all limit t (leaving (grow x d l nil))) (less x w)
  subtree-out = rw (less-put q x a d l b w h.distinct kids) (row_out limit (grow x d l nil) t q a b w h kids)

  -- and the free piece at the end of its row
  pub clear-holds : FreeLeaves b → Holds limit (unlink_all limit t (leaving (grow x d l nil) ++ free_end b)) (cleared x w)
  clear-holds f =
      let u = unlink_all limit t (leaving (grow x d l nil)) in
      let is : put q (after a (without_last b)) (less x w) ≡ cleared x w =
      rw (less-put q x a d l b w h.distinct kids, put-put q (after a (without_last b)) (after a b) w)
      (sym (cleared-put q x a d l b w h.distinct kids))
      in
      rw (unlink-more limit t (leaving (grow x d l nil)) (free_end b))
      (rw is at (free-out limit b u q a (less x w) subtree-out (less-kids q x a d l b w h.distinct kids) f))

  -- and the new free piece comes to the end of the row
  pub remove-holds : (n s : ℕ) → FreeLeaves b → n < limit → (In n (cleared x w) → ⊥)
      → Holds limit (append limit (unlink_all limit t (leaving (grow x d l nil) ++ free_end b)) q n (freed s d (board d (last_free b))))
      (remove x n s w)
  unfolding settled
  remove-holds n s f hn new =
      let e = freed s d (board d (last_free b)) in
      let is = cleared-put q x a d l b w h.distinct kids in
      let k = after a (without_last b) in
      let i : In q (cleared x w) = rw is (kids-in q k (put q k w) (put-kids q k (after a (grow x d l b)) w h.distinct kids)) in
      let z : app q n e (cleared x w) ≡ remove x n s w =
      rw (is, hang-of-put q (grow n e nil nil) k w, after-assoc a (without_last b) (grow n e nil nil))
      (sym (remove-put q x a d l b w h.distinct kids n s))
      in
      rw z at (append-holds limit (unlink_all limit t (leaving (grow x d l nil) ++ free_end b)) q n e (cleared x w) (clear-holds f) i hn new)
