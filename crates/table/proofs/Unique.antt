-- A tree that a table holds is the tree that is read from it, and two tables that hold the same tree are the same table. So "the table holds
-- this tree" says everything of a table, and everything of a tree.
use mathlib.Core.Path.{◌≡◌, refl, sym, ap, ◌∙◌}
use mathlib.Core.List.{List}
use mathlib.Core.Logic.{inl, inr, ⊎_elim}
use Prim.Native.Nat.{ℕ, zero, suc, ◌+◌, ◌<◌, ◌≤◌}
use native.Mathlib.Omega.{arith}
use lib.Seq.{ext_get_or}
use Rattle.piece.specs.Row.{nil, grow}
use Rattle.tree.specs.Tree.{Tree, In, count}
use Rattle.tree.specs.Steps.{Rooted, Kids}
use Rattle.tree.proofs.Rows.{in?}
use Rattle.tree.proofs.Kids.{kids-count}
use Rattle.table.specs.declared.Node.{Node}
use Rattle.table.specs.Table.{zero_node, at, head, Rep, Holds}
use Rattle.table.specs.Build.{chain, kids, tree_of}
use Rattle.table.proofs.Rep.{shows, bound}
use Rattle.table.proofs.Room.{room}
use Rattle.table.proofs.Build.{chain-none, chain-some}

module _ (limit : ℕ) where
  same_at : (t u : List Node) (v pv i : ℕ) (w : Tree) → Rep limit t v pv w → Rep limit u v pv w → In i w → at t i ≡ at u i
  same_at t u v pv i nil a b h = absurd h
  same_at t u v pv i (grow p d k r) a b (inl e) = rw e (a.1 ∙ sym b.1)
  same_at t u v pv i (grow p d k r) a b (inr (inl h)) = same_at t u p limit i k a.2 b.2 h
  same_at t u v pv i (grow p d k r) a b (inr (inr h)) = same_at t u v p i r a.3 b.3 h

  -- two tables that hold the same tree are the same
  pub same-table : (t u : List Node) (w : Tree) → Holds limit t w → Holds limit u w → t ≡ u
  same-table t u w a b =
      ext_get_or zero_node t u (a.len ∙ sym b.len)
      (λ i l.
      let h : i < limit = rw a.len at l in
      ⊎_elim (same_at t u limit limit i w a.rep b.rep) (λ n. a.rest i h n ∙ sym (b.rest i h n)) (in? i w))

  -- a tree that a table holds has no more pieces than there are places
  pub holds-room : (t : List Node) (w : Tree) → Holds limit t w → count w ≤ limit
  holds-room t w h = room limit w h.distinct (λ i y. bound limit t limit limit i w h.rep y)

  module _ (t : List Node) where
    kids-is : (n p : ℕ) (k : Tree) → (at t p).first ≡ head limit k → count k ≤ n
        → ((l : ℕ) → count k ≤ l + 1 → chain limit (kids limit l t) limit t (head limit k) ≡ k) → kids limit n t p ≡ k
    unfolding kids
    kids-is zero p nil e h f = refl
    kids-is zero p (grow y d k r) e h f = let no_fuel : ⊥ = omega arith in absurd no_fuel
    kids-is (suc n) p k e h f = rw e (f n (omega arith))

    -- a row is read whole if the fuel is enough for its pieces
    chain-is : (q pv n m : ℕ) (k : Tree) → Rep limit t q pv k → count k ≤ n + 1 → count k ≤ m → count k ≤ limit
        → chain limit (kids limit n t) m t (head limit k) ≡ k
    chain-is q pv n m nil rep hn hm hl = chain-none limit t (kids limit n t) m limit (omega arith)
    chain-is q pv n zero (grow p d k r) rep hn hm hl = let no_fuel : ⊥ = omega arith in absurd no_fuel
    chain-is q pv n (suc m) (grow p d k r) rep hn hm hl =
        rw (
          chain-some limit t (kids limit n t) m p rep.0,
          kids-is n p k (ap (λ (x : Node). x.first) rep.1) (omega arith)
              (λ l hk. chain-is p limit l limit k rep.2 hk (omega arith) (omega arith)),
          ap (λ (x : Node). x.datum) rep.1,
          ap (λ (x : Node). x.next) rep.1,
          chain-is q p n m r rep.3 (omega arith) (omega arith) (omega arith),
        )
        refl

    -- the children of a piece are read
    pub kids-are : (q n : ℕ) (k w : Tree) → Holds limit t w → Kids q k w → count k ≤ n → kids limit n t q ≡ k
    kids-are q n k w h g c =
        let o = shows limit t limit limit q k w h.rep g in
        let b = kids-count q k w g in
        let f = holds-room t w h in
        kids-is n q k o.first c (λ l hk. chain-is q limit l limit k o.rep hk (omega arith) (omega arith))

    -- a tree that a table holds is the tree that is read from it
    pub tree_is : (w : Tree) → Rooted w → Holds limit t w → tree_of limit t ≡ w
    unfolding tree_of
    tree_is nil ro h = absurd ro
    tree_is (grow p d k r) ro h =
        let w = grow p d k r in
        let b = kids-count p k w (inl (refl, refl)) in
        let f = holds-room t w h in
        let e : (at t 0).datum ≡ d = ap (λ (x : Node). x.datum) (rw ro.0 at h.rep.1) in
        rw (ro.0, ro.1, e, kids-are 0 limit k w h (inl (sym ro.0, refl)) (omega arith)) refl
