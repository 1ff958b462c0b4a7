-- The append of a leaf to the table is the append of a leaf to the tree that the table holds.
use mathlib.Core.Path.{◌≡◌, sym, ◌∙◌}
use mathlib.Core.List.{List}
use mathlib.Core.Logic.{◌⊎◌, inl, inr, ⊎_elim}
use Prim.Native.Nat.{ℕ, ◌<◌}
use native.Mathlib.Omega.{arith}
use borrow.Author.Tests.{le-leb, lt-leb}
use Rattle.piece.specs.declared.node.Datum.{Datum}
use Rattle.piece.specs.Row.{nil, grow}
use Rattle.tree.specs.Tree.{Tree, In, after}
use Rattle.tree.specs.Steps.{app, Kids}
use Rattle.tree.proofs.Rows.{in-eq, in_after, distinct-one, distinct-after}
use Rattle.tree.proofs.Kids.{kids-of, kids-in, kids_under, kids-distinct, kids-self, put, put-distinct}
use Rattle.tree.proofs.Hangs.{hang-put, in-hang, in-hung}
use Rattle.table.specs.declared.Node.{Node}
use Rattle.table.specs.Table.{mk, at, head, last, Rep, Holds, append}
use Rattle.table.proofs.Touch.{Grown, grown}
use Rattle.table.proofs.Rep.{Shows, shows, bound, limit-out, last-cases, last-after, rep-part, part-rep, joined, renext, rep-put}

module _ (limit : ℕ) (t : List Node) (q a : ℕ) (d : Datum) where
  -- the parent's entry
  entry : (u : List Node) (k : Tree) → Shows limit t q k → Grown limit t u q (last limit k) a d
      → at u q ≡ mk (at t q).datum (at t q).parent (at t q).prev (head limit (after k (grow a d nil nil)))
      (last limit (after k (grow a d nil nil))) (at t q).next
  entry u nil s g = rw (le-leb limit limit (omega arith)) at g.parent
  entry u (grow p e k r) s g =
      let b : last p r < limit = bound limit t q limit (last p r) (grow p e k r) s.rep (⊎_elim inl (λ h. inr (inr h)) (last-cases p r)) in
      rw last-after (rw (lt-leb limit (last p r) b, s.first) at g.parent)

  module _ (w k : Tree) (h : Holds limit t w) (kids : Kids q k w) (ha : a < limit) (out : In a w → ⊥) where
    abbrev leaf : Tree
    leaf = grow a d nil nil

    abbrev u : List Node
    u = append limit t q a d

    row : Shows limit t q k
    row = shows limit t limit limit q k w h.rep kids

    -- the last child is none, or in the tree
    last-child : (last limit k ≡ limit) ⊎ In (last limit k) k
    last-child = last-cases limit k

    in_tree : In (last limit k) k → In (last limit k) w
    in_tree g = kids_under q k (last limit k) w kids g

    g : Grown limit t u q (last limit k) a d
    g =
        rw row.last-is at
        (grown limit t q a d h.len ha row.low (λ e. out (in-eq w (sym e) (kids-in q k w kids)))
        (rw row.last-is (λ e. ⊎_elim (λ z. omega arith) (λ z. out (in-eq w e (in_tree z))) last-child))
        (rw row.last-is (λ e. let b : q < limit = row.low in
        ⊎_elim (λ z. omega arith) (λ z. kids-self q k w h.distinct kids (in-eq k e z)) last-child)))

    -- a place of the tree that is neither q nor its last child is as it was
    same : (i : ℕ) → In i w → (i ≡ q → ⊥) → (i ≡ last limit k → ⊥) → at u i ≡ at t i
    same i y n m = g.other i (λ e. out (in-eq w e y)) n m

    held : (i : ℕ) → In i w → i ≡ limit → ⊥
    held i y e = limit-out limit t limit limit w h.rep (in-eq w e y)

    new_row : Rep limit u q limit (after k leaf)
    new_row =
        part-rep limit u q limit (after k leaf)
        (joined limit u q limit limit k leaf
        (renext limit t u q limit limit a k (kids-distinct q k w h.distinct kids) (rep-part limit t q limit k row.rep)
        (λ i y n. same i (kids_under q k i w kids y) (λ e. kids-self q k w h.distinct kids (in-eq k e y)) n)
        (λ y. g.before (bound limit t q limit (last limit k) k row.rep y)))
        (ha, g.new, tt, tt))

    is-put : app q a d w ≡ put q (after k leaf) w
    is-put = hang-put q leaf k w h.distinct kids

    new_in : (i : ℕ) → In i (after k leaf) → In i k ⊎ (i ≡ a)
    new_in i y = ⊎_elim inl (λ z. ⊎_elim inr (λ v. ⊎_elim absurd absurd v) z) (in_after i k leaf y)

    appended : Holds limit u (app q a d w)
    appended =
        record {
          len = g.len;
          rep = rw is-put
              (rep-put limit t u q k (after k leaf) limit limit w h.rep h.distinct kids
              (λ i y n m. same i y n (λ e. ⊎_elim (λ z. held i y (e ∙ z)) (λ z. m (in-eq k (sym e) z)) last-child))
              (entry u k row g) new_row);
          distinct = rw is-put
              (put-distinct q (after k leaf) k w h.distinct kids
              (distinct-after k leaf (kids-distinct q k w h.distinct kids) (distinct-one a d)
              (λ i y z. ⊎_elim (λ e. out (in-eq w e (kids_under q k i w kids y))) (λ v. ⊎_elim absurd absurd v) z))
              (λ i y z. ⊎_elim (λ v. v) (λ e. absurd (out (in-eq w e z))) (new_in i y)));
          rest = λ i b n.
              let old : In i w → In i (app q a d w) = in-hang q leaf k w h.distinct kids i in
              g.other i (λ e. n (in-hung q leaf k w h.distinct kids i (inl e))) (λ e. n (old (in-eq w (sym e) (kids-in q k w kids))))
              (λ e. ⊎_elim (λ z. omega arith) (λ z. n (old (in-eq w (sym e) (in_tree z)))) last-child)
              ∙ h.rest i b (λ y. n (old y));
        }

  pub append-holds : (w : Tree) → Holds limit t w → In q w → a < limit → (In a w → ⊥) → Holds limit (append limit t q a d) (app q a d w)
  append-holds w h i ha out = let k = kids-of q w i in appended w k.0 h k.1 ha out
