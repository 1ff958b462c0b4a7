-- A table that holds a tree is linked place by place, if the tree's top is at place 0, each row is one level deeper than the row above, and no
-- serial is 0. So a sound tree passes the check of the table.
use mathlib.Core.Path.{◌≡◌, refl, sym, ap, ◌∙◌}
use mathlib.Core.List.{List}
use mathlib.Core.Logic.{inl, inr, ⊎_elim}
use Prim.Native.Nat.{ℕ, zero, suc, ◌+◌, ◌<◌, ◌≤◌}
use native.Mathlib.Omega.{arith}
use Rattle.piece.specs.declared.node.Datum.{Datum}
use Rattle.piece.specs.Row.{nil, grow}
use Rattle.tree.specs.Tree.{Tree, In, At, after, count}
use Rattle.tree.specs.Steps.{Rooted, Kids, Deep, Marked}
use Rattle.tree.proofs.Rows.{in?, count-after, in-at}
use Rattle.tree.proofs.Kids.{kids-of, kids-in, kids_under, kids-count, spot_in}
use Rattle.table.specs.declared.Node.{Node}
use Rattle.table.specs.Table.{mk, zero_node, at, Held, head, last, Rep, Holds}
use Rattle.table.proofs.Linkage.{Linked, Among, Local, Linkage}
use Rattle.table.proofs.Rep.{Shows, shows, piece-at}
use Rattle.table.proofs.Unique.{holds-room}

module _ (limit : ℕ) (t : List Node) where
  -- what the table shows at a place of the tree is what the tree says
  pub datum-is : (q pv i : ℕ) (e : Datum) (w : Tree) → Rep limit t q pv w → At i e w → (at t i).datum ≡ e
  datum-is q pv i e nil rep h = absurd h
  datum-is q pv i e (grow p d k r) rep (inl g) = rw (g.0, rep.1) (sym g.1)
  datum-is q pv i e (grow p d k r) rep (inr (inl g)) = datum-is p limit i e k rep.2 g
  datum-is q pv i e (grow p d k r) rep (inr (inr g)) = datum-is q p i e r rep.3 g

  pub kids-deep : (v pv lv q : ℕ) (k w : Tree) → Rep limit t v pv w → Deep lv w → Kids q k w → Deep ((at t q).datum.level + 1) k
  kids-deep v pv lv q k nil rep dp h = absurd h
  kids-deep v pv lv q k (grow p d l r) rep dp (inl e) = rw (e.0, rep.1, e.1, dp.0) dp.1
  kids-deep v pv lv q k (grow p d l r) rep dp (inr (inl h)) = kids-deep p limit (lv + 1) q k l rep.2 dp.1 h
  kids-deep v pv lv q k (grow p d l r) rep dp (inr (inr h)) = kids-deep v p lv q k r rep.3 dp.2 h

  -- a tree of so many pieces is at most so deep
  level-low : (q pv lv i : ℕ) (w : Tree) → Rep limit t q pv w → Deep lv w → In i w → (at t i).datum.level < lv + count w
  level-low q pv lv i nil rep dp h = absurd h
  level-low q pv lv i (grow p d k r) rep dp (inl e) = rw (e, rep.1, dp.0) (omega arith)
  level-low q pv lv i (grow p d k r) rep dp (inr (inl h)) = let ih = level-low p limit (lv + 1) i k rep.2 dp.1 h in omega arith
  level-low q pv lv i (grow p d k r) rep dp (inr (inr h)) = let ih = level-low q p lv i r rep.3 dp.2 h in omega arith

  linked-row : (m q pv : ℕ) (k : Tree) → Rep limit t q pv k → (at t q).last ≡ last pv k → Deep ((at t q).datum.level + 1) k
      → ((i : ℕ) → In i k → Held t i) → count k < m → Linked limit m t q pv (head limit k)
  linked-row zero q pv k rep e dp held c = let no_fuel : ⊥ = omega arith in absurd no_fuel
  linked-row (suc m) q pv nil rep e dp held c = inl (refl, e)
  linked-row (suc m) q pv (grow p d k r) rep e dp held c =
      inr (
        rep.0,
        held p (inl refl),
        ap (λ (x : Node). x.parent) rep.1,
        ap (λ (x : Node). x.prev) rep.1,
        ap (λ (x : Node). x.datum.level) rep.1 ∙ dp.0,
        rw (ap (λ (x : Node). x.next) rep.1)
            (linked-row m q p r rep.3 e dp.2 (λ i h. held i (inr (inr h))) (omega arith)),
      )

  among-row : (m q pv x : ℕ) (a : Tree) (d : Datum) (l b : Tree) → Rep limit t q pv (after a (grow x d l b)) → count a < m
      → Among limit m t (head limit (after a (grow x d l b))) x
  among-row zero q pv x a d l b rep c = let no_fuel : ⊥ = omega arith in absurd no_fuel
  among-row (suc m) q pv x nil d l b rep c = (rep.0, inl refl)
  among-row (suc m) q pv x (grow p e k r) d l b rep c =
      (rep.0, inr (rw (ap (λ (n : Node). n.next) rep.1) (among-row m q p x r d l b rep.3 (omega arith))))

-- the places of the tree are held: an unheld one is none of them
pub holds-held : (limit : ℕ) (t : List Node) (w : Tree) → Holds limit t w → Marked w → (i : ℕ) → In i w → Held t i
holds-held limit t w h marked i y =
    let g = in-at i w y in rw (datum-is limit t limit limit i g.0 w h.rep g.1) (marked i g.0 g.1)

module _ (limit : ℕ) (t : List Node) (w : Tree) (ro : Rooted w) (h : Holds limit t w) (deep : Deep 0 w)
    (marked : Marked w) where
  fits : count w ≤ limit
  fits = holds-room limit t w h

  held : (i : ℕ) → In i w → Held t i
  held i y = holds-held limit t w h marked i y

  local : (i : ℕ) → In i w → Local limit t i
  local i y =
      record {
        linked = rw o.first
            (linked-row limit t limit i limit l o.rep o.last-is (kids-deep limit t limit limit 0 i l w h.rep deep g)
            (λ j z. held j (kids_under i l j w g z)) (let c = kids-count i l w g in omega (arith, fits)));
        low = let c = level-low limit t limit limit 0 i w h.rep deep y in omega (arith, fits);
        hangs = under;
      }
    where
      l : Tree
      l = (kids-of i w y).0

      g : Kids i l w
      g = (kids-of i w y).1

      o : Shows limit t i l
      o = shows limit t limit limit i l w h.rep g

      under : (i ≡ 0 → ⊥) → ((at t i).parent < limit) × Held t (at t i).parent × Among limit limit t (at t (at t i).parent).first i
      under z =
          let s = spot_in i w ro y z in
          let m = after s.before (grow i s.datum s.below s.behind) in
          let v = shows limit t limit limit s.parent m w h.rep s.kids in
          let e : (at t i).parent ≡ s.parent =
          ap (λ (n : Node). n.parent) (piece-at limit t s.parent limit i s.before s.datum s.below s.behind v.rep)
          in
          let c = kids-count s.parent m w s.kids in
          let c₁ = count-after s.before (grow i s.datum s.below s.behind) in
          rw (e, v.first) (
            v.low,
            held s.parent (kids-in s.parent m w s.kids),
            among-row limit t limit s.parent limit i s.before s.datum s.below s.behind v.rep (omega (arith, fits)),
          )

  -- what stands at the top
  top-at : (v : Tree) → Rooted v → Rep limit t limit limit v → Deep 0 v
      → In 0 v × ((at t 0).datum.level ≡ 0) × ((at t 0).parent ≡ limit) × ((at t 0).prev ≡ limit) × ((at t 0).next ≡ limit)
  top-at nil z rep dp = absurd z
  top-at (grow p d k r) z rep dp =
      let e : at t 0 ≡ mk d limit limit (head limit k) (last limit k) limit = rw (z.0, z.1) at rep.1 in (
        inl (sym z.0),
        ap (λ (n : Node). n.datum.level) e ∙ dp.0,
        ap (λ (n : Node). n.parent) e,
        ap (λ (n : Node). n.prev) e,
        ap (λ (n : Node). n.next) e,
      )

  pub holds-linkage : Linkage limit t
  holds-linkage =
      let o = top-at w ro h.rep deep in
      record {
        len = h.len;
        top = held 0 o.0;
        base = o.1;
        root = (o.2, o.3, o.4);
        each = λ i b z. ⊎_elim (local i) (λ n. absurd (gone i z (h.rest i b n))) (in? i w);
        rest = λ i b z. ⊎_elim (λ y. let s = held i y in let no-serial : ⊥ = omega arith in absurd no-serial) (h.rest i b) (in? i w);
      }
    where
      gone : (i : ℕ) → Held t i → at t i ≡ zero_node → ⊥
      gone i z e = let s : (at t i).datum.serial ≡ 0 = ap (λ (n : Node). n.datum.serial) e in omega arith
