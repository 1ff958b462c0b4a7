-- A table that is linked place by place holds the tree that is read from it: no place is twice in the tree, the held places are in it and no
-- others, and each row is one level deeper than the row above.
use mathlib.Core.Path.{◌≡◌, refl, sym, ap, ◌∙◌, subst}
use mathlib.Core.List.{List, [], ◌∷◌}
use mathlib.Core.Logic.{◌⊎◌, inl, inr, ⊎_elim}
use Prim.Native.Nat.{ℕ, zero, suc, ◌+◌, ◌-◌, ◌<◌, ◌≤◌}
use native.Mathlib.Nat.{not-suc-le-zero, zero-lt-suc}
use native.Mathlib.Omega.{arith}
use lib.ListN.{length}
use borrow.Author.Tests.{le-leb, lt-leb}
use Rattle.piece.specs.declared.node.Datum.{Datum}
use Rattle.piece.specs.Row.{nil, grow}
use Rattle.tree.specs.Tree.{Tree, In, Distinct}
use Rattle.tree.specs.Steps.{Deep}
use Rattle.tree.proofs.Rows.{same?}
use Rattle.tree.proofs.Kids.{kids-of, kids_under}
use Rattle.table.specs.declared.Node.{Node}
use Rattle.table.specs.Table.{mk, at, Held, head, last, Rep, Holds}
use Rattle.table.specs.Build.{chain, kids, tree_of}
use Rattle.table.proofs.Linkage.{Linked, Among, Local, Linkage}
use Rattle.table.proofs.Rep.{shows, limit-out}

module _ (limit : ℕ) (t : List Node) where
  pub chain-none : (sub : ℕ → Tree) (m p : ℕ) → limit ≤ p → chain limit sub m t p ≡ nil
  unfolding chain
  chain-none sub zero p h = refl
  chain-none sub (suc m) p h = rw (le-leb limit p h) refl

  pub chain-some : (sub : ℕ → Tree) (m p : ℕ) → p < limit
      → chain limit sub (suc m) t p ≡ grow p (at t p).datum (sub p) (chain limit sub m t (at t p).next)
  unfolding chain
  chain-some sub m p h = rw (lt-leb limit p h) refl

  -- the row w is what stands from p on, after pv, among the children of q
  record Read (q pv p : ℕ) (w : Tree) : Type 0 where
    rep : Rep limit t q pv w
    deep : Deep ((at t q).datum.level + 1) w
    held : (i : ℕ) → In i w → Held t i
    from : head limit w ≡ p
    to : last pv w ≡ (at t q).last

  -- a row of siblings, where each one's children are read
  read-chain : (sub : ℕ → Tree) (m q pv p : ℕ) → Linked limit m t q pv p
      → ((i : ℕ) → i < limit → Held t i → (at t i).datum.level ≡ (at t q).datum.level + 1 → Read i limit (at t i).first (sub i))
      → Read q pv p (chain limit sub m t p)
  read-chain sub zero q pv p l f = absurd l
  read-chain sub (suc m) q pv p (inl l) f =
      rw (chain-none sub (suc m) p (omega arith))
      (record { rep = tt; deep = tt; held = λ i h. absurd h; from = l.0; to = sym l.1 })
  read-chain sub (suc m) q pv p (inr l) f =
      let g = f p l.0 l.1 l.4 in
      let r = read-chain sub m q p (at t p).next l.5 f in
      rw (chain-some sub m p l.0)
      (record {
        rep = (l.0, rw (g.from, g.to, r.from, sym l.2, sym l.3) refl, g.rep, r.rep);
        deep = (l.4, rw l.4 at g.deep, r.deep);
        held = λ i h. ⊎_elim (λ e. rw e l.1) (λ z. ⊎_elim (g.held i) (r.held i) z) h;
        from = refl;
        to = r.to;
      })

  module _ (each : (i : ℕ) → i < limit → Held t i → Local limit t i) where
    read-kids : (n p : ℕ) → p < limit → Held t p → limit ≤ n + (at t p).datum.level → Read p limit (at t p).first (kids limit n t p)
    unfolding kids
    read-kids zero p b h l = let z : (at t p).datum.level < limit = (each p b h).low in let no-level : ⊥ = omega arith in absurd no-level
    read-kids (suc n) p b h l =
        read-chain (kids limit n t) limit p limit (at t p).first (each p b h).linked (λ i bi hi li. read-kids n i bi hi (omega arith))

-- No place is twice in a row that a table holds: a piece's ancestors are found by its links.

-- j is in the row itself
abbrev Top : ℕ → Tree → Type 0
Top j nil = ⊥
Top j (grow p d k r) = (j ≡ p) ⊎ Top j r

top_in : (j : ℕ) (w : Tree) → Top j w → In j w
top_in j nil h = h
top_in j (grow p d k r) (inl e) = inl e
top_in j (grow p d k r) (inr h) = inr (inr (top_in j r h))

-- so many parents up
up : ℕ → List Node → ℕ → ℕ
up zero t i = i
up (suc n) t i = (at t (up n t i)).parent

module _ (limit : ℕ) (t : List Node) where
  level_in : (q pv lv i : ℕ) (w : Tree) → Rep limit t q pv w → Deep lv w → In i w → lv ≤ (at t i).datum.level
  level_in q pv lv i nil rep dp h = absurd h
  level_in q pv lv i (grow p d k r) rep dp (inl e) = rw (e, rep.1, dp.0) (omega arith)
  level_in q pv lv i (grow p d k r) rep dp (inr (inl h)) =
      let z : lv + 1 ≤ (at t i).datum.level = level_in p limit (lv + 1) i k rep.2 dp.1 h in omega arith
  level_in q pv lv i (grow p d k r) rep dp (inr (inr h)) = level_in q p lv i r rep.3 dp.2 h

  top-parent : (q pv j : ℕ) (w : Tree) → Rep limit t q pv w → Top j w → (at t j).parent ≡ q
  top-parent q pv j nil rep h = absurd h
  top-parent q pv j (grow p d k r) rep (inl e) = rw (e, rep.1) refl
  top-parent q pv j (grow p d k r) rep (inr h) = top-parent q p j r rep.3 h

  top-prev : (q pv j : ℕ) (w : Tree) → Rep limit t q pv w → Top j w → ((at t j).prev ≡ pv) ⊎ Top (at t j).prev w
  top-prev q pv j nil rep h = absurd h
  top-prev q pv j (grow p d k r) rep (inl e) = inl (rw (e, rep.1) refl)
  top-prev q pv j (grow p d k r) rep (inr h) = inr (top-prev q p j r rep.3 h)

  -- the ancestor, at p's level, of what is below p is p
  kid-up : (p lv i : ℕ) (k : Tree) → Rep limit t p limit k → lv + 1 ≤ (at t i).datum.level → Top (up ((at t i).datum.level - (lv + 1)) t i) k
      → up ((at t i).datum.level - lv) t i ≡ p
  unfolding up
  kid-up p lv i k rep b h =
      let z : (at t i).datum.level - lv ≡ suc ((at t i).datum.level - (lv + 1)) = omega arith in
      rw z (top-parent p limit (up ((at t i).datum.level - (lv + 1)) t i) k rep h)

  -- the ancestor at the row's level is in the row
  up_in : (q pv lv i : ℕ) (w : Tree) → Rep limit t q pv w → Deep lv w → In i w → Top (up ((at t i).datum.level - lv) t i) w
  unfolding up
  up_in q pv lv i nil rep dp h = absurd h
  up_in q pv lv i (grow p d k r) rep dp (inl e) =
      let z : (at t i).datum.level - lv ≡ 0 = rw (e, rep.1, dp.0) (omega arith) in rw z (inl e)
  up_in q pv lv i (grow p d k r) rep dp (inr (inl h)) =
      inl (kid-up p lv i k rep.2 (level_in p limit (lv + 1) i k rep.2 dp.1 h) (up_in p limit (lv + 1) i k rep.2 dp.1 h))
  up_in q pv lv i (grow p d k r) rep dp (inr (inr h)) = inr (up_in q p lv i r rep.3 dp.2 h)

  once : (q pv p : ℕ) (d : Datum) (k r : Tree) → Rep limit t q pv (grow p d k r) → (Top pv (grow p d k r) → ⊥) → Top p r → ⊥
  once q pv p d k r rep n h =
      n (subst (λ (v : ℕ). Top v (grow p d k r)) (ap (λ (x : Node). x.prev) rep.1) (top-prev q p p r rep.3 h))

  distinct-rep : (q pv lv : ℕ) (w : Tree) → Rep limit t q pv w → Deep lv w → (Top pv w → ⊥) → Distinct w
  unfolding up
  distinct-rep q pv lv nil rep dp n = tt
  distinct-rep q pv lv (grow p d k r) rep dp n =
      let one = once q pv p d k r rep n in
      let here : (at t p).datum.level ≡ lv = ap (λ (x : Node). x.datum.level) rep.1 ∙ dp.0 in record {
        not_below = λ h. let z : lv + 1 ≤ (at t p).datum.level = level_in p limit (lv + 1) p k rep.2 dp.1 h in omega arith;
        not_beside = λ h. let z : (at t p).datum.level - lv ≡ 0 = omega arith in one (rw z at (up_in q p lv p r rep.3 dp.2 h));
        apart = λ i h g.
            let b : lv + 1 ≤ (at t i).datum.level = level_in p limit (lv + 1) i k rep.2 dp.1 h in
            let e = kid-up p lv i k rep.2 b (up_in p limit (lv + 1) i k rep.2 dp.1 h) in
            one (rw e at (up_in q p lv i r rep.3 dp.2 g));
        below = distinct-rep p limit (lv + 1) k rep.2 dp.1 (λ h. limit-out limit t p limit k rep.2 (top_in limit k h));
        beside = distinct-rep q p lv r rep.3 dp.2 one;
      }

  -- what stands among the siblings from the head of a row on is in the row
  among_in : (m q pv j : ℕ) (w : Tree) → Rep limit t q pv w → Among limit m t (head limit w) j → In j w
  among_in zero q pv j w rep a = absurd a
  among_in (suc m) q pv j nil rep a = let z : limit < limit = a.0 in let no_place : ⊥ = omega arith in no_place
  among_in (suc m) q pv j (grow p d k r) rep a =
      ⊎_elim inl (λ b. inr (inr (among_in m q p j r rep.3 (rw (ap (λ (x : Node). x.next) rep.1) at b)))) a.1

  among-level : (m q pv p j : ℕ) → Linked limit m t q pv p → Among limit m t p j → (at t j).datum.level ≡ (at t q).datum.level + 1
  among-level zero q pv p j l a = absurd l
  among-level (suc m) q pv p j (inl l) a =
      let b : p < limit = a.0 in let e : limit ≡ p = l.0 in let no_place : ⊥ = omega arith in absurd no_place
  among-level (suc m) q pv p j (inr l) a = ⊎_elim (λ e. rw e l.4) (λ b. among-level m q p (at t p).next j l.5 b) a.1

known : (x : Node) (q pv n : ℕ) → x.parent ≡ q → x.prev ≡ pv → x.next ≡ n → x ≡ mk x.datum q pv x.first x.last n
known x q pv n a b c = λ i. mk x.datum (a i) (b i) x.first x.last (c i)

-- a table in which the place 0 is held has a place
some-place : (limit : ℕ) (t : List Node) → length t ≡ limit → Held t 0 → 0 < limit
some-place limit [] e h = absurd (not-suc-le-zero h)
some-place limit (n ∷ ns) e h = rw (sym e) (zero-lt-suc (length ns))

module _ (limit : ℕ) (t : List Node) (s : Linkage limit t) where
  low : 0 < limit
  low = some-place limit t s.len s.top

  read : Read limit t 0 limit (at t 0).first (kids limit limit t 0)
  read = read-kids limit t s.each limit 0 low s.top (omega arith)

  rep-tree : Rep limit t limit limit (tree_of limit t)
  unfolding tree_of
  rep-tree =
      (low, rw (read.from, read.to) (known (at t 0) limit limit limit s.root.0 s.root.1 s.root.2), read.rep, tt)

  -- each row is one level deeper than the row above
  pub linkage-deep : Deep 0 (tree_of limit t)
  unfolding tree_of
  linkage-deep = (s.base, rw s.base at read.deep, tt)

  -- by the level: the parent of a held place is held one level up
  step_in : (j : ℕ) → j < limit → Held t j
      → ((i : ℕ) → (at t i).datum.level + 1 ≡ (at t j).datum.level → i < limit → Held t i → In i (tree_of limit t)) → In j (tree_of limit t)
  step_in j b h ih = go (same? j 0)
    where
      go : (j ≡ 0) ⊎ (j ≡ 0 → ⊥) → In j (tree_of limit t)
      go (inl e) = unfold tree_of in (inl e)
      go (inr n) =
          let u = (s.each j b h).hangs n in
          let q = (at t j).parent in
          let l = (s.each q u.0 u.1).linked in
          let k = kids-of q (tree_of limit t) (ih q (sym (among-level limit t limit q limit (at t q).first j l u.2)) u.0 u.1) in
          let o = shows limit t limit limit q k.0 (tree_of limit t) rep-tree k.1 in
          kids_under q k.0 j (tree_of limit t) k.1 (among_in limit t limit q limit j k.0 o.rep (rw o.first at u.2))

  at_level : (n j : ℕ) → (at t j).datum.level ≡ n → j < limit → Held t j → In j (tree_of limit t)
  at_level zero j e b h = step_in j b h (λ i ei bi hi. let no-level : ⊥ = omega arith in absurd no-level)
  at_level (suc n) j e b h = step_in j b h (λ i ei bi hi. at_level n i (omega arith) bi hi)

  -- a held place is in the tree
  pub held_in : (i : ℕ) → i < limit → Held t i → In i (tree_of limit t)
  held_in i b h = at_level (at t i).datum.level i refl b h

  -- a place of the tree is held
  pub in_held : (i : ℕ) → In i (tree_of limit t) → Held t i
  unfolding tree_of
  in_held i h = ⊎_elim (λ e. rw e s.top) (λ z. ⊎_elim (read.held i) absurd z) h

  pub linkage-holds : Holds limit t (tree_of limit t)
  linkage-holds =
      record {
        len = s.len;
        rep = rep-tree;
        distinct = distinct-rep limit t limit limit 0 (tree_of limit t) rep-tree linkage-deep
            (λ h. limit-out limit t limit limit (tree_of limit t) rep-tree (top_in limit (tree_of limit t) h));
        rest = λ i b n. ⊎_elim (s.rest i b) (λ z. absurd (n (held_in i b (omega arith)))) (same? (at t i).datum.serial 0);
      }
