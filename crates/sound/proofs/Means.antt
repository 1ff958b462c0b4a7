-- What the answer yes of the soundness check's tests means: the table is linked, so that it holds the tree that is read from it, and that
-- tree is sound.
use mathlib.Core.Path.{◌≡◌, refl, sym, ap, ◌∙◌, subst}
use mathlib.Core.List.{List}
use mathlib.Core.Bool.{true}
use mathlib.Core.Logic.{◌⊎◌, inl, inr, ⊎_elim}
use Prim.Native.Nat.{ℕ, zero, suc, ◌+◌, ◌<◌, ◌≤◌}
use native.Mathlib.Omega.{arith}
use native.Mathlib.Decide.{dec_lt}
use lib.ListN.{length}
use Rattle.piece.specs.declared.node.Datum.{Datum}
use Rattle.piece.specs.declared.node.Kind.{Kind}
use Rattle.piece.specs.declared.node.Kind.TheVariants.{Free, Part, Structure}
use Rattle.piece.specs.declared.settings.Settings.{Settings}
use Rattle.piece.specs.Sides.{other, laid}
use Rattle.piece.specs.Row.{nil, grow}
use Rattle.tree.specs.Tree.{Tree, At, count}
use Rattle.tree.specs.Sound.{Domain, extent, Kinded, Child, Children, Topped, Sound}
use Rattle.tree.proofs.Rows.{same?, at_in}
use Rattle.tree.proofs.Pieces.{free-piece, part-piece, structure-piece, top, sound}
use Rattle.table.specs.declared.Node.{Node}
use Rattle.table.specs.Table.{mk, at, Held, head, last, Rep, Holds}
use Rattle.table.specs.Build.{tree_of}
use Rattle.table.proofs.Linkage.{Linked, Among, Linkage}
use Rattle.table.proofs.Rep.{bound, no-child}
use Rattle.table.proofs.Build.{linkage-holds, in_held}
use Rattle.table.proofs.Unique.{holds-room}
use Rattle.table.proofs.Links.{datum-is}
use Rattle.sound.specs.Places.{places_b, top_b}
use Rattle.sound.specs.Rows.{step, room, rows_b}
use Rattle.sound.proofs.PlacesSay.{Leaf, KindNode, Place, places-says, TopNode, top-says}
use Rattle.sound.proofs.RowsSay.{ChildNode, Siblings, step_is, RowOf, rows-says}

-- every held place but the top is among the children of some place
abbrev pub Hung : ℕ → List Node → Type 0
Hung limit t =
    (i : ℕ) → i < limit → (i ≡ 0 → ⊥) → Held t i → (q : ℕ) × (q < limit) × Among limit limit t (at t q).first i

-- the tests of the tree say yes
pub record Passes (limit : ℕ) (settings : Settings) (t : List Node) : Type 0 where
  pub places : places_b limit t ≡ true
  pub top : top_b limit settings (at t 0) ≡ true
  pub rows : rows_b limit settings t ≡ true
  pub hung : Hung limit t

leaf-or : (limit : ℕ) (n : Node) (κ : Kind) → KindNode limit κ n → Leaf limit n ⊎ (κ ≡ Structure)
leaf-or limit n Free h = inl h.leaf
leaf-or limit n Part h = inl h.leaf
leaf-or limit n Structure h = inr refl

some-child : (limit : ℕ) (k : Tree) → head limit k < limit → 1 ≤ count k
some-child limit nil h = let no_place : ⊥ = omega arith in absurd no_place
some-child limit (grow p d k r) h = omega arith

module _ (limit : ℕ) (settings : Settings) (t : List Node) where
  leaf-linked : (i m : ℕ) → 0 < m → Leaf limit (at t i) → Linked limit m t i limit (at t i).first
  leaf-linked i zero b h = let no_fuel : ⊥ = omega arith in absurd no_fuel
  leaf-linked i (suc m) b h = inl (sym h.first, h.last)

  siblings-linked : (q m pv p sum : ℕ) → Siblings limit settings t q m pv p sum → Linked limit m t q pv p
  siblings-linked q zero pv p sum h = h
  siblings-linked q (suc m) pv p sum h = go (dec_lt p limit) (siblings-linked q m p (at t p).next (sum + step (at t p)))
    where
      go : Dec (p < limit) → (Siblings limit settings t q m p (at t p).next (sum + step (at t p)) → Linked limit m t q p (at t p).next)
          → Linked limit (suc m) t q pv p
      go (yes l) ih = let g = h.1 l in inr (l, g.0.held, g.0.parent, g.0.prev, g.0.piece.level, ih g.1)
      go (no n) ih = let e = h.0 (omega arith) in inl (sym e.none, e.last)

  siblings-among : (q m pv p sum i : ℕ) → Siblings limit settings t q m pv p sum → Among limit m t p i
      → ((at t i).parent ≡ q) × ((at t i).datum.level ≤ settings.stages)
  siblings-among q zero pv p sum i h a = absurd h
  siblings-among q (suc m) pv p sum i h a =
      let g = h.1 a.0 in
      ⊎_elim (λ e. rw e (g.0.parent, g.0.piece.stage))
      (λ b. siblings-among q m p (at t p).next (sum + step (at t p)) i g.1 b) a.1

  -- nothing is among no siblings, and nothing but the top is where an unheld place points
  among_none : (m p i : ℕ) → limit ≤ p → Among limit m t p i → ⊥
  among_none zero p i l a = a
  among_none (suc m) p i l a = let b : p < limit = a.0 in omega arith

  among-top : (m i : ℕ) → (at t 0).next ≡ limit → (i ≡ 0 → ⊥) → Among limit m t 0 i → ⊥
  among-top zero i e n a = a
  among-top (suc m) i e n a = ⊎_elim n (λ b. among_none m (at t 0).next i (omega arith) b) a.1

  -- a place hangs under its parent, and is no deeper than the stages
  abbrev Under : ℕ → Type 0
  Under i =
      ((at t i).parent < limit) × Held t (at t i).parent × Among limit limit t (at t (at t i).parent).first i
      × ((at t i).datum.level ≤ settings.stages)

  -- a row's children fill what its parent has
  abbrev Filled : ℕ → ℕ → Tree → Type 0
  Filled q sum r = Children settings (at t q).datum r × (sum + extent (other (at t q).datum.cut) r ≡ room (at t q))

  kinded : (κ : Kind) (d : Datum) (p q pv : ℕ) (k r : Tree) → Rep limit t p limit k → Rep limit t q p r
      → KindNode limit κ (mk d q pv (head limit k) (last limit k) (head limit r))
      → (κ ≡ Structure → Children settings d k × (extent (other d.cut) k ≡ (laid (other d.cut) d.size).width))
      → Kinded κ d k r × Children settings d k
  kinded Free d p q pv k r below later h f =
      let e = no-child limit t p limit k below h.leaf.first in
      (free-piece e (no-child limit t q p r later h.next) h.unnumbered, rw e tt)
  kinded Part d p q pv k r below later h f =
      let e = no-child limit t p limit k below h.leaf.first in (part-piece e h.sided h.numbered, rw e tt)
  kinded Structure d p q pv k r below later h f =
      let g = f refl in (structure-piece (some-child limit k h.first) h.sided g.1 h.unnumbered, g.0)

module _ (limit : ℕ) (settings : Settings) (t : List Node) (places : (i : ℕ) → i < limit → Place limit (at t i))
    (rows : (q : ℕ) → q < limit → RowOf limit settings t q) where
  -- a piece of the tree, if its row is read
  solid : (q pv p : ℕ) (d : Datum) (k r : Tree) → Rep limit t q pv (grow p d k r) → Held t p
      → (Siblings limit settings t p limit limit (head limit k) 0 → Filled limit settings t p 0 k) → Kinded d.kind d k r × Children settings d k
  solid q pv p d k r rep held ih =
      let n = mk d q pv (head limit k) (last limit k) (head limit r) in
      let shown : KindNode limit d.kind n = rw rep.1 at ((places p rep.0).piece held) in
      let walked : d.kind ≡ Structure → Siblings limit settings t p limit limit (head limit k) 0 =
      λ e.
      rw (ap (λ (x : Node). x.first) rep.1) at
      (rows p rep.0 held (ap (λ (x : Node). x.datum.kind) rep.1 ∙ e))
      in
      kinded limit settings t d.kind d p q pv k r rep.2 rep.3 shown
      (λ e. let g = rw rep.1 at (ih (walked e)) in (g.0, omega (arith, g.1)))

  row_more : (q m pv sum p : ℕ) (d : Datum) (k r : Tree) → Rep limit t q pv (grow p d k r)
      → ChildNode limit settings (at t q) q pv (at t p) × Siblings limit settings t q m p (at t p).next (sum + step (at t p))
      → (Siblings limit settings t p limit limit (head limit k) 0 → Filled limit settings t p 0 k)
      → (Siblings limit settings t q m p (head limit r) (sum + step (at t p)) → Filled limit settings t q (sum + step (at t p)) r)
      → Filled limit settings t q sum (grow p d k r)
  row_more q m pv sum p d k r rep g ihk ihr =
      let e = ap (λ (x : Node). x.datum) rep.1 in
      let c : Child settings (at t q).datum d = rw e at g.0.piece in
      let here = step_is settings (at t p) (at t q).datum d e c in
      let s = solid q pv p d k r rep g.0.held ihk in
      let f = ihr (rw (ap (λ (x : Node). x.next) rep.1) at g.1) in
      let taken : sum + step (at t p) + extent (other (at t q).datum.cut) r ≡ room (at t q) = f.1 in
      let ends : head limit r ≡ limit → d.eaten ≡ 0 = rw rep.1 at g.0.last in
      (record { child = c; kinded = s.0; ends = λ z. ends (ap (head limit) z); below = s.1; beside = f.0 }, omega arith)

  -- the row that the table holds from there on
  row-filled : (q m pv sum : ℕ) (r : Tree) → Rep limit t q pv r → Siblings limit settings t q m pv (head limit r) sum
      → Filled limit settings t q sum r
  row-filled q zero pv sum nil rep h = absurd h
  row-filled q (suc m) pv sum nil rep h = let e = h.0 (omega arith) in let f = e.full in (tt, omega arith)
  row-filled q zero pv sum (grow p d k r) rep h = absurd h
  row-filled q (suc m) pv sum (grow p d k r) rep h =
      row_more q m pv sum p d k r rep (h.1 rep.0) (row-filled p limit limit 0 k rep.2) (row-filled q m p (sum + step (at t p)) r rep.3)

  pub tree-topped : (d : Datum) (k : Tree) → TopNode limit settings (at t 0) → Rep limit t limit limit (grow 0 d k nil)
      → Topped settings (grow 0 d k nil)
  tree-topped d k h rep =
      let n = mk d limit limit (head limit k) (last limit k) limit in
      let shown : TopNode limit settings n = rw rep.1 at h in
      let s = solid limit limit 0 d k nil rep h.held (row-filled 0 limit limit 0 k rep.2) in
      (top refl refl shown.level shown.kind shown.size shown.eaten (subst (λ (κ : Kind). Kinded κ d k nil) shown.kind s.0), s.1)

-- The tests of a table of `limit` places, where a tree cannot be deeper than that.
module _ (limit : ℕ) (settings : Settings) (t : List Node) (len : length t ≡ limit) (some : 0 < limit) (less : settings.stages < limit)
    (tests : Passes limit settings t) where
  places : (i : ℕ) → i < limit → Place limit (at t i)
  places = (places-says limit t).says tests.places

  rows : (q : ℕ) → q < limit → RowOf limit settings t q
  rows = (rows-says limit settings t).says tests.rows

  topmost : TopNode limit settings (at t 0)
  topmost = (top-says limit settings (at t 0)).says tests.top

  -- so does each held place but the top
  under : (i : ℕ) → i < limit → (i ≡ 0 → ⊥) → Held t i → Under limit settings t i
  under i b n h = held (same? (at t q).datum.serial 0)
    where
      u : (q : ℕ) × (q < limit) × Among limit limit t (at t q).first i
      u = tests.hung i b n h

      q : ℕ
      q = u.0

      kind : Held t q → Leaf limit (at t q) ⊎ ((at t q).datum.kind ≡ Structure) → Under limit settings t i
      kind l (inl e) = absurd (among_none limit settings t limit (at t q).first i (omega (arith, e.first)) u.2)
      kind l (inr e) =
          let g = siblings-among limit settings t q limit limit (at t q).first 0 i (rows q u.1 l e) u.2 in
          rw g.0 (u.1, l, u.2, g.1)

      held : ((at t q).datum.serial ≡ 0) ⊎ ((at t q).datum.serial ≡ 0 → ⊥) → Under limit settings t i
      held (inl e) =
          absurd (among-top limit settings t limit i topmost.next n
          (rw (ap (λ (x : Node). x.first) ((places q u.1).empty e)) at u.2))
      held (inr m) = let l : Held t q = omega arith in kind l (leaf-or limit (at t q) (at t q).datum.kind ((places q u.1).piece l))

  pub passes-linkage : Linkage limit t
  passes-linkage =
      record {
        len = len;
        top = topmost.held;
        base = topmost.level;
        root = (topmost.parent, topmost.prev, topmost.next);
        each = λ i b h. record { linked = linked i b h; low = low i b h; hangs = λ n. let u = under i b n h in (u.0, u.1, u.2) };
        rest = λ i b e. (places i b).empty e;
      }
    where
      linked : (i : ℕ) → i < limit → Held t i → Linked limit limit t i limit (at t i).first
      linked i b h =
          ⊎_elim (leaf-linked limit settings t i limit some)
          (λ e. siblings-linked limit settings t i limit limit (at t i).first 0 (rows i b h e))
          (leaf-or limit (at t i) (at t i).datum.kind ((places i b).piece h))

      low : (i : ℕ) → i < limit → Held t i → (at t i).datum.level < limit
      low i b h =
          ⊎_elim (λ e. let z : (at t i).datum.level ≡ 0 = ap (λ (x : ℕ). (at t x).datum.level) e ∙ topmost.level in omega arith)
          (λ n. let l = (under i b n h).3 in omega arith) (same? i 0)

  pub passes-holds : Holds limit t (tree_of limit t)
  passes-holds = linkage-holds limit t passes-linkage

  pub passes-topped : Topped settings (tree_of limit t)
  unfolding tree_of
  passes-topped = tree-topped limit settings t places rows _ _ topmost passes-holds.rep

  pub passes-sound : Domain settings → Sound limit settings (tree_of limit t)
  passes-sound dom =
      sound dom passes-topped (holds-room limit t (tree_of limit t) passes-holds)
      (λ i h. bound limit t limit limit i (tree_of limit t) passes-holds.rep h) passes-holds.distinct

  pub passes-serials : (i : ℕ) (e : Datum) → At i e (tree_of limit t) → 0 < e.serial
  passes-serials i e h =
      rw (datum-is limit t limit limit i e (tree_of limit t) passes-holds.rep h) at
      (in_held limit t passes-linkage i (at_in i e (tree_of limit t) h))
