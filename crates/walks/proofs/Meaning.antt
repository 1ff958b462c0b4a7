-- What the walks give on the columns of a table that holds a tree: document 01's order of a removal, its snapshot and its tree usage. The laws
-- stand at the end. They rest on the steps of the walks (Chain, WalkSteps, UsageSteps), on what `table` says of a table that holds a row (Rep,
-- Holds), and on what `tree` says of rows. Assumes nothing.
use mathlib.Core.Path.{◌≡◌, refl, sym, ap, ◌∙◌, subst}
use mathlib.Core.List.{List, [], ◌∷◌, ◌++◌, map, append-nil}
use mathlib.Core.Logic.{◌⊎◌, inl, inr}
use Prim.Native.Nat.{ℕ, ◌-◌, ◌^◌, ◌<◌, ◌≤◌}
use native.Mathlib.Nat.{le_refl}
use native.Mathlib.Omega.{arith}
use lib.ListN.{length, get_or, length-append, get_or-map}
use lib.Ieee.{Float, binary64, add, mul, div}
use borrow.Author.Tests.{eq-eqb, ne_eqb}
use Rattle.piece.specs.declared.node.Datum.{Datum}
use Rattle.piece.specs.declared.node.Kind.{Kind}
use Rattle.piece.specs.declared.node.Kind.TheVariants.{Free, Part, Structure}
use Rattle.piece.specs.Sides.{area}
use Rattle.piece.specs.Row.{Row, nil, grow}
use Rattle.piece.specs.Numbers.{kind_no}
use Rattle.tree.specs.Tree.{Tree, In, Distinct, count}
use Rattle.tree.specs.Steps.{Kids}
use Rattle.tree.specs.Removal.{subtree}
use Rattle.tree.specs.Snapshot.{node_bytes, snapshot}
use Rattle.tree.specs.Figures.{nought, whole, added, tree_usage}
use Rattle.tree.specs.Figures as figures
use Rattle.tree.proofs.Rows.{same?, after-nil}
use Rattle.tree.proofs.Kids.{kids-count}
use Rattle.tree.proofs.Goes.{subtree-absent}
use Rattle.table.specs.declared.Node.{Node}
use Rattle.table.specs.Table.{zero_node, at, head, Rep, Holds}
use Rattle.table.specs.Columns.{kind_no_of, first_of}
use Rattle.table.proofs.Rep.{shows}
use Rattle.walks.specs.Chain.{siblings}
use Rattle.walks.specs.Walk.{gathered, nothing, walk_of}
use Rattle.walks.specs.Order.{itself, children_first}
use Rattle.walks.specs.Usage.{weight, summed}
use Rattle.walks.specs.Inner.{Small}
use Rattle.walks.specs.Columns.{firsts_of, nexts_of, kinds_of, areas_of, level_of, number_of, width_of, height_of, eaten_of, columns_of, cut_no_of}
use Rattle.walks.specs.Columns.{node_bytes_in, order_in, snapshot_in, usage_in}
use Rattle.walks.proofs.Chain.{siblings-over, siblings-more}
use Rattle.walks.proofs.WalkSteps.{walk_more}
use Rattle.walks.proofs.NodeBytes.{node-before}
use Rattle.walks.proofs.UsageSteps.{sum, usage-free, usage-part, usage-more}

-- the places of a row alone
abbrev tops : {A : Type 0} → Row A → List ℕ
tops nil = []
tops (grow p d k r) = p ∷ tops r

-- the order has each node once
pub length-order : {A : Type 0} (r : Row A) → length (children_first r) ≡ count r
length-order nil = refl
length-order (grow p d k r) =
    let hk = length-order k in
    let hr = length-order r in
    omega (arith, length-append (children_first k ++ (p ∷ [])) (children_first r), length-append (children_first k) (p ∷ []))

-- what the walks read of a piece in the columns of the table
record Piece (limit : ℕ) (t : List Node) (p : ℕ) (d : Datum) (k r : Tree) : Type 0 where
  placed : p < limit
  first : get_or (firsts_of t) p 0 ≡ head limit k
  next : get_or (nexts_of t) p 0 ≡ head limit r
  kind : get_or (kinds_of t) p 0 ≡ kind_no d.kind
  covers : get_or (areas_of t) p 0 ≡ area d.size
  bytes : node_bytes_in (columns_of t) p ≡ node_bytes d []

-- of each piece of a row and below it
abbrev Shown : ℕ → List Node → Tree → Type 0
Shown limit t nil = Unit {0}
Shown limit t (grow p d k r) = Piece limit t p d k r × Shown limit t k × Shown limit t r

-- a column at a place is that field of the node there
column : (f : Node → ℕ) (t : List Node) (p : ℕ) (n : Node) → at t p ≡ n → get_or (map f t) p (f zero_node) ≡ f n
column f t p n e = get_or-map f t p zero_node ∙ ap f e

bytes-column : (t : List Node) (p : ℕ) (n : Node) → at t p ≡ n → node_bytes_in (columns_of t) p ≡ node_bytes n.datum []
unfolding node_bytes
bytes-column t p n e =
    rw (
      column level_of t p n e,
      column kind_no_of t p n e,
      column cut_no_of t p n e,
      column number_of t p n e,
      column width_of t p n e,
      column height_of t p n e,
      column eaten_of t p n e,
    ) refl

-- a table that holds a row shows it
shown : (limit : ℕ) (t : List Node) (q pv : ℕ) (r : Tree) → Rep limit t q pv r → Shown limit t r
shown limit t q pv nil e = e
shown limit t q pv (grow p d k r) e = (
  record {
    placed = e.0;
    first = column (λ (n : Node). n.first) t p _ e.1;
    next = column (λ (n : Node). n.next) t p _ e.1;
    kind = column (λ (n : Node). kind_no n.datum.kind) t p _ e.1;
    covers = column (λ (n : Node). area n.datum.size) t p _ e.1;
    bytes = bytes-column t p _ e.1;
  },
  shown limit t p limit k e.2,
  shown limit t q p r e.3,
)

module _ (limit : ℕ) (t : List Node) where
  -- what the walks share: the chain of siblings is the row, if the fuel reaches
  chain : (r : Tree) (m : ℕ) → Shown limit t r → count r ≤ m → siblings limit (nexts_of t) m (head limit r) ≡ tops r
  chain nil m e h = siblings-over limit (nexts_of t) limit m (le_refl limit)
  chain (grow p d k r) m e h =
      siblings-more limit (nexts_of t) p m (omega arith) e.0.placed
      ∙ ap (λ (c : ℕ). p ∷ siblings limit (nexts_of t) (m - 1) c) e.0.next
      ∙ ap (λ (l : List ℕ). p ∷ l) (chain r (m - 1) e.2 (omega arith))

  -- the children of a piece
  children : (p : ℕ) (k : Tree) (m : ℕ) → get_or (firsts_of t) p 0 ≡ head limit k → Shown limit t k → count k ≤ m
      → siblings limit (nexts_of t) m (get_or (firsts_of t) p 0) ≡ tops k
  children p k m e f h = ap (siblings limit (nexts_of t) m) e ∙ chain k m f h

  -- A walk down a row, and W, what it is to write of a row: nothing of the empty row, and of a piece its own before its children's or after them,
  -- and then that of its later siblings.
  module _ (before after : ℕ → List ℕ) (W : Tree → List ℕ) (none : W nil ≡ [])
      (more : (p : ℕ) (d : Datum) (k r : Tree) → node_bytes_in (columns_of t) p ≡ node_bytes d []
      → (before p ++ (W k ++ after p)) ++ W r ≡ W (grow p d k r)) where
    abbrev walked : ℕ → ℕ → List ℕ
    walked n x = walk_of limit (firsts_of t) (nexts_of t) before after n x

    -- of a piece, from what it writes of its children
    walk-of : (p : ℕ) (k : Tree) (n : ℕ) → get_or (firsts_of t) p 0 ≡ head limit k → Shown limit t k → count k < n
        → gathered (walked (n - 1)) (tops k) ≡ W k → walked n p ≡ before p ++ (W k ++ after p)
    walk-of p k n e f h g =
        walk_more limit (firsts_of t) (nexts_of t) before after n p (λ z. omega arith)
        ∙ ap (λ (l : List ℕ). before p ++ (gathered (walked (n - 1)) l ++ after p)) (children p k (n - 1) e f (omega arith))
        ∙ ap (λ (l : List ℕ). before p ++ (l ++ after p)) g

    -- of a row
    walk-row : (r : Tree) (n : ℕ) → Shown limit t r → count r ≤ n → gathered (walked n) (tops r) ≡ W r
    walk-row nil n e h = sym none
    walk-row (grow p d k r) n e h =
        ap (λ (l : List ℕ). l ++ gathered (walked n) (tops r)) (walk-of p k n e.0.first e.1 (omega arith) (walk-row k (n - 1) e.1 (omega arith)))
        ∙ ap (λ (l : List ℕ). (before p ++ (W k ++ after p)) ++ l) (walk-row r n e.2 (omega arith))
        ∙ more p d k r e.0.bytes

    -- of a piece alone
    walk_at : {p : ℕ} {d : Datum} {k r : Tree} (n : ℕ) → Piece limit t p d k r → Shown limit t k → count k < n
        → walked n p ≡ W (grow p d k nil)
    walk_at {p = p} {d = d} {k = k} n e f h =
        walk-of p k n e.first f h (walk-row k (n - 1) f (omega arith))
        ∙ sym (append-nil (before p ++ (W k ++ after p)))
        ∙ ap (λ (l : List ℕ). (before p ++ (W k ++ after p)) ++ l) (sym none)
        ∙ more p d k nil e.bytes

  -- the usage of a place by its kind, from its area and its children's sum
  by_kind : (n p : ℕ) (c : Kind) (a : ℕ) (s : Float) → (n ≡ 0 → ⊥) → get_or (kinds_of t) p 0 ≡ kind_no c → get_or (areas_of t) p 0 ≡ a
      → sum limit (firsts_of t) (nexts_of t) (kinds_of t) (areas_of t) n (n - 1) (get_or (firsts_of t) p 0) nought ≡ s
      → usage_in limit t n p ≡ figures.usage_of c a s
  by_kind n p Free a s some e f g = usage-free limit (firsts_of t) (nexts_of t) (kinds_of t) (areas_of t) n p some e
  by_kind n p Part a s some e f g = usage-part limit (firsts_of t) (nexts_of t) (kinds_of t) (areas_of t) n p some e
  by_kind n p Structure a s some e f g =
      usage-more limit (firsts_of t) (nexts_of t) (kinds_of t) (areas_of t) n p some (λ z. omega arith) (λ z. omega arith)
      ∙ ap (λ (u : Float). div binary64 u (weight (areas_of t) p)) g
      ∙ ap (λ (b : ℕ). div binary64 s (whole b)) f

  -- the usage of a piece, from what its children add
  usage-of : {p : ℕ} {d : Datum} {k r : Tree} (n : ℕ) → Piece limit t p d k r → Shown limit t k → count k < n
      → summed (usage_in limit t (n - 1)) (areas_of t) (tops k) nought ≡ added nought k
      → usage_in limit t n p ≡ tree_usage (grow p d k nil)
  usage-of {p = p} {d = d} {k = k} n e f h g =
      by_kind n p d.kind (area d.size) (added nought k) (λ z. omega arith) e.kind e.covers
      (ap
      (λ (l : List ℕ). summed (usage_in limit t (n - 1)) (areas_of t) l nought)
      (children p k (n - 1) e.first f (omega arith))
      ∙ g)

  -- what a row adds to s
  usage-row : (r : Tree) (n : ℕ) → Shown limit t r → count r ≤ n → (s : Float)
      → summed (usage_in limit t n) (areas_of t) (tops r) s ≡ added s r
  unfolding added
  usage-row nil n e h s = refl
  usage-row (grow p d k r) n e h s =
      ap
      (λ (z : Float). summed (usage_in limit t n) (areas_of t) (tops r) (add binary64 s z))
      (ap
      (λ (a : ℕ). mul binary64 (whole a) (usage_in limit t n p))
      e.0.covers
      ∙ ap (mul binary64 (whole (area d.size)))
      (usage-of n e.0 e.1 (omega arith) (usage-row k (n - 1) e.1 (omega arith) nought)))
      ∙ usage-row r n e.2 (omega arith) _

  -- the order at a piece, by its children
  order-of : (p : ℕ) (k : Tree) (n : ℕ) → get_or (firsts_of t) p 0 ≡ head limit k → Shown limit t k → count k < n
      → order_in limit t n p ≡ children_first k ++ itself p
  order-of p k n e f h =
      walk-of nothing itself children_first refl (λ p d k r b. refl) p k n e f h
      (walk-row nothing itself children_first refl (λ p d k r b. refl) k (n - 1) f (omega arith))

  -- the walks at a piece
  order-at : {p : ℕ} {d : Datum} {k r : Tree} (n : ℕ) → Piece limit t p d k r → Shown limit t k → count k < n
      → order_in limit t n p ≡ children_first (grow p d k nil)
  order-at {p = p} {k = k} n e f h = order-of p k n e.first f h ∙ sym (append-nil (children_first k ++ itself p))

  snapshot-at : {p : ℕ} {d : Datum} {k r : Tree} (n : ℕ) → Piece limit t p d k r → Shown limit t k → count k < n
      → snapshot_in limit (columns_of t) n p ≡ snapshot (grow p d k nil)
  unfolding snapshot
  snapshot-at n e f h =
      walk_at (node_bytes_in (columns_of t)) nothing snapshot refl
      (λ p d k r b. ap (λ (l : List ℕ). (l ++ (snapshot k ++ [])) ++ snapshot r) b ∙ node-before d (snapshot k) (snapshot r)) n e f h

  usage-at : {p : ℕ} {d : Datum} {k r : Tree} (n : ℕ) → Piece limit t p d k r → Shown limit t k → count k < n
      → usage_in limit t n p ≡ tree_usage (grow p d k nil)
  usage-at {k = k} n e f h = usage-of n e f h (usage-row k (n - 1) f (omega arith) nought)

-- at a place of a tree in which no place is twice: what holds of each piece that the columns show holds of the subtree there
module _ (limit : ℕ) (t : List Node) (x n : ℕ) (P : Tree → Type 0)
    (each : (d : Datum) (k r : Tree) → Piece limit t x d k r → Shown limit t k → count k < n → P (grow x d k nil)) where
  pick : (p : ℕ) (d : Datum) (k r : Tree) → Distinct (grow p d k r) → Shown limit t (grow p d k r) → count (grow p d k r) ≤ n
      → (p ≡ x) ⊎ (p ≡ x → ⊥) → In x (grow p d k r) → (In x k → P (subtree x k)) → (In x r → P (subtree x r))
      → P (subtree x (grow p d k r))
  pick p d k r ds e h (inl z) i a b =
      rw
      (eq-eqb p x z, z)
      (each d k r (subst (λ (y : ℕ). Piece limit t y d k r) z e.0) e.1 (omega arith))
  pick p d k r ds e h (inr z) (inl y) a b = absurd (z (sym y))
  pick p d k r ds e h (inr z) (inr (inl y)) a b = rw (ne_eqb p x z, subtree-absent x r (ds.apart x y), after-nil) (a y)
  pick p d k r ds e h (inr z) (inr (inr y)) a b = rw (ne_eqb p x z, subtree-absent x k (λ o. ds.apart x o y)) (b y)

  at_place : (w : Tree) → Distinct w → In x w → Shown limit t w → count w ≤ n → P (subtree x w)
  at_place nil ds i e h = absurd i
  at_place (grow p d k r) ds i e h =
      pick p d k r ds e h (same? p x) i
      (λ y. at_place k ds.below y e.1 (omega arith))
      (λ y. at_place r ds.beside y e.2 (omega arith))

-- The laws. `left` is the fuel: the count of nodes held is enough.
module _ (limit : ℕ) (t : List Node) where
  -- of the top of the tree that the table holds
  pub usage-top : (p : ℕ) (d : Datum) (k : Tree) (left : ℕ) → Holds limit t (grow p d k nil) → count (grow p d k nil) ≤ left
      → usage_in limit t left p ≡ tree_usage (grow p d k nil)
  usage-top p d k left w h =
      let s = shown limit t limit limit (grow p d k nil) w.rep in
      usage-at limit t left s.0 s.1 (omega arith)

  -- of a piece with these children
  pub order-kids : (x : ℕ) (k w : Tree) (left : ℕ) → Holds limit t w → Kids x k w → count w ≤ left
      → order_in limit t left x ≡ children_first k ++ itself x
  order-kids x k w left holds kids h =
      let o = shows limit t limit limit x k w holds.rep kids in
      order-of limit t x k left (column first_of t x _ refl ∙ o.first) (shown limit t x limit k o.rep) (omega (arith, kids-count x k w kids))

  -- of any place of the tree that the table holds
  module _ (w : Tree) (x left : ℕ) (holds : Holds limit t w) (is : In x w) (fuel : count w ≤ left) where
    subtree-by : (P : Tree → Type 0)
        → ((d : Datum) (k r : Tree) → Piece limit t x d k r → Shown limit t k → count k < left → P (grow x d k nil)) → P (subtree x w)
    subtree-by P each = at_place limit t x left P each w holds.distinct is (shown limit t limit limit w holds.rep) fuel

    pub order-subtree : order_in limit t left x ≡ children_first (subtree x w)
    order-subtree =
        subtree-by (λ (u : Tree). order_in limit t left x ≡ children_first u) (λ d k r e f h. order-at limit t left e f h)

    pub snapshot-subtree : snapshot_in limit (columns_of t) left x ≡ snapshot (subtree x w)
    snapshot-subtree =
        subtree-by (λ (u : Tree). snapshot_in limit (columns_of t) left x ≡ snapshot u) (λ d k r e f h. snapshot-at limit t left e f h)

    pub usage-subtree : usage_in limit t left x ≡ tree_usage (subtree x w)
    usage-subtree =
        subtree-by (λ (u : Tree). usage_in limit t left x ≡ tree_usage u) (λ d k r e f h. usage-at limit t left e f h)

  -- what `usage_of` asks of the areas
  pub small : ((i : ℕ) → area (at t i).datum.size < 2 ^ 52) → Small (areas_of t)
  small h i = rw (column (λ (n : Node). area n.datum.size) t i (at t i) refl) (h i)
