-- The part numbers along an order, on a table that holds a tree: along the order of a removal they are those that come out; along every place
-- they are those that the tree's parts have, each as often. It rests on what `table` says of a table that holds a row (Rep, Holds) and on what
-- `tree` says of rows. Assumes nothing.
use mathlib.Core.Path.{◌≡◌, refl, sym, ap, ◌∙◌}
use mathlib.Core.List.{List, [], ◌∷◌, ◌++◌, append-nil}
use mathlib.Core.Bool.{Bool, true, false, cond}
use mathlib.Core.Logic.{inl, inr}
use Prim.Native.Nat.{ℕ, ◌+◌, ◌*◌, ◌<◌, ◌≤◌}
use native.Mathlib.Omega.{arith}
use lib.Dec.{eqb}
use lib.ListN.{length, length-append}
use Rattle.piece.specs.declared.node.Datum.{Datum}
use Rattle.piece.specs.declared.node.Kind.{Kind}
use Rattle.piece.specs.declared.node.Kind.TheVariants.{Free, Part, Structure}
use Rattle.piece.specs.declared.settings.Settings.{Settings}
use Rattle.piece.specs.Row.{nil, grow}
use Rattle.piece.specs.Kinds.{is_part}
use Rattle.tree.specs.Tree.{Tree, In, count, after}
use Rattle.tree.specs.Sound.{Kinded, Children, Sound}
use Rattle.tree.specs.Removal.{numbers, subtree, removed_numbers}
use Rattle.tree.specs.Snapshot.{snapshot}
use Rattle.table.specs.declared.Node.{Node}
use Rattle.table.specs.Table.{at, Rep, Holds}
use Rattle.walks.specs.Order.{preorder, children_first}
use Rattle.walks.specs.Along.{below, part_number, number_at, numbers_along}
use Rattle.walks.specs.Along.{occurrences, parts, Each, PartsEnd}
use Rattle.walks.proofs.Entries.{gathered-append, gathered-last}
use Rattle.walks.proofs.NodeBytes.{length-node}
use Rattle.walks.proofs.Everywhere.{every-place}

-- ---- what holds of each piece

module _ (P : ℕ → Datum → Tree → Type 0) where
  each_after : (a b : Tree) → Each P a → Each P b → Each P (after a b)
  each_after nil b f g = g
  each_after (grow p d k r) b f g = (f.0, f.1, each_after r b f.2 g)

  -- holds in each subtree
  pub each-subtree : (x : ℕ) (w : Tree) → Each P w → Each P (subtree x w)
  each-subtree x nil f = f
  each-subtree x (grow p d k r) f = go (eqb p x) (each-subtree x k f.1) (each-subtree x r f.2)
    where
      go : (b : Bool) → Each P (subtree x k) → Each P (subtree x r)
          → Each P (cond b (grow p d k nil) (after (subtree x k) (subtree x r)))
      go true hk hr = (f.0, f.1, tt)
      go false hk hr = each_after (subtree x k) (subtree x r) hk hr

-- a table shows the row: the datum of each piece at its place
abbrev pub Shown : ℕ → List Node → Tree → Type 0
Shown limit t w = Each (λ p d k. (p < limit) × ((at t p).datum ≡ d)) w

pub rep-shown : (limit : ℕ) (t : List Node) (q pv : ℕ) (r : Tree) → Rep limit t q pv r → Shown limit t r
rep-shown limit t q pv nil e = e
rep-shown limit t q pv (grow p d k r) e =
    ((e.0, ap (λ (n : Node). n.datum) e.1), rep-shown limit t p limit k e.2, rep-shown limit t q p r e.3)

shown-low : (limit : ℕ) (t : List Node) (i : ℕ) (w : Tree) → Shown limit t w → In i w → i < limit
shown-low limit t i nil e y = absurd y
shown-low limit t i (grow p d k r) e (inl z) = omega (arith, e.0.0)
shown-low limit t i (grow p d k r) e (inr (inl y)) = shown-low limit t i k e.1 y
shown-low limit t i (grow p d k r) e (inr (inr y)) = shown-low limit t i r e.2 y

-- a sound tree: no part of it has children
part-ends : (c : Kind) (d : Datum) (k r : Tree) → Kinded c d k r → c ≡ Part → k ≡ nil
part-ends Free d k r h e = h.childless
part-ends Part d k r h e = h.childless
part-ends Structure d k r h e = let z : ◌≡◌ {A = ℕ} 0 1 = cc in let none : ⊥ = omega arith in absurd none

children-end : (settings : Settings) (q : Datum) (r : Tree) → Children settings q r → PartsEnd r
children-end settings q nil h = tt
children-end settings q (grow p d k r) h =
    (part-ends d.kind d k r h.kinded, children-end settings d k h.below, children-end settings q r h.beside)

pub sound-ends : (limit : ℕ) (settings : Settings) (w : Tree) → Sound limit settings w → PartsEnd w
sound-ends limit settings nil s = tt
sound-ends limit settings (grow p d k r) s =
    let top = s.topped.0 in (
      (λ e. part-ends Structure d k r top.piece (sym top.kind ∙ e)),
      children-end settings d k s.topped.1,
      rw top.alone tt,
    )

-- ---- how much there is

pub length-snapshot : (w : Tree) → length (snapshot w) ≡ 14 * count w
unfolding snapshot
length-snapshot nil = refl
length-snapshot (grow p d k r) =
    let hk = length-snapshot k in
    let hr = length-snapshot r in
    omega (arith, length-node d (snapshot k ++ snapshot r), length-append (snapshot k) (snapshot r))

numbers_more : (b : Bool) (v : ℕ) (a c : List ℕ)
    → length (cond b (v ∷ (a ++ c)) (a ++ c)) ≡ cond b 1 0 + (length a + length c)
numbers_more true v a c = omega (arith, length-append a c)
numbers_more false v a c = omega (arith, length-append a c)

pub length-numbers : (w : Tree) → length (numbers w) ≡ parts w
length-numbers nil = refl
length-numbers (grow p d k r) =
    numbers_more (is_part d.kind) d.number (numbers k) (numbers r) ∙ rw (length-numbers k, length-numbers r) refl

one-part : (b : Bool) → cond b 1 0 ≤ 1
one-part true = omega arith
one-part false = omega arith

pub parts-most : (w : Tree) → parts w ≤ count w
parts-most nil = omega arith
parts-most (grow p d k r) =
    let hk = parts-most k in
    let hr = parts-most r in
    omega (arith, one-part (is_part d.kind))

-- ---- along the orders of a row that the table shows

number-first : (b : Bool) (v : ℕ) (l : List ℕ) → cond b (v ∷ []) [] ++ l ≡ cond b (v ∷ l) l
number-first true v l = refl
number-first false v l = refl

-- the number of a part that has no children may come after theirs
number-last : (c : Kind) (v : ℕ) (k : Tree) (l : List ℕ) → (c ≡ Part → k ≡ nil)
    → (numbers k ++ cond (is_part c) (v ∷ []) []) ++ l ≡ cond (is_part c) (v ∷ (numbers k ++ l)) (numbers k ++ l)
number-last Free v k l e = ap (λ (z : List ℕ). z ++ l) (append-nil (numbers k))
number-last Structure v k l e = ap (λ (z : List ℕ). z ++ l) (append-nil (numbers k))
number-last Part v k l e = rw (e refl) refl

module _ (limit : ℕ) (t : List Node) where
  pub numbers-shown : (r : Tree) → Shown limit t r → numbers_along t (preorder r) ≡ numbers r
  numbers-shown nil e = refl
  numbers-shown (grow p d k r) e =
      ap (λ (l : List ℕ). number_at t p ++ l) (gathered-append (number_at t) (preorder k) (preorder r))
      ∙ rw (numbers-shown k e.1, numbers-shown r e.2, e.0.1) (number-first (is_part d.kind) d.number (numbers k ++ numbers r))

  pub numbers-last : (r : Tree) → Shown limit t r → PartsEnd r → numbers_along t (children_first r) ≡ numbers r
  numbers-last nil e f = refl
  numbers-last (grow p d k r) e f =
      gathered-append (number_at t) (children_first k ++ (p ∷ [])) (children_first r)
      ∙ rw (gathered-last (number_at t) (children_first k) p, numbers-last k e.1 f.1, numbers-last r e.2 f.2, e.0.1)
      (number-last d.kind d.number k (numbers r) f.0)

-- ---- how often a number stands in a list

occurrences-append : (v : ℕ) (a b : List ℕ) → occurrences v (a ++ b) ≡ occurrences v a + occurrences v b
occurrences-append v [] b = omega arith
occurrences-append v (x ∷ a) b = let h = occurrences-append v a b in omega arith

-- ---- The laws, of a table that holds a tree.

-- of any row
module _ (limit : ℕ) (t : List Node) (q pv : ℕ) (r : Tree) (rep : Rep limit t q pv r) where
  pub numbers-row : numbers_along t (preorder r) ≡ numbers r
  numbers-row = numbers-shown limit t r (rep-shown limit t q pv r rep)

module _ (limit : ℕ) (t : List Node) (w : Tree) (holds : Holds limit t w) where
  tree-shown : Shown limit t w
  tree-shown = rep-shown limit t limit limit w holds.rep

  -- of the subtree at any place: what a removal hands out
  pub numbers-removed : (x : ℕ) → PartsEnd w → numbers_along t (children_first (subtree x w)) ≡ removed_numbers x w
  numbers-removed x ends = numbers-last limit t (subtree x w) (each-subtree _ x w tree-shown) (each-subtree _ x w ends)

  -- along every place: as many numbers as there are parts, and each as often as in the tree
  everywhere-same : (m : List ℕ → ℕ) → m [] ≡ 0 → ((a b : List ℕ) → m (a ++ b) ≡ m a + m b)
      → m (numbers_along t (below limit)) ≡ m (numbers w)
  everywhere-same m none more =
      every-place m none more (number_at t) w limit holds.distinct (λ i y. shown-low limit t i w tree-shown y)
      (λ i l o. ap (λ (n : Node). part_number n.datum) (holds.rest i l o))
      ∙ ap m (numbers-row limit t limit limit w holds.rep)

  pub numbers-held-count : length (numbers_along t (below limit)) ≡ parts w
  numbers-held-count = everywhere-same length refl length-append ∙ length-numbers w

  pub numbers-held : (v : ℕ) → occurrences v (numbers_along t (below limit)) ≡ occurrences v (numbers w)
  numbers-held v = everywhere-same (occurrences v) refl (occurrences-append v)
