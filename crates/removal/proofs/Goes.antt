-- What goes: the walk over the columns gives the places that a removal unlinks, and each can be unlinked when its turn comes. It rests on what
-- `walks` says of the order of a subtree, and on what `table` says of the row of a piece (Rep).
use mathlib.Core.Path.{◌≡◌, refl, sym, ap, ◌∙◌}
use mathlib.Core.List.{List, [], ◌∷◌, map, append_assoc}
use mathlib.Core.Bool.{Bool, true, false, cond}
use mathlib.Core.Logic.{◌⊎◌, inl, inr, ⊎_elim}
use Prim.Native.Nat.{ℕ, ◌<◌}
use native.Mathlib.Nat.{le_refl}
use native.Mathlib.Omega.{arith}
use native.Mathlib.Decide.{dec_lt}
use lib.Dec.{leb}
use lib.ListN.{length, get_or, set, get_or-map}
use lib.Seq.{map-set_same, get_or-set_same, get_or-set_other, set_out}
use Rattle.piece.specs.Row.{nil, grow}
use Rattle.lists.specs.Lists as lists
use Rattle.tree.specs.Tree.{Tree, In, count}
use Rattle.tree.specs.Removal.{subtree}
use Rattle.tree.specs.Steps.{leaving}
use Rattle.tree.specs.ListSteps.{Names}
use Rattle.tree.proofs.Rows.{same?}
use Rattle.table.specs.declared.Node.{Node}
use Rattle.table.specs.Table.{zero_node, with_first, with_last, with_next, with_prev, at, join_before, join_after, unlink, Rep, Holds}
use Rattle.table.specs.Steps.{going}
use Rattle.walks.specs.Order.{children_first}
use Rattle.walks.proofs.Meaning.{order-subtree}
use Rattle.removal.specs.Going.{going_of}
use Rattle.removal.specs.Inner.{Goes}

-- ---- the walk

-- the two ways to say the order of a removal are one
pub leaving-is : (r : Tree) → children_first r ≡ leaving r
leaving-is nil = refl
leaving-is (grow p d k r) =
    append_assoc (children_first k) (p ∷ []) (children_first r) ∙ rw (leaving-is k, leaving-is r) refl

pub going-is : (t : List Node) (w : Tree) (x : ℕ) → Holds lists.limit t w → In x w → going_of t x (count w) ≡ going t x w
unfolding going_of
going-is t w x h i =
    rw (order-subtree lists.limit t w x (count w) h i (le_refl (count w)), leaving-is (subtree x w)) refl

-- ---- the turns

abbrev parents : List Node → List ℕ
parents t = map (λ (n : Node). n.parent) t

parent-at : (t : List Node) (p : ℕ) → get_or (parents t) p 0 ≡ (at t p).parent
parent-at t p = get_or-map (λ (n : Node). n.parent) t p zero_node

-- the siblings' links are no parents
module _ (limit : ℕ) (q pv nx : ℕ) where
  before-parents : (t : List Node) → parents (join_before limit t q pv nx) ≡ parents t
  before-parents t = go (leb limit pv)
    where
      go : (b : Bool) → parents (cond b (set t q (with_first (at t q) nx)) (set t pv (with_next (at t pv) nx))) ≡ parents t
      go true = map-set_same (λ (n : Node). n.parent) t q (with_first (at t q) nx) zero_node refl
      go false = map-set_same (λ (n : Node). n.parent) t pv (with_next (at t pv) nx) zero_node refl

  after-parents : (t : List Node) → parents (join_after limit t q pv nx) ≡ parents t
  after-parents t = go (leb limit nx)
    where
      go : (b : Bool) → parents (cond b (set t q (with_last (at t q) pv)) (set t nx (with_prev (at t nx) pv))) ≡ parents t
      go true = map-set_same (λ (n : Node). n.parent) t q (with_last (at t q) pv) zero_node refl
      go false = map-set_same (λ (n : Node). n.parent) t nx (with_prev (at t nx) pv) zero_node refl

-- what is unlinked has the parent 0 then, as an unheld place has
module _ (limit : ℕ) (t : List Node) (x p : ℕ) where
  abbrev parted : List Node
  parted =
      let n = at t x in join_after limit (join_before limit t n.parent n.prev n.next) n.parent n.prev n.next

  parted-parent : (at parted p).parent ≡ (at t p).parent
  parted-parent =
      let n = at t x in
      sym (parent-at parted p)
      ∙ ap (λ (l : List ℕ). get_or l p 0)
      (after-parents limit n.parent n.prev n.next (join_before limit t n.parent n.prev n.next)
      ∙ before-parents limit n.parent n.prev n.next t)
      ∙ parent-at t p

  unlink-parent : ((at (unlink limit t x) p).parent ≡ 0) ⊎ ((at (unlink limit t x) p).parent ≡ (at t p).parent)
  unfolding unlink
  unlink-parent = go (same? p x) (dec_lt x (length parted))
    where
      go : (p ≡ x) ⊎ (p ≡ x → ⊥) → Dec (x < length parted)
          → ((at (set parted x zero_node) p).parent ≡ 0) ⊎ ((at (set parted x zero_node) p).parent ≡ (at t p).parent)
      go (inl e) (yes b) = inl (rw e (ap (λ (n : Node). n.parent) (get_or-set_same parted x zero_node zero_node b)))
      go (inl e) (no b) = inr (rw (set_out parted x zero_node (omega arith)) parted-parent)
      go (inr n) b = inr (ap (λ (n : Node). n.parent) (get_or-set_other parted x p zero_node zero_node n) ∙ parted-parent)

-- places whose parents are places can be unlinked in any order
pub goes-all : (limit : ℕ) (ps : List ℕ) (t : List Node) → 0 < limit
    → ((i : ℕ) → Names i ps → (i < limit) × ((at t i).parent < limit)) → Goes limit t ps
goes-all limit [] t some h = tt
goes-all limit (p ∷ ps) t some h =
    let o = h p (inl refl) in (
      o.0,
      o.1,
      goes-all limit ps (unlink limit t p) some
          (λ i y.
          let u = h i (inr y) in
          (u.0, ⊎_elim (λ e. rw e some) (λ e. rw e u.1) (unlink-parent limit t p i))),
    )

-- in a row under a place all parents are places
pub row-parents : (limit : ℕ) (t : List Node) (q pv i : ℕ) (k : Tree) → q < limit → Rep limit t q pv k → In i k → (at t i).parent < limit
row-parents limit t q pv i nil l rep h = absurd h
row-parents limit t q pv i (grow p d k r) l rep (inl e) = rw (e, ap (λ (n : Node). n.parent) rep.1) l
row-parents limit t q pv i (grow p d k r) l rep (inr (inl h)) = row-parents limit t p limit i k rep.0 rep.2 h
row-parents limit t q pv i (grow p d k r) l rep (inr (inr h)) = row-parents limit t q p i r l rep.3 h
