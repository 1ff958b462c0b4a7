-- The linked table: what it means that a table holds a row, and the steps on it. `limit`, the number of places, is also the number that says
-- that there is no such place; it is `LIMIT` in the code and a parameter here.
use Rattle.std.specs.Prelude.{◌≡◌, List, cond, ℕ, ◌<◌, leb, get_or, set, length}
use Rattle.piece.specs.declared.node.Datum.{Datum}
use Rattle.piece.specs.declared.node.Kind.TheVariants.{Free}
use Rattle.piece.specs.declared.orientation.Orientation.TheVariants.{Horizontal}
use Rattle.piece.specs.Sides.{sized}
use Rattle.piece.specs.Row.{nil, grow}
use Rattle.tree.specs.Tree.{Tree, In, Distinct}
use Rattle.table.specs.declared.Node.{Node}

abbrev pub zero_datum : Datum
zero_datum = record { serial = 0; size = sized 0 0; number = 0; level = 0; kind = Free; cut = Horizontal; eaten = 0 }

abbrev pub mk : Datum → (q pv f l n : ℕ) → Node
mk d q pv f l n = record { datum = d; parent = q; first = f; last = l; prev = pv; next = n }

-- "Unheld places .. are zero."
abbrev pub zero_node : Node
zero_node = mk zero_datum 0 0 0 0 0

abbrev pub with_first : Node → ℕ → Node
with_first n k = mk n.datum n.parent n.prev k n.last n.next

abbrev pub with_last : Node → ℕ → Node
with_last n k = mk n.datum n.parent n.prev n.first k n.next

abbrev pub with_next : Node → ℕ → Node
with_next n k = mk n.datum n.parent n.prev n.first n.last k

abbrev pub with_prev : Node → ℕ → Node
with_prev n k = mk n.datum n.parent k n.first n.last n.next

abbrev pub at : List Node → ℕ → Node
at t i = get_or t i zero_node

-- the place is held
abbrev pub Held : List Node → ℕ → Type 0
Held t i = 0 < (at t i).datum.serial

-- the first place of a row, and the last, where pv comes before the row
abbrev pub head : ℕ → Tree → ℕ
head limit nil = limit
head limit (grow p d k r) = p

abbrev pub last : ℕ → Tree → ℕ
last pv nil = pv
last pv (grow p d k r) = last p r

-- the table holds the row, under the parent q and after the sibling pv: "links agreeing"
abbrev pub Rep : ℕ → List Node → ℕ → ℕ → Tree → Type 0
Rep limit t q pv nil = Unit {0}
Rep limit t q pv (grow p d k r) =
    (p < limit)
    × (at t p ≡ mk d q pv (head limit k) (last limit k) (head limit r))
    × Rep limit t p limit k
    × Rep limit t q p r

-- the table holds the tree and nothing else
pub record Holds (limit : ℕ) (t : List Node) (w : Tree) : Type 0 where
  pub len : length t ≡ limit
  pub rep : Rep limit t limit limit w
  pub distinct : Distinct w
  pub rest : (i : ℕ) → i < limit → (In i w → ⊥) → at t i ≡ zero_node

-- a leaf at the place a becomes the last child of q
abbrev pub enter : ℕ → List Node → ℕ → ℕ → Datum → List Node
enter limit t q a d = set t a (mk d q (at t q).last limit limit limit)

abbrev pub tie : ℕ → List Node → ℕ → ℕ → ℕ → List Node
tie limit t q l a = cond (leb limit l) (set t q (with_first (at t q) a)) (set t l (with_next (at t l) a))

abbrev pub close : List Node → ℕ → ℕ → List Node
close t q a = set t q (with_last (at t q) a)

unfoldable pub append : ℕ → List Node → ℕ → ℕ → Datum → List Node
append limit t q a d = close (tie limit (enter limit t q a d) q (at t q).last a) q a

-- a leaf is taken out of its row
abbrev pub join_before : ℕ → List Node → ℕ → ℕ → ℕ → List Node
join_before limit t q pv nx = cond (leb limit pv) (set t q (with_first (at t q) nx)) (set t pv (with_next (at t pv) nx))

abbrev pub join_after : ℕ → List Node → ℕ → ℕ → ℕ → List Node
join_after limit t q pv nx = cond (leb limit nx) (set t q (with_last (at t q) pv)) (set t nx (with_prev (at t nx) pv))

unfoldable pub unlink : ℕ → List Node → ℕ → List Node
unlink limit t x =
    let n = at t x in
    set
    (join_after limit (join_before limit t n.parent n.prev n.next) n.parent n.prev n.next)
    x
    zero_node
