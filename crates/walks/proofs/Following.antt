-- The walk along the links of a table that holds a tree: down first links, along next links, up parent links. At each turn a row is still to be
-- written, and then what is left on the way back to x: every piece on it, and after it the row of its later siblings. Assumes nothing.
use mathlib.Core.Path.{◌≡◌, refl, sym, ap, ◌∙◌, subst}
use mathlib.Core.List.{List, [], ◌∷◌, ◌++◌, append_assoc}
use mathlib.Core.Logic.{inl, inr}
use Prim.Native.Nat.{ℕ, ◌+◌, ◌-◌, ◌<◌, ◌≤◌}
use native.Mathlib.Omega.{arith}
use lib.ListN.{length, length-append}
use lib.Seq.{sets}
use Rattle.piece.specs.Row.{nil, grow}
use Rattle.tree.specs.Tree.{Tree, In, count}
use Rattle.tree.specs.Steps.{Kids}
use Rattle.tree.proofs.Kids.{kids-of, kids-self, kids-count}
use Rattle.table.specs.declared.Node.{Node}
use Rattle.table.specs.Table.{at, head, Rep}
use Rattle.table.proofs.Rep.{Shows, shows}
use Rattle.table.proofs.Unique.{holds-room}
use Rattle.walks.specs.Order.{itself, children_first}
use Rattle.walks.specs.Columns.{order_in}
use Rattle.walks.specs.Inner.{Hangs}
use Rattle.walks.proofs.Written.{Left, begin, piece, as_long}
use Rattle.walks.proofs.Meaning.{order-kids}

module _ (limit : ℕ) (t : List Node) (x : ℕ) where
  -- the table holds the row, under q and after pv, and x is none of its places
  abbrev Under : (q pv : ℕ) → Tree → Type 0
  Under q pv r = Rep limit t q pv r × (In x r → ⊥)

  -- the way from p up to x, by the later siblings of each piece on it
  abbrev Way : ℕ → List Tree → Type 0
  Way p [] = p ≡ x
  Way p (r ∷ rs) =
      (p < limit)
      × (p ≡ x → ⊥)
      × ((at t p).next ≡ head limit r)
      × Under (at t p).parent p r
      × Way (at t p).parent rs

  -- what is written on it, and the turns that this takes before x: a row is gone down to and written
  abbrev back : ℕ → List Tree → List ℕ
  back p [] = itself x
  back p (r ∷ rs) = p ∷ (children_first r ++ back (at t p).parent rs)

  abbrev turns_back : List Tree → ℕ
  turns_back [] = 0
  turns_back (r ∷ rs) = 1 + ((count r + count r) + turns_back rs)

  -- where the walk stands: the row that begins at `down`, under `up`, is still to be written, and then what is on the way
  pub record Stand (all l₀ : List ℕ) (k₀ : ℕ) (l : List ℕ) (k up down turns : ℕ) : Type 0 where
    row : Tree
    before : ℕ
    way : List Tree
    begins : down ≡ head limit row
    under : Under up before row
    leads : Way up way
    enough : (count row + count row) + turns_back way ≤ turns
    yet : Left all l₀ k₀ (children_first row ++ back up way) l k

  -- a piece's parent is the one that it hangs under
  hung : {n m : Node} → n ≡ m → n.parent ≡ m.parent
  hung e = ap (λ (n : Node). n.parent) e

  -- the row of a piece is what is below it, the piece, and its later siblings
  split : (p : ℕ) (b r : Tree) (z : List ℕ) → ((children_first b ++ (p ∷ [])) ++ children_first r) ++ z ≡ children_first b ++ (p ∷ (children_first r ++ z))
  split p b r z = append_assoc (children_first b ++ (p ∷ [])) (children_first r) z ∙ append_assoc (children_first b) (p ∷ []) (children_first r ++ z)

  -- x is left on every way
  some_back : (p : ℕ) (way : List Tree) → 0 < length (back p way)
  some_back p [] = omega arith
  some_back p (r ∷ rs) = omega arith

  module _ {all l₀ : List ℕ} {k₀ : ℕ} {l : List ℕ} {k up down turns : ℕ} (s : Stand all l₀ k₀ l k up down turns) where
    -- there is room for one place more, and the slice is as long as it was
    pub room : (k < length l₀) × (length l ≡ length l₀)
    room =
        let long = as_long _ s.yet in
        let more = length-append (children_first s.row) (back up s.way) in
        (omega (arith, s.yet.room, more, some_back up s.way, long), long)

    -- a piece begins the row: the walk goes down to the row below it
    pub gone-down : down < limit → Stand all l₀ k₀ l k down (at t down).first (turns - 1)
    gone-down = rw s.begins (go s.row s.under s.enough s.yet)
      where
        go : (row : Tree) → Under up s.before row → (count row + count row) + turns_back s.way ≤ turns
            → Left all l₀ k₀ (children_first row ++ back up s.way) l k → head limit row < limit
            → Stand all l₀ k₀ l k (head limit row) (at t (head limit row)).first (turns - 1)
        go nil e c y h = let none : ⊥ = omega arith in absurd none
        go (grow p d b r) e c y h =
            record {
              row = b;
              before = limit;
              way = r ∷ s.way;
              begins = ap (λ (n : Node). n.first) e.0.1;
              under = (e.0.2, λ y. e.1 (inr (inl y)));
              leads = (
                e.0.0,
                λ z. e.1 (inl (sym z)),
                ap (λ (n : Node). n.next) e.0.1,
                (rw (hung e.0.1) e.0.3, λ y. e.1 (inr (inr y))),
                rw (hung e.0.1) s.leads,
              );
              enough = omega arith;
              yet = rw (hung e.0.1) (subst (λ (z : List ℕ). Left all l₀ k₀ z l k) (split p b r (back up s.way)) y);
            }

    -- no piece begins it: nothing is left of it
    over : limit ≤ down → Left all l₀ k₀ (back up s.way) l k
    over h = go s.row s.under s.yet (rw (← s.begins) h)
      where
        go : (row : Tree) → Under up s.before row → Left all l₀ k₀ (children_first row ++ back up s.way) l k → limit ≤ head limit row
            → Left all l₀ k₀ (back up s.way) l k
        go nil e y h = y
        go (grow p d b r) e y h = let none : ⊥ = omega arith in absurd none

    -- `up` is not x: it is a place, and when it is written the walk goes on beside it
    module _ (h : limit ≤ down) (other : up ≡ x → ⊥) where
      pub record Up : Type 0 where
        pub low : up < limit
        pub gone-on : Stand all l₀ k₀ (sets l k (itself up)) (k + 1) (at t up).parent (at t up).next (turns - 1)

      pub gone-up : Up
      gone-up = go s.way s.leads (omega (arith, s.enough)) (over h)
        where
          go : (way : List Tree) → Way up way → turns_back way ≤ turns → Left all l₀ k₀ (back up way) l k → Up
          go [] e c y = absurd (other e)
          go (r ∷ rs) e c y =
              record {
                low = e.0;
                gone-on = record {
                  row = r;
                  before = up;
                  way = rs;
                  begins = e.2;
                  under = e.3;
                  leads = e.4;
                  enough = omega arith;
                  yet = piece (itself up) (children_first r ++ back (at t up).parent rs) y refl refl;
                };
              }

    -- at the end x is left
    pub arrived : limit ≤ down → up ≡ x → Left all l₀ k₀ (itself x) l k
    arrived h e = go s.way s.leads (over h)
      where
        go : (way : List Tree) → Way up way → Left all l₀ k₀ (back up way) l k → Left all l₀ k₀ (itself x) l k
        go [] w y = y
        go (r ∷ rs) w y = absurd (w.1 e)

    -- and the turns do not end before that
    pub never : turns ≤ 0 → Left all l₀ k₀ (itself x) l k
    never h = go s.row s.way s.enough s.yet
      where
        go : (row : Tree) (way : List Tree) → (count row + count row) + turns_back way ≤ turns
            → Left all l₀ k₀ (children_first row ++ back up way) l k → Left all l₀ k₀ (itself x) l k
        go nil [] c y = y
        go nil (r ∷ rs) c y = let none : ⊥ = omega arith in absurd none
        go (grow p d b r) way c y = let none : ⊥ = omega arith in absurd none

-- the start: x is a place, the turns can be counted, and the walk stands at the row below x
module _ (limit : ℕ) {t : List Node} {x held : ℕ} (h : Hangs limit t x held) where
  below : (k : Tree) × Kids x k h.tree
  below = kids-of x h.tree h.there

  shown : Shows limit t x below.0
  shown = shows limit t limit limit x below.0 h.tree h.holds.rep below.1

  pub placed : x < limit
  placed = shown.low

  pub few : held ≤ limit
  few = omega (arith, h.many, holds-room limit t h.tree h.holds)

  pub set_out : (l : List ℕ) (n : ℕ) → n + length (order_in limit t held x) ≤ length l
      → Stand limit t x (order_in limit t held x) l n l n x (at t x).first (held + held)
  set_out l n room =
      let k = below.0 in
      record {
        row = k;
        before = limit;
        way = [];
        begins = shown.first;
        under = (shown.rep, kids-self x k h.tree h.holds.distinct below.1);
        leads = refl;
        enough = omega (arith, h.many, kids-count x k h.tree below.1);
        yet = subst (λ (z : List ℕ). Left (order_in limit t held x) l n z l n)
            (order-kids limit t x k h.tree held h.holds below.1 (omega (arith, h.many))) (begin room);
      }
