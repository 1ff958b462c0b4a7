-- What `going_with` writes: the places are places, and those of the subtree and of the free last child are written one after the other. And what `going_bare`
-- writes. It rests on what `walks` says of what is written from the start of an array on. Assumes nothing.
use mathlib.Core.Path.{◌≡◌, refl, sym, ap, ◌∙◌}
use mathlib.Core.List.{List, [], ◌∷◌, ◌++◌}
use mathlib.Core.Bool.{Bool, true, false, cond}
use Prim.Native.Nat.{ℕ, zero, suc, ◌+◌, ◌<◌, ◌≤◌}
use native.Mathlib.Omega.{arith}
use borrow.Author.Tests.{leb-false}
use lib.Dec.{leb}
use lib.ListN.{length, get_or, length-append, length-replicate}
use lib.Seq.{sets, length-sets}
use Rattle.table.specs.declared.Node.{Node}
use Rattle.table.specs.Table.{at}
use Rattle.table.specs.Steps.{free_last, free_last_place}
use Rattle.lists.specs.Lists.{limit, zeros, entries}
use Rattle.lists.proofs.Fill.{sets-append}
use Rattle.walks.specs.Inner.{Placed}
use Rattle.walks.specs.Chain.{siblings}
use Rattle.walks.specs.Columns.{order_in}
use Rattle.walks.specs.Walk.{gathered, walk_of}
use Rattle.walks.specs.Order.{itself, order_of}
use Rattle.walks.proofs.Entries.{written-entries, written-placed}
use Rattle.removal.specs.Going.{going_of}
use Rattle.removal.specs.Untidy.{bare_going}

-- ---- all are places

module _ (limit : ℕ) where
  abbrev Low : List ℕ → Type 0
  Low [] = Unit {0}
  Low (p ∷ l) = (p < limit) × Low l

  low-placed : (l : List ℕ) → Low l → Placed limit (length l) l
  low-placed [] u i h = let none : ⊥ = omega arith in absurd none
  low-placed (p ∷ l) u zero h = u.0
  low-placed (p ∷ l) u (suc i) h = low-placed l u.1 i (omega arith)

  low-append : (a b : List ℕ) → Low a → Low b → Low (a ++ b)
  low-append [] b u v = v
  low-append (p ∷ a) b u v = (u.0, low-append a b u.1 v)

  low-gathered : (g : ℕ → List ℕ) → ((c : ℕ) → c < limit → Low (g c)) → (l : List ℕ) → Low l → Low (gathered g l)
  low-gathered g f [] u = tt
  low-gathered g f (c ∷ l) u = low-append (g c) (gathered g l) (f c u.0) (low-gathered g f l u.1)

  low-siblings : (next : List ℕ) (m c : ℕ) → Low (siblings limit next m c)
  unfolding siblings
  low-siblings next zero c = tt
  low-siblings next (suc m) c = go (leb limit c) (leb-false limit c) (low-siblings next m (get_or next c 0))
    where
      go : (b : Bool) → (b ≡ false → c < limit) → Low (siblings limit next m (get_or next c 0))
          → Low (cond b [] (c ∷ siblings limit next m (get_or next c 0)))
      go true f u = tt
      go false f u = (f refl, u)

  -- the walk meets places only
  low-order : (first next : List ℕ) (n x : ℕ) → x < limit → Low (order_of limit first next n x)
  unfolding walk_of
  low-order first next zero x h = tt
  low-order first next (suc n) x h =
      let g = order_of limit first next n in
      let l = siblings limit next n (get_or first x 0) in
      low-append (gathered g l) (itself x) (low-gathered g (low-order first next n) l (low-siblings next n (get_or first x 0))) (h, tt)

  low-free-last : (t : List Node) (q : ℕ) → (at t q).last < limit → Low (free_last_place t q)
  unfolding free_last_place
  low-free-last t q h = go (free_last t q)
    where
      go : (b : Bool) → Low (cond b ((at t q).last ∷ []) [])
      go true = (h, tt)
      go false = tt

-- ---- what is written

module _ (t : List Node) (x held : ℕ) where
  abbrev below : List ℕ
  below = order_in limit t held x

  abbrev end : List ℕ
  end = free_last_place t (at t x).parent

  pub going-length : length (going_of t x held) ≡ length below + length end
  unfolding going_of
  going-length = length-append below end

  pub going-placed : x < limit → (at t (at t x).parent).last < limit → Placed limit (length (going_of t x held)) (going_of t x held)
  unfolding going_of
  going-placed h l =
      low-placed limit (below ++ end)
      (low-append limit below end (low-order limit _ _ held x h) (low-free-last limit t (at t x).parent l))

  -- what the walk writes, and how much that is, where there is room for all that goes
  module _ {o : List ℕ} {k : ℕ} (first : o ≡ sets (zeros limit) 0 below) (k-is : k ≡ 0 + length below) (room : length (going_of t x held) ≤ limit) where
    fits : length (going_of t x held) ≤ length (zeros limit)
    fits = omega (arith, length-replicate {A = ℕ} limit 0)

    pub end_fits : k + length end ≤ length o
    end_fits = omega (arith, fits, going-length, length-sets (zeros limit) 0 below, ap length first)

    -- and with what comes behind it
    module _ {order : List ℕ} {n : ℕ} (second : order ≡ sets o k end) (n-is : n ≡ k + length end) where
      wrote : order ≡ sets (zeros limit) 0 (going_of t x held)
      unfolding going_of
      wrote = second ∙ rw (first, k-is) (sym (sets-append below end (zeros limit) 0))

      many : n ≡ 0 + length (going_of t x held)
      many = omega (arith, going-length)

      pub gone-places : entries n order ≡ going_of t x held
      gone-places = written-entries (zeros limit) (going_of t x held) wrote many fits

      pub gone-count : n ≡ length (going_of t x held)
      gone-count = omega (arith, many)

      pub gone-placed : x < limit → (at t (at t x).parent).last < limit → Placed limit n order
      gone-placed h l = written-placed (zeros limit) (going_of t x held) wrote many fits limit (going-placed h l)

-- ---- what goes with a structure that tidying takes out

module _ (t : List Node) (x : ℕ) where
  pub bare-length : (2 ≤ length (bare_going t x)) × (length (bare_going t x) ≤ 3)
  unfolding bare_going free_last_place
  bare-length = go (free_last t (at t x).parent)
    where
      go : (b : Bool) → let l = (at t x).first ∷ x ∷ cond b ((at t (at t x).parent).last ∷ []) [] in (2 ≤ length l) × (length l ≤ 3)
      go true = (omega arith, omega arith)
      go false = (omega arith, omega arith)

  pub bare-gone : {order : List ℕ} {n : ℕ} → x < limit → (at t (at t x).parent).last < limit → (at t x).first < limit
      → order ≡ sets (zeros limit) 0 (bare_going t x) → n ≡ length (bare_going t x)
      → (entries n order ≡ bare_going t x) × ((n ≡ length (bare_going t x)) × Placed limit n order)
  unfolding bare_going
  bare-gone {order} {n} h l f w m =
      let n-is : n ≡ 0 + length (bare_going t x) = omega (arith, m) in
      let fits : length (bare_going t x) ≤ length (zeros limit) = omega (arith, bare-length.1, length-replicate {A = ℕ} limit 0) in (
        written-entries (zeros limit) (bare_going t x) w n-is fits,
        (m, written-placed (zeros limit) (bare_going t x) w n-is fits limit bare-placed),
      )
    where
      bare-placed : Placed limit (length (bare_going t x)) (bare_going t x)
      bare-placed =
          low-placed limit ((at t x).first ∷ x ∷ free_last_place t (at t x).parent) (f, (h, low-free-last limit t (at t x).parent l))
