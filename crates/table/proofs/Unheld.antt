-- What the lowest unheld place from n on is: each place before it is held; and in a table that holds a tree it is a place where the tree leaves
-- room. Assumes nothing.
use mathlib.Core.Path.{◌≡◌, refl, ap}
use mathlib.Core.Bool.{true, false}
use mathlib.Core.List.{List}
use mathlib.Core.Logic.{⊎_elim}
use Prim.Native.Nat.{ℕ, suc, ◌+◌, ◌-◌, ◌<◌, ◌≤◌}
use native.Mathlib.Omega.{arith}
use borrow.Author.Tests.{eqb-false}
use Rattle.lists.specs.Search.{first_from}
use Rattle.lists.proofs.Scan.{first-from, first-most, first-before}
use Rattle.tree.specs.Tree.{Tree, In, count}
use Rattle.tree.proofs.Rows.{in?}
use Rattle.tree.proofs.Pigeon.{low-most, low-filled}
use Rattle.table.specs.declared.Node.{Node}
use Rattle.table.specs.Table.{at, Held, Holds}
use Rattle.table.specs.Unheld.{is_unheld, lowest_from}

module _ (limit : ℕ) (t : List Node) (n : ℕ) where
  -- how the search goes: it ends past the places and at an unheld one, and goes on from a held one
  pub lowest-past : limit ≤ n → lowest_from limit t n ≡ n
  unfolding lowest_from first_from
  lowest-past h = let e : limit - n ≡ 0 = omega arith in rw e refl

  pub lowest-here : n < limit → is_unheld t n ≡ true → lowest_from limit t n ≡ n
  unfolding lowest_from first_from
  lowest-here h f = let e : limit - n ≡ suc (limit - (n + 1)) = omega arith in rw (e, f) refl

  pub lowest-on : n < limit → is_unheld t n ≡ false → lowest_from limit t n ≡ lowest_from limit t (n + 1)
  unfolding lowest_from first_from
  lowest-on h f = let e : limit - n ≡ suc (limit - (n + 1)) = omega arith in rw (e, f) refl

  pub lowest-from : n ≤ lowest_from limit t n
  unfolding lowest_from
  lowest-from = first-from (is_unheld t) (limit - n) n

  pub lowest-most : n ≤ limit → lowest_from limit t n ≤ limit
  unfolding lowest_from
  lowest-most h = omega (arith, first-most (is_unheld t) (limit - n) n)

  pub lowest-first : (j : ℕ) → n ≤ j → j < lowest_from limit t n → Held t j
  unfolding lowest_from
  lowest-first j l h =
      let no = eqb-false (at t j).datum.serial 0 (first-before (is_unheld t) (limit - n) n j l h) in omega arith

  module _ (w : Tree) (h : Holds limit t w) where
    -- each lower place from n on is one of the tree's
    pub lowest-under : n ≤ limit → (j : ℕ) → n ≤ j → j < lowest_from limit t n → In j w
    lowest-under b j l o = ⊎_elim (λ y. y) (λ m. absurd (gone m)) (in? j w)
      where
        gone : (In j w → ⊥) → ⊥
        gone m =
            let z = ap (λ (e : Node). e.datum.serial) (h.rest j (omega (arith, lowest-most b)) m) in
            omega (arith, lowest-first j l o)

    -- and it is a place if the tree leaves room from n on
    pub lowest-room : n + count w < limit → lowest_from limit t n < limit
    lowest-room l =
        let m = lowest_from limit t n in
        let f = low-filled n m w lowest-from (lowest-under (omega arith)) in
        omega (arith, low-most m w)
