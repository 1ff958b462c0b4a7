-- What each held place of a linked table shows, and so what a check can look at place by place: Build and Links say that such a table holds the tree
-- that is read from it, and that a table that holds a tree is linked so.
use mathlib.Core.Path.{◌≡◌}
use mathlib.Core.List.{List}
use mathlib.Core.Logic.{◌⊎◌}
use Prim.Native.Nat.{ℕ, zero, suc, ◌+◌, ◌<◌}
use lib.ListN.{length}
use Rattle.table.specs.declared.Node.{Node}
use Rattle.table.specs.Table.{at, Held, zero_node}

-- the siblings from p on are children of q, after pv, and end at the last child of q
abbrev pub Linked : ℕ → ℕ → List Node → ℕ → ℕ → ℕ → Type 0
Linked limit zero t q pv p = ⊥
Linked limit (suc m) t q pv p =
    ((limit ≡ p) × ((at t q).last ≡ pv))
    ⊎ ((p < limit) × Held t p × ((at t p).parent ≡ q) × ((at t p).prev ≡ pv)
    × ((at t p).datum.level ≡ (at t q).datum.level + 1) × Linked limit m t q p (at t p).next)

-- j is among the siblings from p on
abbrev pub Among : ℕ → ℕ → List Node → ℕ → ℕ → Type 0
Among limit zero t p j = ⊥
Among limit (suc m) t p j = (p < limit) × ((j ≡ p) ⊎ Among limit m t (at t p).next j)

-- what a held place shows: a row has fewer pieces than there are places, since the top is in none
pub record Local (limit : ℕ) (t : List Node) (i : ℕ) : Type 0 where
  pub linked : Linked limit limit t i limit (at t i).first
  pub low : (at t i).datum.level < limit
  pub hangs : (i ≡ 0 → ⊥)
      → ((at t i).parent < limit) × Held t (at t i).parent × Among limit limit t (at t (at t i).parent).first i

-- a table of which every held place shows it
pub record Linkage (limit : ℕ) (t : List Node) : Type 0 where
  pub len : length t ≡ limit
  pub top : Held t 0
  pub base : (at t 0).datum.level ≡ 0
  pub root : ((at t 0).parent ≡ limit) × ((at t 0).prev ≡ limit) × ((at t 0).next ≡ limit)
  pub each : (i : ℕ) → i < limit → Held t i → Local limit t i
  pub rest : (i : ℕ) → i < limit → (at t i).datum.serial ≡ 0 → at t i ≡ zero_node
