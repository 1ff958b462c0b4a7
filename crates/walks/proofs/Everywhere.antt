-- What is gathered along every place of a table, and along the places of the tree that it holds: it adds up to the same, if the other places give
-- nothing. It rests on table's law of such sums (Everywhere). Assumes nothing.
use mathlib.Core.Path.{◌≡◌, refl, sym, ap, ◌∙◌}
use mathlib.Core.List.{List, [], ◌++◌}
use Prim.Native.Nat.{ℕ, zero, suc, ◌+◌, ◌<◌}
use Rattle.piece.specs.Row.{nil, grow}
use Rattle.tree.specs.Tree.{Tree, In, Distinct}
use Rattle.table.proofs.Everywhere.{sum, row_sum, everywhere}
use Rattle.walks.specs.Walk.{gathered}
use Rattle.walks.specs.Order.{preorder}
use Rattle.walks.specs.Along.{below}
use Rattle.walks.proofs.Entries.{gathered-append, gathered-last}

-- by a number m of a list that adds up over its parts, as its length does

module _ (m : List ℕ → ℕ) (m_nil : m [] ≡ 0) (m-append : (a b : List ℕ) → m (a ++ b) ≡ m a + m b) (g : ℕ → List ℕ) where
  along-below : (n : ℕ) → m (gathered g (below n)) ≡ sum (λ i. m (g i)) n
  unfolding below
  along-below zero = m_nil
  along-below (suc n) = ap m (gathered-last g (below n) n) ∙ m-append (gathered g (below n)) (g n) ∙ rw (along-below n) refl

  along-row : (w : Tree) → m (gathered g (preorder w)) ≡ row_sum (λ i. m (g i)) w
  along-row nil = m_nil
  along-row (grow p d k r) =
      m-append (g p) (gathered g (preorder k ++ preorder r))
      ∙ rw (gathered-append g (preorder k) (preorder r), m-append (gathered g (preorder k)) (gathered g (preorder r)), along-row k, along-row r) refl

  -- every place gives as much as the places of the tree, if the others give nothing
  pub every-place : (w : Tree) (n : ℕ) → Distinct w → ((i : ℕ) → In i w → i < n)
      → ((i : ℕ) → i < n → (In i w → ⊥) → g i ≡ []) → m (gathered g (below n)) ≡ m (gathered g (preorder w))
  every-place w n dis low rest =
      along-below n
      ∙ everywhere (λ i. m (g i)) w n dis low (λ i l o. ap m (rest i l o) ∙ m_nil)
      ∙ sym (along-row w)
