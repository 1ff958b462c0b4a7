-- The eaten area as the code adds it up, over the places of a table: a turn of the loop, that the sum only grows, and that on a sound layout it is the eaten
-- area of the tree. Rests on table's law of such sums, and on tree's that a piece's own cut names the side that its parent's cut left whole.
use mathlib.Core.Path.{◌≡◌, refl, ◌∙◌}
use mathlib.Core.List.{List}
use Prim.Native.Nat.{ℕ, zero, suc, ◌+◌, ◌^◌, ◌≤◌, ◌<◌}
use native.Mathlib.Numerals.{add-one}
use native.Mathlib.Omega.{arith}
use Rattle.tree.specs.Figures.{eaten_area}
use Rattle.tree.proofs.Areas.{eaten-own}
use Rattle.tree.proofs.Usage.{sheet-small}
use Rattle.tree.proofs.Laws.AreaConserved.{area-conserved}
use Rattle.piece.specs.Row.{nil, grow}
use Rattle.tree.specs.Tree.{Tree}
use Rattle.tree.proofs.Areas.{strips}
use Rattle.table.specs.declared.Node.{Node}
use Rattle.table.specs.Table.{at}
use Rattle.table.proofs.Everywhere.{sum, worth, holds-worth}
use Rattle.sound.proofs.Sums.{grows}
use Rattle.layout.specs.declared.layout.Layout.{Layout}
use Rattle.layout.specs.Check.{limit, tree}
use Rattle.layout.specs.SoundLayout.{SoundLayout}
use Rattle.questions.specs.Eaten.{strip_of, strips_of}

module _ (t : List Node) where
  pub strips-none : strips_of t 0 ≡ 0
  unfolding strips_of
  strips-none = refl

  pub strips-more : (n : ℕ) → strips_of t (n + 1) ≡ strips_of t n + strip_of (at t n).datum
  unfolding strips_of
  strips-more n = rw (add-one n) refl

  pub strips-grow : (m n : ℕ) → n ≤ m → strips_of t n ≤ strips_of t m
  unfolding strips_of
  strips-grow = grows (strips_of t) (λ n. omega arith)

  strips-sum : (n : ℕ) → strips_of t n ≡ sum (λ i. strip_of (at t i).datum) n
  unfolding strips_of
  strips-sum zero = refl
  strips-sum (suc n) = rw (strips-sum n) refl

strips-worth : (w : Tree) → worth strip_of w ≡ strips w
strips-worth nil = refl
strips-worth (grow p d k r) = rw (strips-worth k, strips-worth r) refl

module _ (l : Layout) (s : SoundLayout l) where
  pub strips-are : strips_of l.nodes limit ≡ eaten_area (tree l)
  strips-are =
      strips-sum l.nodes limit
      ∙ holds-worth strip_of limit l.nodes (tree l) refl s.holds
      ∙ strips-worth (tree l)
      ∙ eaten-own (tree l) s.sound

  -- "areas stay below 2^52"
  pub strips-small : strips_of l.nodes limit < 2 ^ 52
  strips-small = omega (arith, strips-are, area-conserved (tree l) s.sound, sheet-small s.sound.domain)
