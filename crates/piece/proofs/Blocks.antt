-- Laws of blocks: how many nodes a shape makes, what the code's list of them tells, how much is eaten, and that the nodes and what was eaten
-- fill the piece.
use mathlib.Core.Path.{◌≡◌, refl, ap, ◌∙◌}
use mathlib.Core.Bool.{true}
use mathlib.Core.List.{List}
use Prim.Native.Nat.{ℕ, ◌+◌, ◌*◌, ◌-◌, ◌≤◌}
use native.Mathlib.Nat.{add-mul}
use native.Mathlib.Omega.{arith}
use lib.ListN.{length, take}
use Rattle.piece.specs.declared.orientation.Orientation.{Orientation}
use Rattle.piece.specs.declared.size.Size.{Size}
use Rattle.piece.specs.declared.insertion_blueprint.InsertionShape.{InsertionShape}
use Rattle.piece.specs.declared.insertion_blueprint.InsertionShape.TheVariants.{AlongCurrentCut, AcrossCurrentCut, AlongThenAcross, AcrossThenAlong}
use Rattle.piece.specs.declared.insertion_blueprint.InsertionNode.{InsertionNode}
use Rattle.piece.specs.Sides.{laid, area}
use Rattle.piece.specs.Offers.{fits}
use Rattle.piece.specs.Insertion.{left_behind, eaten_behind, table, new_nodes, laid_all, block_of, covered, outside, nodes_in_order, no_node, as_blueprint, blueprint_of}
use Rattle.piece.proofs.Sizes.{other-twice, laid-twice, laid-other, area-laid, fits-laid, fits-sides}
use Rattle.piece.proofs.Padded.{padded-whole}

pub block-length : (s : InsertionShape) (b q : ℕ) (c d : Orientation) (piece part : Size) →
    length (nodes_in_order q d (block_of s b c piece part)) ≡ new_nodes s
unfolding block_of table
block-length AlongCurrentCut b q c d piece part = refl
block-length AcrossCurrentCut b q c d piece part = refl
block-length AlongThenAcross b q c d piece part = refl
block-length AcrossThenAlong b q c d piece part = refl

pub new-nodes-few : (s : InsertionShape) → new_nodes s ≤ 5
new-nodes-few AlongCurrentCut = omega arith
new-nodes-few AcrossCurrentCut = omega arith
new-nodes-few AlongThenAcross = omega arith
new-nodes-few AcrossThenAlong = omega arith

-- the nodes are the list's first entries, as many as the count says
pub held_whole : (l : List InsertionNode) → length l ≤ 5 → take (as_blueprint l).count (as_blueprint l).nodes ≡ l
unfolding as_blueprint
held_whole l h = padded-whole no_node 5 5 l h

module _ (s : InsertionShape) (b : ℕ) (c : Orientation) (piece part : Size) where
  pub blueprint-count : (blueprint_of s b c piece part).count ≡ new_nodes s
  unfolding blueprint_of as_blueprint
  blueprint-count = block-length s b outside c c piece part

-- What a blade of width b eats of a remainder r is the lesser of the two.
module _ (b r : ℕ) where
  -- no more than the blade is wide
  pub eaten-width : eaten_behind b r ≤ b
  eaten-width = omega arith

  -- no more than there is
  pub eaten-rest : eaten_behind b r ≤ r
  eaten-rest = omega arith

  -- the blade's whole width, where there is that much
  pub eaten-blade : b ≤ r → eaten_behind b r ≡ b
  eaten-blade h = omega arith

  -- all that there is, where that is less
  pub eaten-all : r ≤ b → eaten_behind b r ≡ r
  eaten-all h = omega arith

  -- what was eaten and what is left make the remainder
  pub eaten-left : eaten_behind b r + left_behind b r ≡ r
  eaten-left = omega arith

-- a side cut in two with the blade's strip between, and the side that all three keep
cut : {a w : ℕ} (b keep : ℕ) → w ≤ a → w * keep + eaten_behind b (a - w) * keep + left_behind b (a - w) * keep ≡ a * keep
cut {a} {w} b keep l =
    rw (← add-mul w (eaten_behind b (a - w)) keep, ← add-mul (w + eaten_behind b (a - w)) (left_behind b (a - w)) keep)
    (ap (λ (n : ℕ). n * keep) (omega arith))

-- a row of the table, laid by the cut, fills the piece
table-fills : (s : InsertionShape) (b : ℕ) (c : Orientation) (W H w h : ℕ) → w ≤ W → h ≤ H
    → covered c (laid_all c (table s b W H w h)) ≡ W * H
unfolding table
table-fills AlongCurrentCut b c W H w h p q = simp (area-laid, laid-twice) (omega (arith, cut b H p))
table-fills AcrossCurrentCut b c W H w h p q = simp (area-laid, laid-twice, laid-other) (omega (arith, cut b W q))
table-fills AlongThenAcross b c W H w h p q = simp (area-laid, laid-twice, laid-other) (omega (arith, cut b w q, cut b H p))
table-fills AcrossThenAlong b c W H w h p q = simp (area-laid, laid-twice, laid-other, other-twice) (omega (arith, cut b h p, cut b W q))

-- whatever the cut and the blade, the parts and free pieces of a block and what was eaten have the piece's area, where the part fits
pub block-fills : (s : InsertionShape) (b : ℕ) (c : Orientation) (piece part : Size) → fits piece part ≡ true →
    covered c (block_of s b c piece part) ≡ area piece
unfolding block_of
block-fills s b c piece part f =
    let z = fits-sides (laid c piece) (laid c part) (fits-laid c piece part ∙ f) in
    table-fills s b c _ _ _ _ z.0 z.1 ∙ area-laid c piece
