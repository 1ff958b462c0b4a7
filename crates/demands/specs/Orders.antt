-- Document 02, No. 10: "Two clerks work on one sheet and call their steps in turn." A step is a booking or a removal as it is called; here is when every step of
-- a list is accepted, which steps are apart, and what it is to take a list in another order. (Tidying is no step of such a list.)
use Rattle.std.specs.Prelude.{◌≡◌, List, [], ◌∷◌, ◌++◌, ◌⊎◌, ℕ}
use Rattle.std.proofs.Math.Option.{Option, none, some}
use Rattle.piece.specs.declared.rotation.Rotation.{Rotation}
use Rattle.piece.specs.declared.parttype.PartType.{PartType}
use Rattle.piece.specs.declared.insertion_blueprint.InsertionShape.{InsertionShape}
use Rattle.tree.specs.Tree.{Inside}
use Rattle.tree.specs.Family.{parent_of}
use Rattle.marks.specs.declared.Mark.{Mark}
use Rattle.marks.specs.declared.Refusal.{Refusal}
use Rattle.marks.specs.declared.Refusal.TheVariants.{SerialsSpent, TooManyNodes}
use Rattle.layout.specs.declared.layout.Layout.{Layout}
use Rattle.layout.specs.declared.insert.Inserted.{Inserted}
use Rattle.layout.specs.declared.remove.Removed.{Removed}
use Rattle.layout.specs.Check.{limit, tree}
use Rattle.layout.specs.Insert.{insert_no}
use Rattle.layout.specs.Remove.{remove_no}
use Rattle.demands.specs.Life.{NamesPiece}
use Rattle.demands.specs.Calls.{InsertAccepted, RemoveAccepted}

-- a part is booked, in a rotation and a shape, in the piece that the mark names; or that piece is removed, into a lent buffer of this room
pub data Step : Type 0 where
  booking : Mark → PartType → Rotation → InsertionShape → Step
  removal : Mark → ℕ → Step

abbrev pub mark_of : Step → Mark
mark_of (booking m p r s) = m
mark_of (removal m room) = m

abbrev pub place_of : Step → ℕ
place_of s = (mark_of s).place

-- what the call is refused with, on the layout l
abbrev pub refusal_of : Layout → Step → Option Refusal
refusal_of l (booking m p r s) = insert_no l m p r s
refusal_of l (removal m room) = remove_no l m room

-- it is refused with nothing but 8; and with nothing but 8 or 9
abbrev pub OnlyEight : Option Refusal → Type 0
OnlyEight o = (o ≡ none) ⊎ (o ≡ some TooManyNodes)

abbrev pub OnlyEightOrNine : Option Refusal → Type 0
OnlyEightOrNine o = OnlyEight o ⊎ (o ≡ some SerialsSpent)

-- the call is accepted on l and hands n back
abbrev pub Accepted : Layout → Step → Layout → Type 0
Accepted l (booking m p r s) n = (a : Inserted) × InsertAccepted l m p r s a × (n ≡ a.layout)
Accepted l (removal m room) n = (a : Removed) × RemoveAccepted l m room a × (n ≡ a.layout)

-- every call of the list is accepted, one after the other, from l to n
pub data AllAccepted : Layout → List Step → Layout → Type 0 where
  nothing : {l : Layout} → AllAccepted l [] l
  then : {l k n : Layout} (s : Step) (ss : List Step) → Accepted l s k → AllAccepted k ss n → AllAccepted l (s ∷ ss) n

-- each step of a list is such; and each two of them are
abbrev pub Each : (Step → Type 0) → List Step → Type 0
Each P [] = Unit {0}
Each P (s ∷ ss) = P s × Each P ss

abbrev pub Pairwise : (Step → Step → Type 0) → List Step → Type 0
Pairwise R [] = Unit {0}
Pairwise R (s ∷ ss) = Each (R s) ss × Pairwise R ss

-- "each naming a piece of the layout the list starts from"
abbrev pub Naming : Layout → List Step → Type 0
Naming l ss = Each (λ s. NamesPiece l (mark_of s)) ss

-- one books and the other removes
abbrev pub Mixed : Step → Step → Type 0
Mixed (booking m p r s) (booking m' p' r' s') = ⊥
Mixed (booking m p r s) (removal m' room) = Unit {0}
Mixed (removal m room) (booking m' p r s) = Unit {0}
Mixed (removal m room) (removal m' room') = ⊥

-- "apart .. in this sense": "two bookings in different free pieces", "two removals neither inside the other", "a booking and a removal .. where the free piece
-- is neither inside the removed one nor under the same parent"
pub record Apart (l : Layout) (s s' : Step) : Type 0 where
  pub different : place_of s ≡ place_of s' → ⊥
  pub outside : Inside (place_of s) (place_of s') (tree l) → ⊥
  pub inside : Inside (place_of s') (place_of s) (tree l) → ⊥
  pub parents : Mixed s s' → parent_of limit (place_of s) (tree l) ≡ parent_of limit (place_of s') (tree l) → ⊥

-- no booking comes before a removal
abbrev pub Books : Step → Type 0
Books (booking m p r s) = Unit {0}
Books (removal m room) = ⊥

abbrev pub RemovalsFirst : List Step → Type 0
RemovalsFirst [] = Unit {0}
RemovalsFirst (booking m p r s ∷ ss) = Each Books ss
RemovalsFirst (removal m room ∷ ss) = RemovalsFirst ss

-- the same steps in another order: the first of the one list stands somewhere in the other, and what is left of both is so again
pub data Reordered : List Step → List Step → Type 0 where
  empty : Reordered [] []
  first : {ss : List Step} (s : Step) (before after : List Step) → Reordered ss (before ++ after) → Reordered (s ∷ ss) (before ++ (s ∷ after))
