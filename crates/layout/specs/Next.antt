-- The layout after a call that changes it, in document 01's terms: it is sound, and its tree, its removable list and its last serial are these; number
-- and settings are as they were. (Its free list is the one that "Sound layout" gives the tree.) proofs/Changed.antt says that there is only one.
use Rattle.std.specs.Prelude.{◌≡◌, List, ℕ, take}
use Rattle.tree.specs.Tree.{Tree}
use Rattle.layout.specs.declared.layout.Layout.{Layout}
use Rattle.layout.specs.Check.{tree}
use Rattle.layout.specs.SoundLayout.{SoundLayout, Sized}

-- the entries of the removable list
abbrev pub removables : Layout → List ℕ
removables l = take l.removables l.removable

pub record Next (l : Layout) (w : Tree) (list : List ℕ) (last : ℕ) (n : Layout) : Type 0 where
  pub sound : SoundLayout n
  pub sized : Sized n
  pub tree : tree n ≡ w
  pub removable : removables n ≡ list
  pub serial : n.serial ≡ last
  pub number : n.number ≡ l.number
  pub settings : n.settings ≡ l.settings
