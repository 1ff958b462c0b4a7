-- A layout that is put back is sound, and stands as the snapshot stood: the same tree, lists, sheet and stages.
use mathlib.Core.Path.{◌≡◌, refl}
use Prim.Native.Nat.{ℕ, ◌≤◌}
use native.Mathlib.Omega.{arith}
use mathlib.Core.Bool.{Bool, true, false, cond}
use lib.Dec.{ltb}
use borrow.Author.Tests.{ltb-true, ltb-false}
use Rattle.layout.specs.declared.layout.Layout.{Layout}
use Rattle.layout.specs.Check.{max_serial, tree}
use Rattle.layout.specs.SoundLayout.{SoundLayout}
use Rattle.layout.specs.Restore.{greater, with_serial}

-- the greater of two serials is at least each, and is one of them
pub greater-left : (a b : ℕ) → a ≤ greater a b
greater-left a b = go (ltb b a) refl
  where
    go : (t : Bool) → ltb b a ≡ t → a ≤ cond t a b
    go true e = omega arith
    go false e = ltb-false b a e

pub greater-right : (a b : ℕ) → b ≤ greater a b
greater-right a b = go (ltb b a) refl
  where
    go : (t : Bool) → ltb b a ≡ t → b ≤ cond t a b
    go true e = let h = ltb-true b a e in omega arith
    go false e = omega arith

pub greater-most : (a b m : ℕ) → a ≤ m → b ≤ m → greater a b ≤ m
greater-most a b m ha hb = go (ltb b a)
  where
    go : (t : Bool) → cond t a b ≤ m
    go true = ha
    go false = hb

-- a sound layout with a later last serial is sound
pub later-sound : (l : Layout) (s : ℕ) → SoundLayout l → l.serial ≤ s → s ≤ max_serial → SoundLayout (with_serial l s)
later-sound l s h low most =
    record {
      sound = h.sound;
      holds = h.holds;
      held = h.held;
      used = h.used;
      free = h.free;
      removable = h.removable;
      free_tail = h.free_tail;
      removable_tail = h.removable_tail;
      serials =
          record {
            differ = h.serials.differ;
            least = h.serials.least;
            most = λ i d y. let b = h.serials.most i d y in omega arith;
            spent = most;
          };
    }

pub restored-sound : (l s : Layout) → SoundLayout l → SoundLayout s → SoundLayout (with_serial s (greater l.serial s.serial))
restored-sound l s h g =
    later-sound s (greater l.serial s.serial) g (greater-right l.serial s.serial)
    (greater-most l.serial s.serial max_serial h.serials.spent g.serials.spent)

-- the tree is the snapshot's, places and serials included
pub restored-tree : (s : Layout) (n : ℕ) → tree (with_serial s n) ≡ tree s
restored-tree s n = refl
