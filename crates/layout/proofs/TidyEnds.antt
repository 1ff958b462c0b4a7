-- The steps of `tidy` and the ways that it can end (specs/Tidy.antt): what is known of a layout while structures are taken out of it one by one; and when none
-- is left, or a step finds no serial, that the answer is what the contract says. Assumes nothing.
use mathlib.Core.Path.{◌≡◌, refl, sym, ap, ◌∙◌}
use mathlib.Core.Bool.{Bool, true, false, cond}
use mathlib.Core.List.{[]}
use Prim.Native.Nat.{ℕ, ◌+◌, ◌-◌, ◌≤◌, ◌<◌}
use native.Mathlib.Omega.{arith}
use borrow.Author.Tests.{le-leb, lt-leb}
use lib.ListN.{length}
use Rattle.std.specs.Prelude.{Ok}
use Rattle.piece.specs.Row.{nil, grow}
use Rattle.tree.specs.Tree.{Tree, count}
use Rattle.tree.specs.Tidy.{Untidy, Lowest, Tidy, empties, empty_in, is_empty}
use Rattle.tree.proofs.Laws.TidyTree.{untidy-removable, untidy-numbers, untidy-some, taking-count, tidy-none}
use Rattle.table.specs.Table.{at}
use Rattle.walks.specs.Inner.{Placed}
use Rattle.removal.specs.declared.going.Going.{Going}
use Rattle.removal.specs.Going.{places, area_along}
use Rattle.removal.specs.Untidy.{bare_going, lowest_untidy}
use Rattle.removal.proofs.Gone.{bare-length}
use Rattle.removal.proofs.Bare.{found-lowest, found_none, bare-first, bare-goes, bare-area}
use Rattle.marks.specs.declared.Refusal.TheVariants.{NotSound, SerialsSpent}
use Rattle.layout.specs.declared.layout.Layout.{Layout}
use Rattle.layout.specs.declared.remove.Removed.{Removed}
use Rattle.layout.specs.declared.tidy.Tidied.{Tidied}
use Rattle.layout.specs.Check.{limit, max_serial, tree, sound_b}
use Rattle.layout.specs.SoundLayout.{SoundLayout, Sized}
use Rattle.layout.specs.Remove.{RemoveDone, numbers_out, place_for}
use Rattle.layout.specs.Tidy.{Tidies, tidy, takes, TidySays, refused_tidy, tidy_no}
use Rattle.layout.specs.Inner.{Leaving, Takeable}
use Rattle.layout.proofs.TakenOut.{goable, goes-is}

-- ---- a structure that may go

module _ (l : Layout) (s : SoundLayout l) where
  -- what the search finds
  pub finds : lowest_untidy l.nodes < limit → Lowest (lowest_untidy l.nodes) (tree l)
  finds = found-lowest l.settings l.nodes (tree l) s.sound s.holds

  pub finds-none : limit ≤ lowest_untidy l.nodes → Tidy (tree l)
  finds-none = found_none l.settings l.nodes (tree l) s.sound s.holds

  module _ (x : ℕ) (u : Untidy x (tree l)) where
    -- what `emptied` asks
    pub emptyable : Sized l → l.serial + 1 ≤ max_serial → Takeable l x × (numbers_out l x ≡ []) × Untidy x (tree l)
    unfolding numbers_out
    emptyable sized spent = (
      record { sized = sized; sound = s; removable = untidy-removable x (tree l) u; spent = spent },
      untidy-numbers x (tree l) s.sound.distinct u,
      u,
    )

    -- one structure less has no part inside
    pub one_less : (a : Removed) → RemoveDone l x a → 1 + empties (tree a.layout) ≡ empties (tree l)
    one_less a d =
        omega (arith, ap empties d.next.tree, taking-count x (place_for l x) (l.serial + 1) (tree l) s.sound u)

-- what goes with it: its child, itself, and the free piece at the end of its row
module _ (l : Layout) (x : ℕ) (t : Takeable l x) (u : Untidy x (tree l)) where
  -- what `going_bare` asks
  pub bare-asked : (x < limit) × ((at l.nodes x).parent < limit) × ((at l.nodes (at l.nodes x).parent).last < limit)
      × ((at l.nodes x).first < limit)
  bare-asked =
      let g = goable l x t in
      (g.0, g.1, g.2, bare-first l.settings l.nodes (tree l) t.sound.sound t.sound.holds x u)

  -- and what it gives
  module _ (g : Going)
      (gave : (places g ≡ bare_going l.nodes x) × ((g.count ≡ length (bare_going l.nodes x)) × Placed limit g.count g.order)) where
    pub bare-few : (2 ≤ g.count) × (g.count ≤ 3)
    bare-few = let b = bare-length l.nodes x in (omega (arith, b.0, gave.1.0), omega (arith, b.1, gave.1.0))

    -- that is all that a removal takes out
    pub bare-leaves : Leaving l x g
    bare-leaves =
        record {
          places = gave.0 ∙ bare-goes l.settings l.nodes (tree l) t.sound.sound t.sound.holds x u ∙ sym (goes-is l x t);
          room = omega (arith, bare-few.1);
          placed = gave.1.1;
        }

    -- and no part's area with it
    pub bare-used : l.used ≡ l.used - area_along l.nodes (places g)
    bare-used =
        let none : area_along l.nodes (places g) ≡ 0 =
        ap (area_along l.nodes) gave.0 ∙ bare-area l.settings l.nodes (tree l) t.sound.sound t.sound.holds x u
        in
        omega (arith, none)

-- no more of them than there are pieces
row-most : (t : Tree) → empty_in t ≤ count t
row-most nil = omega arith
row-most (grow p d k r) = go (is_empty d k) (row-most k) (row-most r)
  where
    go : (b : Bool) → empty_in k ≤ count k → empty_in r ≤ count r → cond b 1 0 + (empty_in k + empty_in r) ≤ 1 + (count k + count r)
    go true ik ir = omega arith
    go false ik ir = omega arith

pub empties-most : (t : Tree) → empties t ≤ count t
empties-most nil = omega arith
empties-most (grow p d k r) = omega (arith, row-most k)

-- ---- the steps

-- from l so many structures were taken out, each the lowest in its turn, and this is left
pub record Taken (l : Layout) (count : ℕ) (left : Layout) : Type 0 where
  pub sound : SoundLayout left
  pub sized : Sized left
  pub serial : left.serial ≡ l.serial + count
  pub counts : count + empties (tree left) ≡ empties (tree l)
  pub few : count + empties (tree left) ≤ limit
  pub onward : (k : ℕ) (n : Layout) → Tidies left k n → Tidies l (count + k) n

module _ (l : Layout) where
  pub none-taken : SoundLayout l → Sized l → Taken l 0 l
  none-taken s z =
      record {
        sound = s;
        sized = z;
        serial = omega arith;
        counts = omega arith;
        few = omega (arith, empties-most (tree l), s.sound.room);
        onward = λ k n g. let e : 0 + k ≡ k = omega arith in rw e g;
      }

  module _ (c : ℕ) (left : Layout) (h : Taken l c left) (x : ℕ) (low : Lowest x (tree left)) where
    pub one_more : (a : Removed) → RemoveDone left x a → Taken l (c + 1) a.layout
    one_more a d =
        let less = one_less left h.sound x low.untidy a d in
        record {
          sound = d.next.sound;
          sized = d.next.sized;
          serial = omega (arith, d.next.serial, h.serial);
          counts = omega (arith, h.counts);
          few = omega (arith, h.few);
          onward = λ k n g. let e : c + 1 + k ≡ c + (1 + k) = omega arith in rw e (h.onward (1 + k) n (takes x a low d g));
        }

    pub some_left : 1 ≤ empties (tree left)
    some_left = untidy-some x (tree left) h.sound.sound low.untidy

-- ---- the ends

module _ (l : Layout) where
  pub unsound-so : {a : Tidied} → sound_b l ≡ false → a ≡ refused_tidy l NotSound → TidySays l a
  unfolding TidySays tidy_no
  unsound-so e h = rw e h

  module _ (checked : sound_b l ≡ true) (c : ℕ) (left : Layout) (h : Taken l c left) where
    -- a step finds no serial: the last of them would be above the greatest
    pub spent-so : {a : Tidied} → 1 ≤ empties (tree left) → max_serial ≤ left.serial → a ≡ refused_tidy l SerialsSpent → TidySays l a
    unfolding TidySays tidy_no
    spent-so more b e =
        let over : max_serial < l.serial + empties (tree l) = omega (arith, h.serial, h.counts) in
        rw (checked, lt-leb (l.serial + empties (tree l)) max_serial over) e

    -- none is left
    pub done-so : Tidy (tree left) → TidySays l (record { outcome = Ok tt; count = c; layout = left })
    unfolding TidySays tidy_no
    done-so t =
        let z = tidy-none (tree left) h.sound.sound t in
        let within : l.serial + empties (tree l) ≤ max_serial = omega (arith, h.serial, h.counts, h.sound.serials.spent) in
        let e : c + 0 ≡ c = omega arith in
        rw (checked, le-leb (l.serial + empties (tree l)) max_serial within)
        (record { outcome = refl; tidies = rw e at (h.onward 0 left (tidy t)) })
