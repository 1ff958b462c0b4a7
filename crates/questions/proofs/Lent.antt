-- The calls that write into a lent buffer (specs/Written.antt): the three ways that one can end, and what is written on a sound layout. It rests
-- on what `walks` says of the snapshot and of the numbers along every place. Assumes nothing.
use mathlib.Core.Path.{◌≡◌, refl, sym, ap, ◌∙◌}
use mathlib.Core.List.{List}
use mathlib.Core.Bool.{true, false}
use mathlib.Core.Logic.{inl}
use Prim.Native.Nat.{ℕ, ◌*◌, ◌≤◌, ◌<◌}
use native.Mathlib.Omega.{arith}
use lib.ListN.{length}
use lib.Seq.{sets}
use borrow.Author.Tests.{eq-eqb, le-leb, lt-leb}
use Rattle.std.specs.Prelude.{Result, Ok, Err}
use Rattle.piece.specs.declared.settings.Settings.{Settings}
use Rattle.piece.specs.Row.{nil, grow}
use Rattle.tree.specs.Tree.{Tree, In}
use Rattle.tree.specs.Sound.{Sound}
use Rattle.tree.specs.Removal.{subtree}
use Rattle.tree.specs.Snapshot.{snapshot}
use Rattle.lists.specs.Lists.{entries}
use Rattle.walks.specs.Columns.{columns_of, snapshot_in}
use Rattle.walks.specs.Along.{below, numbers_along}
use Rattle.walks.specs.Inner.{Placed}
use Rattle.walks.proofs.Meaning.{snapshot-subtree}
use Rattle.walks.proofs.Entries.{entries_below, placed_below}
use Rattle.walks.proofs.Along.{length-snapshot, numbers-held-count, parts-most}
use Rattle.marks.specs.declared.Refusal.TheVariants.{NotSound, BufferTooShort}
use Rattle.layout.specs.declared.layout.Layout.{Layout}
use Rattle.layout.specs.Check.{limit, tree, sound_b}
use Rattle.layout.specs.SoundLayout.{SoundLayout}
use Rattle.marks.specs.declared.Refusal.{Refusal}
use Rattle.questions.specs.Written.{answer_to, left_in_buffer, snapshot_bytes, held_numbers}

-- ---- the ways to end

-- a call that is to write `what` answers r, and the buffer is this before and that after
abbrev pub Ends : Layout → List ℕ → Result ℕ Refusal → List ℕ → List ℕ → Type 0
Ends l what r before after = (r ≡ answer_to l what (length before)) × (after ≡ left_in_buffer l what before)

module _ (l : Layout) (what before : List ℕ) where
  pub not_sound : sound_b l ≡ false → Ends l what (Err NotSound) before before
  not_sound e = rw e (refl, refl)

  pub too_short : sound_b l ≡ true → length before < length what → Ends l what (Err BufferTooShort) before before
  too_short e h = rw (e, lt-leb (length what) (length before) h) (refl, refl)

  pub done : {n : ℕ} {after : List ℕ} → sound_b l ≡ true → length what ≤ length before → n ≡ length what
      → after ≡ sets before 0 what → Ends l what (Ok n) before after
  done e h f g = rw (e, le-leb (length what) (length before) h) (ap Ok f, g)

-- ---- the snapshot

-- a sound tree is the subtree at place 0
top_in : {limit : ℕ} {settings : Settings} (w : Tree) → Sound limit settings w → In 0 w
top_in nil s = absurd s.topped
top_in (grow p d k r) s = inl (sym s.topped.0.place)

top-whole : {limit : ℕ} {settings : Settings} (w : Tree) → Sound limit settings w → subtree 0 w ≡ w
top-whole nil s = absurd s.topped
top-whole (grow p d k r) s = rw (eq-eqb p 0 s.topped.0.place, s.topped.0.alone) refl

module _ (l : Layout) (s : SoundLayout l) where
  pub held-room : l.held ≤ limit
  held-room = omega (arith, s.held, s.sound.room)

  pub bytes-length : length (snapshot_bytes l) ≡ 14 * l.held
  unfolding snapshot_bytes
  bytes-length = length-snapshot (tree l) ∙ rw s.held refl

  -- what is written down the tree from place 0 is the snapshot
  pub written_is : snapshot_in limit (columns_of l.nodes) l.held 0 ≡ snapshot_bytes l
  unfolding snapshot_bytes
  written_is =
      snapshot-subtree limit l.nodes (tree l) 0 l.held s.holds (top_in (tree l) s.sound) (omega (arith, s.held))
      ∙ ap snapshot (top-whole (tree l) s.sound)

-- ---- the part numbers

module _ {o : List ℕ} (every : o ≡ below limit) where
  pub every-placed : Placed limit limit o
  every-placed = rw every (placed_below limit)

  pub numbers-are : (l : Layout) → numbers_along l.nodes (entries limit o) ≡ held_numbers l
  unfolding held_numbers
  numbers-are l = rw every (ap (numbers_along l.nodes) (entries_below limit))

pub numbers-room : (l : Layout) → SoundLayout l → length (held_numbers l) ≤ limit
unfolding held_numbers
numbers-room l s =
    omega (arith, numbers-held-count limit l.nodes (tree l) s.holds, parts-most (tree l), s.sound.room)
