-- `restore` meets its contract: each way out is one outcome of the tests of `restore_of`. Assumes nothing.
use mathlib.Core.Path.{refl}
use borrow.Author.Tests.{eq-eqb, ne_eqb, lt-ltb, le-ltb}
use Rattle.layout.specs.Restore.{restore_of}
use Rattle.layout.proofs.Ways.{onward, ended, onward-by, ended_by}
use Rattle.layout.proofs.layout.Layout.restore.Goals as goal

pub returns-then-not-sound : goal.returns-then-not-sound
unfolding restore_of
returns-then-not-sound c =
    ended_by _ c.sound.ensures c.if-not-sound.true c.refused_restore.ensures

pub returns-then-not-sound-2 : goal.returns-then-not-sound-2
unfolding restore_of
returns-then-not-sound-2 c =
    onward-by _ c.sound.ensures c.if-not-sound.false
    (ended_by _ c.sound-2.ensures c.if-not-sound-2.true c.refused_restore-then-not-sound-2.ensures)

pub returns-then-self-snapshot : goal.returns-then-self-snapshot
unfolding restore_of
returns-then-self-snapshot c =
    onward-by _ c.sound.ensures c.if-not-sound.false
    (onward-by _ c.sound-2.ensures c.if-not-sound-2.false (ended _ (ne_eqb _ _ c.if-self-snapshot.true) c.refused_restore-then-self-snapshot.ensures))

pub returns-then-next-self : goal.returns-then-next-self
unfolding restore_of
returns-then-next-self c =
    onward-by _ c.sound.ensures c.if-not-sound.false
    (onward-by _ c.sound-2.ensures c.if-not-sound-2.false
    (onward _ (eq-eqb _ _ c.if-self-snapshot.false) (rw (lt-ltb _ _ c.if-next-self.true) refl)))

pub returns-else-next-self : goal.returns-else-next-self
unfolding restore_of
returns-else-next-self c =
    onward-by _ c.sound.ensures c.if-not-sound.false
    (onward-by _ c.sound-2.ensures c.if-not-sound-2.false
    (onward _ (eq-eqb _ _ c.if-self-snapshot.false) (rw (le-ltb _ _ c.if-next-self.false) refl)))
