-- Document 01, "Restore": "gives the snapshot's state, except that the last serial issued is the greater of the two". Refusals 1 (either) and 4;
-- refused, the layout is as it was handed in.
use Rattle.std.specs.Prelude.{cond, ℕ, eqb, ltb, Ok, Err}
use Rattle.marks.specs.declared.Refusal.{Refusal}
use Rattle.marks.specs.declared.Refusal.TheVariants.{NotSound, OtherLayout}
use Rattle.layout.specs.declared.layout.Layout.{Layout}
use Rattle.layout.specs.declared.restore.Restored.{Restored}
use Rattle.layout.specs.Check.{sound_b}

-- the greater of the two
abbrev pub greater : ℕ → ℕ → ℕ
greater a b = cond (ltb b a) a b

-- a layout with another last serial
abbrev pub with_serial : Layout → ℕ → Layout
with_serial l s =
    record {
      nodes = l.nodes;
      free = l.free;
      removable = l.removable;
      held = l.held;
      frees = l.frees;
      removables = l.removables;
      used = l.used;
      serial = s;
      number = l.number;
      settings = l.settings;
    }

abbrev pub refused_restore : Layout → Refusal → Restored
refused_restore l r = record { outcome = Err r; layout = l }

unfoldable pub restore_of : Layout → Layout → Restored
restore_of l s =
    cond (sound_b l)
    (cond (sound_b s)
    (cond (eqb l.number s.number)
    (record { outcome = Ok tt; layout = with_serial s (greater l.serial s.serial) })
    (refused_restore l OtherLayout))
    (refused_restore l NotSound))
    (refused_restore l NotSound)
