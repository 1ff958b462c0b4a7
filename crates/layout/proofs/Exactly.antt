-- Document 01, "Sound layout": the soundness check says yes exactly when the rule holds, a sound layout is determined by what it is said to hold
-- (proofs/Unique.antt), and the all-zero record is not sound.
use mathlib.Core.Path.{◌≡◌, refl, sym, ◌∙◌}
use mathlib.Core.Bool.{Bool, true, false, ◌&&◌}
use Prim.Native.Nat.{ℕ, ◌<◌, ◌≤◌}
use native.Mathlib.Omega.{arith}
use lib.ListN.{length, take, length-replicate}
use Rattle.piece.specs.declared.node.Datum.{Datum}
use Rattle.piece.specs.declared.node.Kind.TheVariants.{Free}
use Rattle.piece.specs.Kinds.{is_free}
use Rattle.tree.specs.Sound.{Domain, Sound}
use Rattle.tree.specs.Steps.{Marked}
use Rattle.table.specs.Table.{zero_node, Holds}
use Rattle.sound.specs.Columns.{checked_columns, firsts_of, nexts_of, serials_of}
use Rattle.sound.specs.Hung.{hung_b}
use Rattle.sound.proofs.Says.{Says, clash, worded, and-says, then-says, itself-says}
use Rattle.sound.proofs.Means.{Passes, passes-holds, passes-sound, passes-serials}
use Rattle.sound.proofs.Passing.{sound-passes}
use Rattle.sound.proofs.Marks.{hung-says, hung-shown}
use Rattle.sound.proofs.FrameSays.{domain-says}
use Rattle.layout.specs.declared.layout.Layout.{Layout}
use Rattle.layout.specs.Check.{limit, tree, table_b, sums_b, serials_b, free_b, removable_b, columns_b, sound_b}
use Rattle.layout.specs.SoundLayout.{FreeList, RemovableList, Counted, SoundLayout, Sized}
use Rattle.layout.specs.Zero.{zero_layout}
use Rattle.layout.proofs.Listed.{free-says, removable-says, covered-says, free-list-says}
use Rattle.layout.proofs.Summed.{sums-says, serials-says}
pub use Rattle.layout.proofs.Unique.{free-list-unique, unique-layout, determined-layout}

regroup-says : {P : Type 0} (a b c : Bool) → Says ((a && b) && c) P → Says (a && (b && c)) P
regroup-says true b c s = s
regroup-says false b c s = s

-- the table holds a sound tree, and no serial is 0
pub record Stands (l : Layout) : Type 0 where
  pub holds : Holds limit l.nodes (tree l)
  pub sound : Sound limit l.settings (tree l)
  pub marked : Marked (tree l)

module _ (l : Layout) (sized : Sized l) where
  -- the tests of the table and of what hangs in it
  pub stands-says : Domain l.settings
      → Says (table_b l && hung_b limit (serials_of l.nodes) (firsts_of l.nodes) (nexts_of l.nodes)) (Stands l)
  unfolding table_b
  stands-says dom =
      worded
      (and-says (and-says (itself-says _) (and-says (itself-says _) (itself-says _)))
      (record { says = hung-says limit l.nodes; passes = hung-shown limit l.nodes }))
      (λ g. stands (record { places = g.0.0; top = g.0.1.0; rows = g.0.1.1; hung = g.1 }))
      (λ s. let p = passes s in ((p.places, (p.top, p.rows)), p.hung))
    where
      stands : Passes limit l.settings l.nodes → Stands l
      stands p =
          let some : 0 < limit = omega arith in
          let less : l.settings.stages < limit = omega arith in
          record {
            holds = passes-holds limit l.settings l.nodes sized.nodes some less p;
            sound = passes-sound limit l.settings l.nodes sized.nodes some less p dom;
            marked = passes-serials limit l.settings l.nodes sized.nodes some less p;
          }

      passes : Stands l → Passes limit l.settings l.nodes
      passes s = sound-passes limit l.settings l.nodes (tree l) s.holds s.sound.topped s.marked

  -- "the free list holds every free piece once, greatest area first, equal areas by rising serial"; "list tails .. are zero"
  pub free-test-says : Stands l
      → Says (free_b l (checked_columns l.nodes)) (FreeList (tree l) (take l.frees l.free) × Counted l.free l.frees)
  unfolding free_b
  free-test-says s =
      worded
      (then-says
      (covered-says l.nodes (tree l) s.holds s.marked true (λ (d : Datum). d.kind ≡ Free) (λ d. free-says d.kind) l.free
      l.frees sized.free)
      (λ g. free-list-says l.nodes (tree l) s.holds l.free l.frees (fits g.1) g.0))
      (λ g. (g.1, g.0.1)) (λ g. ((g.0.holding, g.1), g.0))
    where
      fits : Counted l.free l.frees → l.frees ≤ length l.free
      fits c = omega arith

  -- "the removable list holds every part and structure once, in any order"; "list tails .. are zero"
  pub removable-test-says : Stands l
      → Says (removable_b l (checked_columns l.nodes))
      (RemovableList (tree l) (take l.removables l.removable) × Counted l.removable l.removables)
  unfolding removable_b
  removable-test-says s =
      covered-says l.nodes (tree l) s.holds s.marked false (λ (d : Datum). is_free d.kind ≡ false) (λ d. removable-says d.kind)
      l.removable l.removables sized.removable

  -- the tests of the sums, the serials and the lists, once the table stands
  rest-says : Stands l
      → Says (sums_b l (checked_columns l.nodes)
      && (serials_b (serials_of l.nodes) l.serial && (free_b l (checked_columns l.nodes) && removable_b l (checked_columns l.nodes))))
      (SoundLayout l)
  rest-says s =
      worded
      (and-says (sums-says l (tree l) s.holds s.marked)
      (and-says (serials-says l.nodes (tree l) s.holds s.marked l.serial) (and-says (free-test-says s) (removable-test-says s))))
      (λ g.
      record {
        sound = s.sound;
        holds = s.holds;
        held = g.0.0;
        used = g.0.1;
        free = g.1.1.0.0;
        removable = g.1.1.1.0;
        free_tail = g.1.1.0.1;
        removable_tail = g.1.1.1.1;
        serials = g.1.0;
      })
      (λ r. ((r.held, r.used), (r.serials, ((r.free, r.free_tail), (r.removable, r.removable_tail)))))

  tests-say : Says (sound_b l) (Domain l.settings × (Stands l × SoundLayout l))
  unfolding sound_b columns_b
  tests-say =
      then-says (domain-says l.settings)
      (λ dom. regroup-says (table_b l) (hung_b limit (serials_of l.nodes) (firsts_of l.nodes) (nexts_of l.nodes)) _
      (then-says (stands-says dom) rest-says))

  -- the check says yes exactly when the layout is sound
  pub soundness : Says (sound_b l) (SoundLayout l)
  soundness =
      worded tests-say (λ g. g.1.1)
      (λ r. (r.sound.domain, (record { holds = r.holds; sound = r.sound; marked = r.serials.least }, r)))

pub sound-says : (l : Layout) → Sized l → sound_b l ≡ true → SoundLayout l
sound-says l sized = (soundness l sized).says

pub sound-shown : (l : Layout) → Sized l → SoundLayout l → sound_b l ≡ true
sound-shown l sized = (soundness l sized).passes

-- ---- "An all-zero record isn't sound."

pub zero-sized : Sized zero_layout
unfolding zero_layout
zero-sized =
    record {
      nodes = length-replicate limit zero_node;
      free = length-replicate {A = ℕ} limit 0;
      removable = length-replicate {A = ℕ} limit 0;
    }

pub zero-refused : sound_b zero_layout ≡ false
unfolding zero_layout sound_b
zero-refused = refl

pub zero-not-sound : SoundLayout zero_layout → ⊥
zero-not-sound s = clash (sym zero-refused ∙ sound-shown zero_layout zero-sized s)
