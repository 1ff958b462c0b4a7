-- The calls on a sound layout: what is listed over the columns of its table are the cuts of its tree, there is room for them and for the pieces of the pile,
-- and what is copied of the list is what the calls are to write. Rests on Meaning, Sawn, CutBytes and Layouts. Assumes nothing.
use mathlib.Core.Path.{◌≡◌, ap, ◌∙◌}
use mathlib.Core.List.{List}
use Prim.Native.Nat.{ℕ, ◌*◌, ◌≤◌}
use native.Mathlib.Omega.{arith}
use lib.ListN.{length, length-replicate}
use lib.Seq.{sets, sets-eq, length-sets}
use Rattle.lists.specs.Lists.{zeros}
use Rattle.table.specs.Table.{at}
use Rattle.layout.specs.declared.layout.Layout.{Layout}
use Rattle.layout.specs.Check.{limit, tree}
use Rattle.layout.specs.SoundLayout.{SoundLayout}
use Rattle.walks.specs.Columns.{columns_of}
use Rattle.saw.specs.declared.cut.Cut.{Cut}
use Rattle.saw.specs.Cuts.{cuts}
use Rattle.saw.specs.Listed.{listed_in, piles_in, entries_of_cuts, nines_of, tenths_of}
use Rattle.saw.specs.Written.{saw_bytes, amount_bytes}
use Rattle.saw.proofs.Meaning.{listed-tree, piled-tree}
use Rattle.saw.proofs.Sawn.{boards-most}
use Rattle.saw.proofs.CutBytes.{length-entries, nines-are, tenths-are}
use Rattle.saw.proofs.Layouts.{few-cuts}

-- what is listed from the top's first child on, and how many pieces of the pile that is
abbrev pub cuts_in : Layout → List Cut
cuts_in l = listed_in limit (columns_of l.nodes) (at l.nodes 0).datum.cut l.held 0 (at l.nodes 0).first

abbrev pub pieces_in : Layout → ℕ
pieces_in l = piles_in limit (columns_of l.nodes) (at l.nodes 0).datum.cut l.held (at l.nodes 0).first

module _ (l : Layout) (s : SoundLayout l) where
  pub cuts_are : cuts_in l ≡ cuts (tree l)
  cuts_are = listed-tree limit l.settings l.nodes (tree l) l.held s.sound s.holds (omega (arith, s.held))

  pub cuts-room : length (cuts_in l) ≤ limit
  cuts-room = omega (arith, ap length cuts_are, few-cuts l s)

  pub pieces_room : pieces_in l ≤ limit
  pieces_room =
      omega (
        arith,
        piled-tree limit l.settings l.nodes (tree l) l.held s.sound s.holds (omega (arith, s.held)),
        boards-most (tree l),
        s.sound.room,
      )

-- what the calls copy of the list that was made, with n cuts in it
pub record ListMade (l : Layout) (list : List ℕ) (n : ℕ) : Type 0 where
  pub few : n ≤ limit
  pub long : length list ≡ 10 * limit
  pub nines : nines_of n list ≡ saw_bytes l
  pub tenths : tenths_of n list ≡ amount_bytes l

pub list-made : (l : Layout) → SoundLayout l → {list : List ℕ} {n : ℕ} → list ≡ sets (zeros (10 * limit)) 0 (entries_of_cuts (cuts (tree l)))
    → n ≡ length (cuts (tree l)) → ListMade l list n
unfolding saw_bytes amount_bytes
list-made l s wrote counted =
    let cs = cuts (tree l) in
    let room = length-replicate {A = ℕ} (10 * limit) 0 in
    -- the entries stand first
    let first = wrote ∙ sets-eq (entries_of_cuts cs) (zeros (10 * limit)) 0 (omega (arith, room, length-entries cs, few-cuts l s)) in
    record {
      few = omega (arith, counted, few-cuts l s);
      long = ap length wrote ∙ length-sets (zeros (10 * limit)) 0 (entries_of_cuts cs) ∙ room;
      nines = rw (counted, first) (nines-are cs _);
      tenths = rw (counted, first) (tenths-are cs _);
    }
