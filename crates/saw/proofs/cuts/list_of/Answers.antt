-- `list_of` meets its contract: what is listed from the top's first child on are the cuts of the tree. Assumes nothing.
use mathlib.Core.Path.{ap, ◌∙◌}
use mathlib.Core.List.{List}
use native.Mathlib.Omega.{arith}
use lib.ListN.{length}
use lib.Seq.{sets}
use Rattle.saw.specs.declared.cut.Cut.{Cut}
use Rattle.saw.specs.Listed.{entries_of_cuts}
use Rattle.saw.proofs.Call.{cuts_are, cuts-room, pieces_room}
use Rattle.saw.proofs.cuts.list_of.Goals as goal

pub list_row-l-requires : goal.list_row-l-requires
list_row-l-requires c =
    let l = c.args.layout in
    let p = pieces_room l c.requires in
    let h = cuts-room l c.requires in
    (omega (arith, p), omega (arith, h), omega (arith, h))

pub returns : goal.returns
returns c =
    let l = c.args.layout in
    let e = cuts_are l c.requires in
    record {
      written = c.list_row-l.ensures.written ∙ ap (λ (cs : List Cut). sets c.args.list.now 0 (entries_of_cuts cs)) e;
      counted = omega (arith, c.list_row-l.ensures.counted, ap length e);
    }
