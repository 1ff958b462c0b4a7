-- `write::figures` meets its contract. Assumes nothing.
use mathlib.Core.Path.{refl}
use native.Mathlib.Omega.{arith}
use Rattle.frames.proofs.Writing.{answered, and_then, same-room, end-room}
use Rattle.desk_frames.proofs.Told.{line-room}
use Rattle.desk_frames.proofs.write.figures.Goals as goal

pub put_eight-tree-requires : goal.put_eight-tree-requires
put_eight-tree-requires c =
    let areas = and_then c.put_eight-used.ensures (and_then c.put_eight-free.ensures c.put_two-nodes.ensures) in
    let all = and_then c.begin-pen.ensures (and_then areas (and_then c.put-empty.ensures c.put_eight-sheet.ensures)) in
    omega (arith, c.requires, all.moved, same-room all)

pub end-requires : goal.end-requires
end-requires c =
    let areas = and_then c.put_eight-used.ensures (and_then c.put_eight-free.ensures c.put_two-nodes.ensures) in
    let usages = and_then c.put-empty.ensures (and_then c.put_eight-sheet.ensures c.put_eight-tree.ensures) in
    end-room (and_then c.begin-pen.ensures (and_then areas usages)) c.requires

pub returns : goal.returns
returns c =
    let usages = and_then c.put-empty.ensures (and_then c.put_eight-sheet.ensures c.put_eight-tree.ensures) in
    let all = and_then c.put_eight-used.ensures (and_then c.put_eight-free.ensures (and_then c.put_two-nodes.ensures usages)) in
    answered refl (and_then c.begin-pen.ensures all) c.end.ensures

pub shape_of-out : goal.shape_of-out
shape_of-out c =
    line-room (returns c)
