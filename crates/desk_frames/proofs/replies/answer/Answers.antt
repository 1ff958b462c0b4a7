-- `replies::answer` meets its contract. Assumes nothing.
use Rattle.desk_frames.proofs.replies.answer.Goals as goal

pub returns-in-WhyNot : goal.returns-in-WhyNot
returns-in-WhyNot c = rw c.in-WhyNot.is c.why_not.ensures

pub returns-in-RoomLight : goal.returns-in-RoomLight
returns-in-RoomLight c = rw c.in-RoomLight.is c.room_light.ensures

pub returns-in-FreePiece : goal.returns-in-FreePiece
returns-in-FreePiece c = rw c.in-FreePiece.is c.free_piece.ensures

pub returns-in-RemovablePiece : goal.returns-in-RemovablePiece
returns-in-RemovablePiece c = rw c.in-RemovablePiece.is c.removable_piece.ensures

pub returns-in-PartNumbers : goal.returns-in-PartNumbers
returns-in-PartNumbers c = rw c.in-PartNumbers.is c.part_numbers.ensures

pub returns-in-Figures : goal.returns-in-Figures
returns-in-Figures c = rw c.in-Figures.is c.figures.ensures

pub returns-in-Snapshot : goal.returns-in-Snapshot
returns-in-Snapshot c = rw c.in-Snapshot.is c.snapshot.ensures

pub returns-in-Cuts : goal.returns-in-Cuts
returns-in-Cuts c = rw c.in-Cuts.is c.cuts.ensures

pub returns-in-EatenArea : goal.returns-in-EatenArea
returns-in-EatenArea c = rw c.in-EatenArea.is c.eaten_area.ensures

pub returns-in-Amounts : goal.returns-in-Amounts
returns-in-Amounts c = rw c.in-Amounts.is c.amounts.ensures
