-- Which requests fit the fields of their frames at the desk. What a line asks does (proofs/Heard.antt, `desk-request-fits`).
use Rattle.std.specs.Prelude.{◌<◌, ◌^◌}
use Rattle.frames.specs.Ranges.{MarkFits, PartFits, RequestFits}
use Rattle.desk_frames.specs.declared.Question.TheVariants.{WhyNot, RoomLight, FreePiece, RemovablePiece, PartNumbers, Figures, Snapshot, Cuts, EatenArea, Amounts}
use Rattle.desk_frames.specs.declared.DeskRequest.{DeskRequest}
use Rattle.desk_frames.specs.declared.DeskRequest.TheVariants.{Asks, Tidy, AtCounter}

abbrev pub DeskRequestFits : DeskRequest → Type 0
DeskRequestFits (Asks (WhyNot mark part)) = MarkFits mark × PartFits part
DeskRequestFits (Asks (RoomLight part)) = PartFits part
DeskRequestFits (Asks (FreePiece position)) = position < 2 ^ 16
DeskRequestFits (Asks (RemovablePiece position)) = position < 2 ^ 16
DeskRequestFits (Asks PartNumbers) = Unit
DeskRequestFits (Asks Figures) = Unit
DeskRequestFits (Asks Snapshot) = Unit
DeskRequestFits (Asks Cuts) = Unit
DeskRequestFits (Asks EatenArea) = Unit
DeskRequestFits (Asks Amounts) = Unit
DeskRequestFits Tidy = Unit
DeskRequestFits (AtCounter q) = RequestFits q
