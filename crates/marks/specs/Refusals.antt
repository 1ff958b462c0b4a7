-- Document 01, "What a call says no with": the number of each refusal.
use Rattle.std.specs.Prelude.{ℕ}
use Rattle.marks.specs.declared.Refusal.{Refusal}
use Rattle.marks.specs.declared.Refusal.TheVariants.{NotSound, OpeningOutside, PartOutside, OtherLayout, Gone, NotFree, NotOffered, TheTop, FreePiece, TooManyNodes, SerialsSpent, PastTheEnd, BufferTooShort, Malformed}

abbrev pub refusal_no : Refusal → ℕ
-- a layout or snapshot isn't sound
refusal_no NotSound = 1
-- opening number outside the domain
refusal_no OpeningOutside = 2
-- part side outside the domain
refusal_no PartOutside = 3
-- mark or snapshot has another layout number
refusal_no OtherLayout = 4
-- gone: place not held, or another serial there
refusal_no Gone = 5
-- offers or insert on a node that isn't free
refusal_no NotFree = 6
-- this rotation and shape aren't offered here
refusal_no NotOffered = 7
-- removal of the top
refusal_no TheTop = 10
-- removal of a free piece
refusal_no FreePiece = 11
-- nodes held, less one, plus new ones, exceed the limit (insert only)
refusal_no TooManyNodes = 8
-- last serial plus new nodes exceeds 1,000,000
refusal_no SerialsSpent = 9
-- list position at or past its end
refusal_no PastTheEnd = 12
-- lent buffer shorter than what this call would write
refusal_no BufferTooShort = 13
-- malformed frame
refusal_no Malformed = 14
