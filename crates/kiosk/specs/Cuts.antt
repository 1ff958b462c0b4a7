-- What the exported list of saw cuts is: the list of the layout that the record stands for, first in the bytes that were lent, and how many bytes it
-- has. Where that layout isn't sound (refusal 1) the count is 65,535, which no list has, and the bytes are as they were. There is room for every
-- list, so refusal 13 isn't given.
use Rattle.std.specs.Prelude.{◌≡◌, cond, List, ℕ, length}
use Rattle.std.proofs.lemmas.List.Edits.{sets}
use Rattle.layout.specs.declared.layout.Layout.{Layout}
use Rattle.layout.specs.Check.{sound_b}
use Rattle.saw.specs.Written.{saw_bytes}
use Rattle.kiosk.specs.declared.records.LayoutRecord.{LayoutRecord}
use Rattle.kiosk.specs.Records.{layout_of}

-- how many bytes are said, of what is to be written
abbrev pub list_count : Layout → List ℕ → ℕ
list_count l what = cond (sound_b l) (length what) 65535

-- what the lent bytes then are
abbrev pub list_left : Layout → List ℕ → List ℕ → List ℕ
list_left l what before = cond (sound_b l) (sets before 0 what) before

-- from the layout's record and the bytes before, these bytes afterwards and this count
pub record Handed (given : LayoutRecord) (before after : List ℕ) (count : ℕ) : Type 0 where
  pub counted : count ≡ list_count (layout_of given) (saw_bytes (layout_of given))
  pub written : after ≡ list_left (layout_of given) (saw_bytes (layout_of given)) before
