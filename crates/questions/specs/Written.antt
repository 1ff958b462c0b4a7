-- What the two calls that write into a lent buffer answer and leave in it: the tree snapshot and the part numbers held. Refusals 1, then 13:
-- "lent buffer shorter than what this call would write"; a refusal leaves the buffer as it was, and "Bytes past the last node stay."
use Rattle.std.specs.Prelude.{List, cond, ℕ, leb, length, Result, Ok, Err}
use Rattle.std.proofs.lemmas.List.Edits.{sets}
use Rattle.tree.specs.Snapshot.{snapshot}
use Rattle.walks.specs.Along.{below, numbers_along}
use Rattle.marks.specs.declared.Refusal.TheVariants.{NotSound, BufferTooShort}
use Rattle.layout.specs.declared.layout.Layout.{Layout}
use Rattle.layout.specs.Check.{limit, tree, sound_b}
use Rattle.marks.specs.declared.Refusal.{Refusal}

-- how many entries were written, of what is to be written into so much room
abbrev pub answer_to : Layout → List ℕ → ℕ → Result ℕ Refusal
answer_to l what room =
    cond (sound_b l) (cond (leb (length what) room) (Ok (length what)) (Err BufferTooShort)) (Err NotSound)

-- what the buffer then holds
abbrev pub left_in_buffer : Layout → List ℕ → List ℕ → List ℕ
left_in_buffer l what out = cond (sound_b l) (cond (leb (length what) (length out)) (sets out 0 what) out) out

-- the tree's snapshot
unfoldable pub snapshot_bytes : Layout → List ℕ
snapshot_bytes l = snapshot (tree l)

-- the numbers of the parts held, by place
unfoldable pub held_numbers : Layout → List ℕ
held_numbers l = numbers_along l.nodes (below limit)
