-- From what the call says of the list to what is handed out: there is room for every list, so the call is refused where the layout isn't sound and
-- nowhere else. And the law of the list, for what is handed out. Rests on specs/Cuts and on what `saw` says of the list and its length.
use mathlib.Core.Path.{◌≡◌, refl, ap, ◌∙◌}
use mathlib.Core.Bool.{Bool, true, false, cond}
use mathlib.Core.List.{List, [], ◌∷◌}
use mathlib.Core.Option.{some}
use Prim.Native.Nat.{ℕ, ◌*◌, ◌≤◌}
use native.Mathlib.Omega.{arith}
use lib.Dec.{leb}
use lib.ListN.{length, take, length-map}
use lib.Seq.{sets}
use borrow.Author.Tests.{le-leb}
use mir.Val.{Val}
use denote.Laws.{Is}
use denote.Struct.Declared.{row}
use Rattle.std.specs.Prelude.{Result, Ok, Err}
use Rattle.marks.specs.declared.Refusal.TheVariants.{NotSound, BufferTooShort}
use Rattle.layout.specs.declared.layout.Layout.{Layout}
use Rattle.layout.specs.Check.{limit, tree, sound_b}
use Rattle.layout.specs.SoundLayout.{Sized}
use Rattle.layout.specs.Zero.{zero_layout}
use Rattle.layout.proofs.Exactly.{sound-says, zero-sized}
use Rattle.marks.specs.declared.Refusal.{Refusal}
use Rattle.questions.specs.Written.{answer_to, left_in_buffer}
use Rattle.saw.specs.Saw.{saw}
use Rattle.saw.specs.Cuts.{boards}
use Rattle.saw.specs.Read.{losing, read_cuts}
use Rattle.saw.specs.Written.{amount_bytes, saw_bytes}
use Rattle.saw.proofs.Copied.{take-stored}
use Rattle.saw.proofs.Layouts.{sawn-bytes, list-room}
use Rattle.kiosk.specs.declared.records.LayoutRecord.{LayoutRecord}
use Rattle.kiosk.specs.Records.{all_listed_b, node_of_record, fields_of, layout_of}
use Rattle.kiosk.specs.Cuts.{Handed, list_count, list_left}
use Rattle.kiosk.specs.contracts.records.LayoutRecord.{the_type}

-- what the type itself says of a record: its layout's arrays have as many entries as there are places, and those of zeros have too
record-sized : (r : LayoutRecord) (vs : List Val) → Is (row the_type) r vs → Sized (layout_of r)
unfolding layout_of fields_of
record-sized r vs g = go (all_listed_b r.nodes)
  where
    go : (b : Bool) → Sized (cond b (fields_of r) zero_layout)
    go true =
        record {
          nodes = length-map r.nodes node_of_record ∙ g.1.1.0.1.0.1;
          free = g.1.1.1.0.1.0.1;
          removable = g.1.1.1.1.0.1.0.1;
        }
    go false = zero-sized

-- what is said of an answer
abbrev pub said : Result ℕ Refusal → ℕ
said (Ok n) = n
said (Err e) = 65535

-- a list for which there is room where the layout is sound
module _ (l : Layout) (what before : List ℕ) (fits : sound_b l ≡ true → length what ≤ length before) where
  said-count : said (answer_to l what (length before)) ≡ list_count l what
  said-count = go (sound_b l) fits
    where
      go : (b : Bool) → (b ≡ true → length what ≤ length before)
          → said (cond b (cond (leb (length what) (length before)) (Ok (length what)) (Err BufferTooShort)) (Err NotSound))
          ≡ cond b (length what) 65535
      go true h = rw (le-leb (length what) (length before) (h refl)) refl
      go false h = refl

  left-whole : left_in_buffer l what before ≡ list_left l what before
  left-whole = go (sound_b l) fits
    where
      go : (b : Bool) → (b ≡ true → length what ≤ length before)
          → cond b (cond (leb (length what) (length before)) (sets before 0 what) before) before ≡ cond b (sets before 0 what) before
      go true h = rw (le-leb (length what) (length before) (h refl)) refl
      go false h = refl

-- the call's answer a on the layout l of the record, and the bytes after it
pub hands_out : (r : LayoutRecord) (vs : List Val) → Is (row the_type) r vs → (before after : List ℕ) → length before ≡ 9 * limit → {l : Layout}
    → l ≡ layout_of r → {a : Result ℕ Refusal} → a ≡ answer_to l (saw_bytes l) (length before) → after ≡ left_in_buffer l (saw_bytes l) before
    → Handed r before after (said a)
hands_out r vs g before after len at answers leaves =
    let fits : sound_b (layout_of r) ≡ true → length (saw_bytes (layout_of r)) ≤ length before =
    λ h. omega (arith, len, list-room (layout_of r) (sound-says (layout_of r) (record-sized r vs g) h)) in
    record {
      counted = ap said (rw at at answers) ∙ said-count (layout_of r) (saw_bytes (layout_of r)) before fits;
      written = rw at at leaves ∙ left-whole (layout_of r) (saw_bytes (layout_of r)) before fits;
    }

-- the law of the list, for what is handed out of a sound layout: the simple saw, run on the full sheet by the bytes that are counted, with what the cuts
-- lose beside them (the desk's op 1a), ends with the parts and free pieces of the tree
pub handed-sawn : (r : LayoutRecord) → Sized (layout_of r) → (before after : List ℕ) (count : ℕ) → length before ≡ 9 * limit
    → sound_b (layout_of r) ≡ true → Handed r before after count
    → saw (losing (read_cuts (take count after)) (amount_bytes (layout_of r))) ((layout_of r).settings.sheet ∷ []) ≡ some (boards (tree (layout_of r)))
handed-sawn r sized before after count len sound h =
    let l = layout_of r in
    let s = sound-says l sized sound in
    let room : length (saw_bytes l) ≤ length before = omega (arith, len, list-room l s) in
    rw (h.written, h.counted, sound, take-stored (saw_bytes l) before (length (saw_bytes l)) refl room) (sawn-bytes l s)
