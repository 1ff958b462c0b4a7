-- What a question finds is made of bytes: places and levels are below 256, since the limit is 255 and the stages are at most 254, and every number fits
-- its field. So nothing is cut where an answer is written, and its line reads back. Rests on the sound layout, on `session` for the counter's answers,
-- and on `frames` for what is made of bytes.
use mathlib.Core.Path.{◌≡◌, refl, ap}
use mathlib.Core.Bool.{Bool, true, false, cond, ◌&&◌}
use mathlib.Core.List.{List, [], ◌∷◌, ◌++◌}
use Prim.Native.Nat.{ℕ, ◌+◌, ◌^◌, ◌<◌}
use native.Mathlib.Omega.{arith}
use lib.Dec.{T, eqb, ltb}
use lib.Ieee.{binary64, fits}
use lib.Ieee.Bits.{to_bits-lt, of_bits-fits}
use lib.Ieee.Fits.{div-fits}
use lib.ListN.{length, get_or}
use borrow.Author.Tests.{ltb-true}
use Rattle.std.specs.Prelude.{Result, Ok, Err, None, ⊤, Some, None}
use Rattle.piece.specs.declared.orientation.Orientation.{Orientation}
use Rattle.piece.specs.declared.node.Datum.{Datum}
use Rattle.piece.specs.declared.node.Kind.{Kind}
use Rattle.piece.specs.declared.node.Kind.TheVariants.{Free, Part, Structure}
use Rattle.piece.specs.declared.parttype.PartType.{PartType}
use Rattle.piece.specs.declared.settings.Settings.{Settings}
use Rattle.piece.specs.Sides.{other, area}
use Rattle.piece.specs.Row.{nil, grow}
use Rattle.piece.specs.Kinds.{is_part}
use Rattle.piece.specs.Numbers.{kind_no}
use Rattle.piece.proofs.Numbers.{cut_small}
use Rattle.tree.specs.Tree.{Tree, At, count}
use Rattle.tree.specs.Sound.{Domain, Children, Topped}
use Rattle.tree.specs.Snapshot.{two_then, four_then, node_bytes, snapshot}
use Rattle.tree.specs.Figures.{eaten_area, sheet_usage, usage_of, added, nought, tree_usage}
use Rattle.table.specs.declared.Node.{Node}
use Rattle.table.specs.Table.{at}
use Rattle.walks.specs.Along.{numbers_along, below}
use Rattle.marks.specs.declared.Refusal.TheVariants as refusals
use Rattle.marks.specs.Marks.{zero_mark}
use Rattle.layout.specs.declared.layout.Layout.{Layout}
use Rattle.marks.specs.declared.Refusal.{Refusal}
use Rattle.layout.specs.Asked.{part_b}
use Rattle.layout.specs.declared.tidy.Tidied.{Tidied}
use Rattle.layout.specs.Check.{limit, tree, sound_b}
use Rattle.layout.specs.SoundLayout.{SoundLayout, Sized}
use Rattle.layout.specs.Tidy.{TidySays}
use Rattle.layout.proofs.Areas.{used-small}
use Rattle.layout.proofs.Exactly.{sound-says}
use Rattle.layout.proofs.Listed.{piece-low, piece_is}
use Rattle.questions.specs.declared.reason.Reason.{Reason}
use Rattle.questions.specs.declared.why_not.Reasons.{Reasons}
use Rattle.questions.specs.declared.reason.Reason.TheVariants.{Forbidden, TooWide, TooTall, TooWideAndTall, StagesUsedUp, Offered}
use Rattle.questions.specs.Answers.{all_free, eaten_area_of, mark_of, mark_at_position, free_mark_of, removable_mark_of}
use Rattle.questions.specs.Light.{first_offering, light_at, light_of}
use Rattle.questions.specs.Reasons.{reason_no}
use Rattle.questions.specs.WhyNot.{why_call}
use Rattle.questions.specs.Written.{snapshot_bytes, held_numbers}
use Rattle.questions.proofs.Entries.{free-entry, removable-entry}
use Rattle.questions.proofs.Figured.{free-small, each-place}
use Rattle.questions.proofs.EatenSum.{strips-are, strips-small}
use Rattle.questions.proofs.Lent.{numbers-room}
use Rattle.saw.specs.declared.cut.Cut.{Cut}
use Rattle.saw.specs.Cuts.{is_empty, kept_after, without_empty, left_no, cut_off, piles_of, row_cuts, cuts, cut_bytes, bytes_of_cuts, amounts}
use Rattle.saw.specs.Read.{EachOf}
use Rattle.saw.specs.Written.{amount_bytes, saw_bytes}
use Rattle.saw.proofs.Sawn.{cuts-most}
use Rattle.saw.proofs.Told.{each_append}
use Rattle.frames.specs.Bytes.{pairs, chars_of, framed, two}
use Rattle.frames.specs.Ranges.{MarkFits, Each, none, more}
use Rattle.frames.proofs.Laws.{AreBytes, no_bytes, then, join, are-two, are-eight}
use Rattle.frames.proofs.Forms.{are-mark}
use Rattle.frames.proofs.AnswerLaws.{refusal-small, are-each, begun, content-back}
use Rattle.session.specs.declared.Session.{Session}
use Rattle.session.proofs.Fits.{answer-read}
use Rattle.desk_frames.specs.declared.Question.{Question}
use Rattle.desk_frames.specs.declared.Question.TheVariants.{WhyNot, RoomLight, FreePiece, RemovablePiece, PartNumbers, Figures, Snapshot, Cuts, EatenArea, Amounts}
use Rattle.desk_frames.specs.declared.DeskRequest.{DeskRequest}
use Rattle.desk_frames.specs.Answers.{Found, found, refused_with, if_sound, reasons_found, light_found, mark_found, area_found, numbers_bytes, figures_bytes, figures_of, yes_no}
use Rattle.desk_frames.specs.Answers.{snapshot_found, cuts_found, amounts_found, found_in, question_op, tidy_found, tidy_op, content_for}
use Rattle.desk_frames.specs.Ranges.{DeskRequestFits}
use Rattle.desk_frames.specs.Desk.{DeskAnswer, desk_content, DeskAnswers, at-counter, question, tidying}
use Rattle.desk_frames.proofs.Tidying.{tidy-leaves}

-- ---- bytes that are written as they stand

are-two-then : (v : ℕ) {r : List ℕ} → AreBytes r → AreBytes (two_then v r)
are-two-then v e = then (omega arith) (then (omega arith) e)

are-four-then : (v : ℕ) {r : List ℕ} → AreBytes r → AreBytes (four_then v r)
are-four-then v e = then (omega arith) (then (omega arith) (are-two-then v e))

kind-small : (k : Kind) → kind_no k < 256
kind-small Free = omega arith
kind-small Part = omega arith
kind-small Structure = omega arith

reason-small : (r : Reason) → reason_no r < 256
reason-small Forbidden = omega arith
reason-small TooWide = omega arith
reason-small TooTall = omega arith
reason-small TooWideAndTall = omega arith
reason-small StagesUsedUp = omega arith
reason-small Offered = omega arith

-- ---- the snapshot: a level is at most the stages

node-bytes : (d : Datum) (r : List ℕ) → d.level < 256 → d.eaten < 256 → AreBytes r → AreBytes (node_bytes d r)
unfolding node_bytes
node-bytes d r h a e =
    then h
    (then (kind-small d.kind)
    (then (cut_small d.cut) (are-two-then d.number (are-four-then d.size.width (are-four-then d.size.height (then a e))))))

row-bytes : (settings : Settings) (q : Datum) (w : Tree) → Domain settings → Children settings q w → AreBytes (snapshot w)
unfolding snapshot
row-bytes settings q nil m h = no_bytes
row-bytes settings q (grow p d k r) m h =
    node-bytes d (snapshot k ++ snapshot r) (omega (arith, h.child.stage, m.most)) (omega (arith, h.child.eaten, m.blade))
    (join (row-bytes settings d k m h.below) (row-bytes settings q r m h.beside))

tree-bytes : (settings : Settings) (w : Tree) → Domain settings → Topped settings w → AreBytes (snapshot w)
unfolding snapshot
tree-bytes settings nil m h = absurd h
tree-bytes settings (grow p d k r) m h =
    let rest : AreBytes (snapshot r) = rw h.0.alone no_bytes in
    node-bytes d (snapshot k ++ snapshot r) (omega (arith, h.0.level)) (omega (arith, h.0.eaten)) (join (row-bytes settings d k m h.1) rest)

-- ---- the cuts: what is said of the two pieces is a kind, or 3; and what a cut loses is within the blade's width

abbrev Named : Cut → Type 0
Named c = (c.piece < 256) × (c.remainder < 256) × (c.eaten < 256)

left-small : (e : Datum) (r : Tree) → left_no e r < 256
left-small e nil = kind-small e.kind
left-small e (grow p d k r) = omega arith

-- each amount of a row, and below it, is a byte; and so of what is cut of it
abbrev Lossy : Tree → Type 0
Lossy nil = Unit {0}
Lossy (grow p d k r) = (d.eaten < 256) × Lossy k × Lossy r

row-lossy : (settings : Settings) (q : Datum) (w : Tree) → Domain settings → Children settings q w → Lossy w
row-lossy settings q nil m h = tt
row-lossy settings q (grow p d k r) m h =
    (omega (arith, h.child.eaten, m.blade), row-lossy settings d k m h.below, row-lossy settings q r m h.beside)

kept-lossy : (eaten : ℕ) (w : Tree) → Lossy w → Lossy (kept_after eaten w)
kept-lossy eaten nil h = tt
kept-lossy eaten (grow p d k r) h =
    go (is_empty d && eqb eaten 0) (kept-lossy 0 r h.2) (h.0, kept-lossy 0 k h.1, kept-lossy d.eaten r h.2)
  where
    go : (b : Bool) → Lossy (kept_after 0 r) → Lossy (grow p d (kept_after 0 k) (kept_after d.eaten r))
        → Lossy (cond b (kept_after 0 r) (grow p d (kept_after 0 k) (kept_after d.eaten r)))
    go true a b = a
    go false a b = b

off-named : (way : Orientation) (i : ℕ) (d : Datum) (r : Tree) → d.eaten < 256 → EachOf Named (cut_off way i d r)
off-named way i d nil h = tt
off-named way i d (grow p e k r) h = ((kind-small d.kind, left-small e r, h), tt)

row_named : (way : Orientation) (i : ℕ) (w : Tree) → Lossy w → EachOf Named (row_cuts way i w)
unfolding row_cuts
row_named way i nil h = tt
row_named way i (grow p d k r) h =
    let below = row_cuts (other way) i k in
    let j = i + piles_of d k in
    each_append Named (cut_off way i d r) (below ++ row_cuts way j r) (off-named way i d r h.0)
    (each_append Named below (row_cuts way j r) (row_named (other way) i k h.1) (row_named way j r h.2))

cuts-named : (settings : Settings) (w : Tree) → Domain settings → Topped settings w → EachOf Named (cuts w)
cuts-named settings nil m h = tt
cuts-named settings (grow p d k r) m h = row_named d.cut 0 (without_empty k) (kept-lossy 0 k (row-lossy settings d k m h.1))

cuts-bytes : (cs : List Cut) → EachOf Named cs → AreBytes (bytes_of_cuts cs)
unfolding bytes_of_cuts cut_bytes
cuts-bytes [] h = no_bytes
cuts-bytes (c ∷ cs) h =
    are-two-then c.place
    (then (cut_small c.way) (are-four-then c.distance (then h.0.0 (then h.0.1 (cuts-bytes cs h.1)))))

amounts-bytes : (cs : List Cut) → EachOf Named cs → AreBytes (amounts cs)
amounts-bytes [] h = no_bytes
amounts-bytes (c ∷ cs) h = then h.0.2 (amounts-bytes cs h.1)

-- ---- the part numbers: a place of a sound layout's table has a number of two bytes

place-number : (l : Layout) → SoundLayout l → (i : ℕ) → (at l.nodes i).datum.number < 2 ^ 16
place-number l s = each-place l s (λ d. d.number < 2 ^ 16) (omega arith) (λ k d w. omega (arith, w.number))

numbers-small : (t : List Node) → ((i : ℕ) → (at t i).datum.number < 2 ^ 16) → (order : List ℕ) → Each (λ n. n < 2 ^ 16) (numbers_along t order)
numbers-small t h [] = none
numbers-small t h (p ∷ order) = go (is_part (at t p).datum.kind) (numbers-small t h order)
  where
    go : (b : Bool) → Each (λ n. n < 2 ^ 16) (numbers_along t order)
        → Each (λ n. n < 2 ^ 16) (cond b ((at t p).datum.number ∷ []) [] ++ numbers_along t order)
    go true e = more (h p) e
    go false e = e

-- ---- the usages: every f64 has bits below 2^64

usage-fits : (κ : Kind) (a : ℕ) (k : Tree) → T (fits binary64 (usage_of κ a (added nought k)))
usage-fits Free a k = of_bits-fits binary64 _
usage-fits Part a k = of_bits-fits binary64 _
usage-fits Structure a k = div-fits binary64 _ _

tree-fits : (w : Tree) → T (fits binary64 (tree_usage w))
tree-fits nil = of_bits-fits binary64 _
tree-fits (grow p d k r) = usage-fits d.kind (area d.size) k

sheet-fits : (used sheet : ℕ) → T (fits binary64 (sheet_usage used sheet))
unfolding sheet_usage
sheet-fits used sheet = div-fits binary64 _ _

yes-small : (b : Bool) → yes_no b < 256
yes-small true = omega arith
yes-small false = omega arith

-- ---- what each question finds

-- the bytes that are found, where some are
abbrev BytesIn : Found → Type 0
BytesIn (found bs) = AreBytes bs
BytesIn (refused_with e) = Unit {0}

content-bytes : (op : ℕ) (f : Found) → op < 256 → BytesIn f → AreBytes (content_for op f)
content-bytes op (found bs) h e = begun h (omega arith) e
content-bytes op (refused_with r) h e = begun h (refusal-small r) no_bytes

why-bytes : (v : Result Reasons Refusal) → BytesIn (reasons_found v)
why-bytes (Ok w) = then (reason-small w.default) (then (reason-small w.rotated) no_bytes)
why-bytes (Err r) = tt

question-small : (q : Question) → question_op q < 256
question-small (WhyNot mark part) = omega arith
question-small (RoomLight part) = omega arith
question-small (FreePiece position) = omega arith
question-small (RemovablePiece position) = omega arith
question-small PartNumbers = omega arith
question-small Figures = omega arith
question-small Snapshot = omega arith
question-small Cuts = omega arith
question-small EatenArea = omega arith
question-small Amounts = omega arith

-- at a layout that is as its type says
module _ (l : Layout) (sized : Sized l) (number : l.number < 2 ^ 16) where
  sound-bytes : (bs : List ℕ) → (SoundLayout l → AreBytes bs) → BytesIn (if_sound l bs)
  sound-bytes bs f = go (sound_b l) refl
    where
      go : (b : Bool) → sound_b l ≡ b → BytesIn (cond b (found bs) (refused_with refusals.NotSound))
      go true ok = f (sound-says l sized ok)
      go false ok = tt

  -- the mark of a piece
  mark-fits : SoundLayout l → (p : ℕ) (d : Datum) → At p d (tree l) → MarkFits (mark_of l p)
  mark-fits s p d h =
      let same = ap (λ (x : Datum). x.serial) (piece_is l.nodes (tree l) s.holds p d h) in
      record {
        layout = number;
        place = omega (arith, piece-low l.nodes (tree l) s.holds p d h);
        serial = omega (arith, same, s.serials.most p d h, s.serials.spent);
      }

  free_bytes : sound_b l ≡ true → (k : ℕ) → k < l.frees → MarkFits (mark_of l (get_or l.free k 0))
  free_bytes ok k h = let s = sound-says l sized ok in let e = free-entry l sized s k h in mark-fits s _ e.0 e.1

  removable-bytes : sound_b l ≡ true → (k : ℕ) → k < l.removables → MarkFits (mark_of l (get_or l.removable k 0))
  removable-bytes ok k h = let s = sound-says l sized ok in let e = removable-entry l sized s k h in mark-fits s _ e.0 e.1

  light-bytes : (part : PartType) → BytesIn (light_found (light_of l part))
  unfolding light_of
  light-bytes part = go (sound_b l) refl (part_b part)
    where
      named : sound_b l ≡ true → (k : ℕ) (b : Bool) → ltb k l.frees ≡ b
          → BytesIn (light_found (cond b (Ok (Some (mark_of l (get_or l.free k 0)))) (Ok None)))
      named ok k true e = then (omega arith) (are-mark (mark_of l (get_or l.free k 0)) (free_bytes ok k (ltb-true k l.frees e)))
      named ok k false e = then (omega arith) (are-mark zero_mark (record { layout = omega arith; place = omega arith; serial = omega arith }))

      go : (b : Bool) → sound_b l ≡ b → (c : Bool)
          → BytesIn (light_found (cond b (cond c (light_at l (first_offering l part)) (Err refusals.PartOutside)) (Err refusals.NotSound)))
      go true ok true = named ok (first_offering l part) (ltb (first_offering l part) l.frees) refl
      go true ok false = tt
      go false ok c = tt

  mark-bytes : (list : List ℕ) (n k : ℕ) → (sound_b l ≡ true → k < n → MarkFits (mark_of l (get_or list k 0))) → BytesIn (mark_found (mark_at_position l list n k))
  mark-bytes list n k f = go (sound_b l) refl (ltb k n) refl
    where
      go : (b : Bool) → sound_b l ≡ b → (c : Bool) → ltb k n ≡ c
          → BytesIn (mark_found (cond b (cond c (Ok (mark_of l (get_or list k 0))) (Err refusals.PastTheEnd)) (Err refusals.NotSound)))
      go true ok true h = are-mark (mark_of l (get_or list k 0)) (f ok (ltb-true k n h))
      go true ok false h = tt
      go false ok c h = tt

  figures-bytes : SoundLayout l → AreBytes (figures_bytes (figures_of l))
  figures-bytes s =
      let small = used-small l s in
      join (are-eight (figures_of l).used (omega (arith, s.used)))
      (join (are-eight (figures_of l).free (omega (arith, free-small l s)))
      (join (are-two (figures_of l).nodes (omega (arith, s.sound.room)))
      (then (yes-small (all_free (tree l)))
      (join (are-eight (figures_of l).sheet (to_bits-lt binary64 _ (sheet-fits _ _))) (are-eight (figures_of l).tree (to_bits-lt binary64 _ (tree-fits (tree l))))))))

  numbers-bytes : SoundLayout l → AreBytes (numbers_bytes (held_numbers l))
  unfolding held_numbers
  numbers-bytes s =
      join (are-two (length (held_numbers l)) (omega (arith, numbers-room l s)))
      (are-each two are-two (numbers-small l.nodes (place-number l s) (below limit)))

  snapshot-bytes : SoundLayout l → AreBytes (snapshot_found l)
  unfolding snapshot_bytes
  snapshot-bytes s =
      join (are-two (count (tree l)) (omega (arith, s.sound.room))) (tree-bytes l.settings (tree l) s.sound.domain s.sound.topped)

  cuts-found : SoundLayout l → AreBytes (cuts_found l)
  unfolding saw_bytes
  cuts-found s =
      join (are-two (length (cuts (tree l))) (omega (arith, cuts-most (tree l) s.sound, s.sound.room)))
      (cuts-bytes (cuts (tree l)) (cuts-named l.settings (tree l) s.sound.domain s.sound.topped))

  amounts-found : SoundLayout l → AreBytes (amounts_found l)
  unfolding amount_bytes
  amounts-found s =
      join (are-two (length (cuts (tree l))) (omega (arith, cuts-most (tree l) s.sound, s.sound.room)))
      (amounts-bytes (cuts (tree l)) (cuts-named l.settings (tree l) s.sound.domain s.sound.topped))

  eaten-bytes : BytesIn (area_found (eaten_area_of l))
  unfolding eaten_area_of
  eaten-bytes = go (sound_b l) refl
    where
      go : (b : Bool) → sound_b l ≡ b → BytesIn (area_found (cond b (Ok (eaten_area (tree l))) (Err refusals.NotSound)))
      go true ok = let s = sound-says l sized ok in are-eight (eaten_area (tree l)) (omega (arith, strips-are l s, strips-small l s))
      go false ok = tt

  found-bytes : (q : Question) → BytesIn (found_in l q)
  unfolding found_in free_mark_of removable_mark_of
  found-bytes (WhyNot mark part) = why-bytes (why_call l mark part)
  found-bytes (RoomLight part) = light-bytes part
  found-bytes (FreePiece k) = mark-bytes l.free l.frees k (λ ok h. free_bytes ok k h)
  found-bytes (RemovablePiece k) = mark-bytes l.removable l.removables k (λ ok h. removable-bytes ok k h)
  found-bytes PartNumbers = sound-bytes (numbers_bytes (held_numbers l)) numbers-bytes
  found-bytes Figures = sound-bytes (figures_bytes (figures_of l)) figures-bytes
  found-bytes Snapshot = sound-bytes (snapshot_found l) snapshot-bytes
  found-bytes Cuts = sound-bytes (cuts_found l) cuts-found
  found-bytes EatenArea = eaten-bytes
  found-bytes Amounts = sound-bytes (amounts_found l) amounts-found

  -- THE LAW: the answer to every question is made of bytes, so that its line reads back
  pub question-fits : (q : Question) → AreBytes (content_for (question_op q) (found_in l q))
  question-fits q = content-bytes (question_op q) (found_in l q) (question-small q) (found-bytes q)

  pub question-back : (q : Question) → pairs (chars_of (framed (content_for (question_op q) (found_in l q)))) ≡ framed (content_for (question_op q) (found_in l q))
  question-back q = content-back (question-fits q)

  -- and so is that of a tidying: there are fewer structures than places
  tidy-bytes : (v : Result ⊤ Refusal) (k : ℕ) → k < 2 ^ 16 → BytesIn (tidy_found v k)
  tidy-bytes (Ok tt) k h = are-two k h
  tidy-bytes (Err e) k h = tt

  pub tidy-back : (d : Tidied) → TidySays l d
      → pairs (chars_of (framed (content_for tidy_op (tidy_found d.outcome d.count)))) ≡ framed (content_for tidy_op (tidy_found d.outcome d.count))
  tidy-back d t =
      content-back
      (content-bytes tidy_op (tidy_found d.outcome d.count) (omega arith) (tidy-bytes d.outcome d.count (tidy-leaves l d sized t).count))

-- and so does that of every answer of the desk, the counter's among them
pub desk-back : (s : Session) → Sized s.layout → s.layout.number < 2 ^ 16 → {q : DeskRequest} {t : Session} {a : DeskAnswer} → DeskRequestFits q
    → DeskAnswers s q t a → pairs (chars_of (framed (desk_content a))) ≡ framed (desk_content a)
desk-back s sized number f (at-counter {t = t} {q = q} {a = a} h) = answer-read s sized number q t a f h
desk-back s sized number f (question {q = q}) = question-back s.layout sized number q
desk-back s sized number f (tidying d h) = tidy-back s.layout sized number d h
