-- The laws of the step: the record and the request decide what comes of them; a refusal leaves the record as it was, whatever it holds; a record with an
-- unlisted kind or cut is refused with 1; the next record stands for the next session. And of the list of saw cuts: the record and the bytes decide it,
-- and there is none of an unlisted record. And of the desk: the same is decided, a question changes nothing, and a refused tidying changes nothing in the
-- record. Rests on `session`'s proofs/Decided, proofs/Kept and proofs/Refused, on what `layout` proves of a tidying, and on Listed.
use mathlib.Core.Path.{◌≡◌, refl, sym, ap, ◌∙◌}
use mathlib.Core.Bool.{Bool, true, false, cond}
use mathlib.Core.List.{List}
use mathlib.Core.Logic.{◌⊎◌, inl, inr}
use mathlib.Core.Option.{some}
use Prim.Native.Nat.{ℕ}
use lib.ListN.{length}
use lib.Seq.{sets}
use Rattle.std.specs.Prelude.{Result, Ok, Err, ⊤}
use Rattle.lists.proofs.Scan.{test, clash}
use Rattle.marks.specs.declared.Refusal.{Refusal}
use Rattle.marks.specs.declared.Refusal.TheVariants.{NotSound}
use Rattle.frames.specs.declared.Ask.{Ask}
use Rattle.frames.specs.declared.Request.{Request}
use Rattle.frames.specs.declared.Request.TheVariants.{OfLayout, Keep, Restore, Malformed}
use Rattle.frames.specs.Answers.{Answer, refused, answer_line, content_of}
use Rattle.frames.specs.Writing.{line_for, LinePut}
use Rattle.layout.specs.declared.layout.Layout.{Layout}
use Rattle.layout.specs.declared.tidy.Tidied.{Tidied}
use Rattle.layout.specs.Check.{sound_b}
use Rattle.layout.specs.Tidy.{TidySays, tidy_no}
use Rattle.layout.proofs.Determined.{tidy-is-one}
use Rattle.layout.proofs.Refusals.{refused-tidy}
use Rattle.layout.proofs.Tidying.{tidy-refused}
use Rattle.session.specs.declared.Session.{Session}
use Rattle.session.specs.Session.{Reply, reply, with_layout, padded_line, kept_by, after_keep, Answers, op_of}
use Rattle.session.specs.Replies.{refusal}
use Rattle.session.proofs.Decided.{answers-once}
use Rattle.session.proofs.Kept.{kept-after}
use Rattle.session.proofs.Refused.{refused-stays, unsound-refused, unsound-kept-refused}
use Rattle.kiosk.specs.declared.records.LayoutRecord.{LayoutRecord}
use Rattle.kiosk.specs.declared.records.SessionRecord.{SessionRecord}
use Rattle.kiosk.specs.Records.{layout_of, session_of, AllListed, all_listed_b}
use Rattle.kiosk.specs.Step.{kept_record, record_after, Answered, record_with_layout}
use Rattle.desk_frames.specs.declared.Question.{Question}
use Rattle.desk_frames.specs.declared.DeskRequest.{DeskRequest}
use Rattle.desk_frames.specs.declared.DeskRequest.TheVariants.{Asks, Tidy}
use Rattle.desk_frames.specs.Answers.{content_for, refused_with, tidy_found, tidy_op}
use Rattle.kiosk.specs.Cuts.{Handed}
use Rattle.kiosk.specs.Desk.{blank, is_refused, record_tidied, DeskAnswered, question, tidying, at-counter}
use Rattle.kiosk.proofs.Listed.{unlisted-unsound, layout-listed, layout-back, sound-stays}

-- ---- decided

-- THE STEP: the record and the request decide the next record, the answer and its count
pub answered-once : {before n m : SessionRecord} {q : Request} {xs ys : List ℕ} {j k : ℕ} → Answered before q n xs j → Answered before q m ys k
    → (n ≡ m) × (xs ≡ ys) × (j ≡ k)
answered-once {before} {q = q} a b =
    let e = answers-once (session_of before) q a.steps.answers b.steps.answers in
    let said : a.steps.answer ≡ b.steps.answer = ap (λ (r : Reply). r.answer) e in (
      a.left ∙ ap (λ (r : Reply). record_after before (refusal r.answer) q r.session.layout) e ∙ sym b.left,
      a.written ∙ a.steps.padded ∙ ap padded_line said ∙ sym b.steps.padded ∙ sym b.written,
      a.counted ∙ a.steps.count ∙ ap (λ (x : Answer). length (answer_line x)) said ∙ sym b.steps.count ∙ sym b.counted,
    )

-- THE LIST: the record and the bytes before decide the bytes afterwards and the count
pub handed-once : {given : LayoutRecord} {before xs ys : List ℕ} {j k : ℕ} → Handed given before xs j → Handed given before ys k
    → (xs ≡ ys) × (j ≡ k)
handed-once a b = (a.written ∙ sym b.written, a.counted ∙ sym b.counted)

-- ---- refused

-- A REFUSAL leaves the record as it was: no hypothesis on what it holds
pub record-stays : {before next : SessionRecord} {q : Request} {answer : List ℕ} {count : ℕ} (a : Answered before q next answer count)
    → refusal a.steps.answer ≡ true → next ≡ before
record-stays {before} {q = q} a refuses =
    a.left ∙ ap (λ (b : Bool). record_after before b q a.stepped.session.layout) refuses

abbrev answer_of : Reply → Answer
answer_of r = r.answer

-- AN UNLISTED kind or cut in the layout's record: what looks at the layout refuses with 1, and the record is as it was
pub unlisted-refused : {before next : SessionRecord} {q : Request} {answer : List ℕ} {count : ℕ} (a : Answered before q next answer count)
    → (op : ℕ) → op_of q ≡ some op → all_listed_b before.layout.nodes ≡ false
    → (a.steps.answer ≡ refused op NotSound) × (next ≡ before)
unlisted-refused {before} {q = q} a op looks unlisted =
    let unsound = unlisted-unsound before.layout unlisted in
    let says = ap answer_of (unsound-refused (session_of before) q op looks unsound a.stepped.session a.steps.answer a.steps.answers) in
    (says, record-stays a (ap refusal says))

-- or in the kept one: restore refuses with 1
pub unlisted-kept-refused : {before next : SessionRecord} {q : Request} {answer : List ℕ} {count : ℕ} (a : Answered before q next answer count)
    → q ≡ Restore → all_listed_b before.kept.nodes ≡ false
    → (a.steps.answer ≡ refused 6 NotSound) × (next ≡ before)
unlisted-kept-refused {before} a restores unlisted =
    let unsound = unlisted-unsound before.kept unlisted in
    let says = ap answer_of (unsound-kept-refused (session_of before) unsound a.stepped.session a.steps.answer (rw restores at a.steps.answers)) in
    (says, record-stays a (ap refusal says))

-- and there is no list of saw cuts: nothing is written
pub unlisted-no-list : {given : LayoutRecord} {before after : List ℕ} {count : ℕ} → Handed given before after count
    → all_listed_b given.nodes ≡ false → (count ≡ 65535) × (after ≡ before)
unlisted-no-list {given} h unlisted =
    let unsound = unlisted-unsound given unlisted in
    (h.counted ∙ rw unsound refl, h.written ∙ rw unsound refl)

-- ---- what the next record stands for

-- what is kept after an accepted call, as a record and as a layout
kept-stands : (r : SessionRecord) (q : Request) (t : Session) (a : Answer) → Answers (session_of r) q t a → refusal a ≡ false
    → layout_of (kept_record r q t.layout) ≡ t.kept
unfolding Answers after_keep
kept-stands r (OfLayout ask) t a h accepts = sym (kept-after (session_of r) (OfLayout ask) t a h)
kept-stands r Keep t a h accepts = layout-back t.layout ∙ go (sound_b (layout_of r.layout)) h
  where
    go : (b : Bool) → reply t a ≡ kept_by (session_of r) b → t.layout ≡ t.kept
    go true e = ap (λ (x : Reply). x.session.layout) e ∙ sym (ap (λ (x : Reply). x.session.kept) e)
    go false e = absurd (clash (sym accepts ∙ ap (λ (x : Reply). refusal x.answer) e))
kept-stands r Restore t a h accepts = sym (kept-after (session_of r) Restore t a h)
kept-stands r Malformed t a h accepts = sym (kept-after (session_of r) Malformed t a h)

kept-listed : (r : SessionRecord) (q : Request) (l : Layout) → AllListed r.kept.nodes → AllListed (kept_record r q l).nodes
kept-listed r (OfLayout ask) l h = h
kept-listed r Keep l h = layout-listed l
kept-listed r Restore l h = h
kept-listed r Malformed l h = h

module _ {before next : SessionRecord} {q : Request} {answer : List ℕ} {count : ℕ} (a : Answered before q next answer count) where
  abbrev t : Session
  t = a.stepped.session

  -- the next record stands for the next session
  pub next-stands : session_of next ≡ t
  next-stands = go (refusal a.steps.answer) refl a.left
    where
      go : (b : Bool) → refusal a.steps.answer ≡ b → next ≡ record_after before b q t.layout → session_of next ≡ t
      go true e left = ap session_of left ∙ sym (refused-stays (session_of before) q a.steps.answer e a.steps.answers)
      go false e left =
          let layout = layout-back t.layout in
          let kept = kept-stands before q t a.steps.answer a.steps.answers e in
          ap session_of left ∙ (λ i. record { layout = layout i; kept = kept i })

  -- what is listed stays so
  pub next-listed : AllListed before.layout.nodes → AllListed before.kept.nodes → AllListed next.layout.nodes × AllListed next.kept.nodes
  next-listed h k = go (refusal a.steps.answer) a.left
    where
      go : (b : Bool) → next ≡ record_after before b q t.layout → AllListed next.layout.nodes × AllListed next.kept.nodes
      go true left = rw left (h, k)
      go false left = rw left (layout-listed t.layout, kept-listed before q t.layout k)

  -- what is asked of the layout and looks at it, and leaves the session as it was, leaves the record so: offers and report, accepted too
  pub looked-stays : (ask : Ask) → q ≡ OfLayout ask → (op : ℕ) → op_of q ≡ some op → t ≡ session_of before → next ≡ before
  looked-stays ask asked op looks same = go (test (sound_b (layout_of before.layout)))
    where
      go : (sound_b (layout_of before.layout) ≡ true) ⊎ (sound_b (layout_of before.layout) ≡ false) → next ≡ before
      go (inl e) =
          a.left ∙ ap (λ (x : Request). record_after before (refusal a.steps.answer) x t.layout) asked
          ∙ rw (same, sound-stays before.layout e) (either (refusal a.steps.answer))
        where
          either : (b : Bool) → cond b before (record { layout = before.layout; kept = before.kept }) ≡ before
          either true = refl
          either false = refl
      go (inr e) =
          record-stays a (ap (λ (r : Reply). refusal r.answer) (unsound-refused (session_of before) q op looks e t a.steps.answer a.steps.answers))

-- ---- the desk

-- THE DESK: the record and the request decide the next record, the answer and its count
pub desk-answered-once : {before n m : SessionRecord} {q : DeskRequest} {xs ys : List ℕ} {j k : ℕ} → DeskAnswered before q n xs j
    → DeskAnswered before q m ys k → (n ≡ m) × (xs ≡ ys) × (j ≡ k)
desk-answered-once (question t) (question u) = (refl, t.line ∙ sym u.line, t.count ∙ sym u.count)
desk-answered-once {before} (tidying d g t) (tidying e h u) =
    let same = tidy-is-one (layout_of before.layout) d e g h in
    let said : content_for tidy_op (tidy_found d.outcome d.count) ≡ content_for tidy_op (tidy_found e.outcome e.count) =
    ap (λ (x : Tidied). content_for tidy_op (tidy_found x.outcome x.count)) same in (
      ap (record_tidied before) same,
      t.line ∙ ap (λ (c : List ℕ). sets blank 0 (line_for c)) said ∙ sym u.line,
      t.count ∙ ap (λ (c : List ℕ). length (line_for c)) said ∙ sym u.count,
    )
desk-answered-once {before} (at-counter {q = q} a t) (at-counter b u) =
    let same = answered-once a b in
    let e = answers-once (session_of before) q a.steps.answers b.steps.answers in
    let said : a.steps.answer ≡ b.steps.answer = ap (λ (r : Reply). r.answer) e in
    (same.0, t.line ∙ ap (λ (x : Answer). sets blank 0 (line_for (content_of x))) said ∙ sym u.line, same.2)

-- a question leaves the record as it was
pub desk-question-stays : {before next : SessionRecord} {q : Question} {answer : List ℕ} {count : ℕ} → DeskAnswered before (Asks q) next answer count
    → next ≡ before
desk-question-stays (question t) = refl

-- A REFUSED TIDYING leaves the record as it was, whatever it holds; the answer is its refusal
pub desk-refused-tidy-stays : {before next : SessionRecord} {answer : List ℕ} {count : ℕ} → DeskAnswered before Tidy next answer count → (e : Refusal)
    → tidy_no (layout_of before.layout) ≡ some e → (next ≡ before) × LinePut blank (content_for tidy_op (refused_with e)) answer count
desk-refused-tidy-stays {before} (tidying d g t) e h =
    let came = refused-tidy (layout_of before.layout) d e h g in (ap (record_tidied before) came, rw came at t)

unsound-no : (l : Layout) → sound_b l ≡ false → tidy_no l ≡ some NotSound
unfolding tidy_no
unsound-no l h = rw h refl

-- a record with an unlisted kind or cut is refused with 1
pub desk-unlisted-tidy : {before next : SessionRecord} {answer : List ℕ} {count : ℕ} → DeskAnswered before Tidy next answer count
    → all_listed_b before.layout.nodes ≡ false → (next ≡ before) × LinePut blank (content_for tidy_op (refused_with NotSound)) answer count
desk-unlisted-tidy {before} a unlisted = desk-refused-tidy-stays a NotSound (unsound-no (layout_of before.layout) (unlisted-unsound before.layout unlisted))

-- TIDIED, the next record stands for the session with the layout that the tidying leaves; the record of what is kept stays
pub desk-tidied-stands : {before next : SessionRecord} {answer : List ℕ} {count : ℕ} → DeskAnswered before Tidy next answer count
    → (d : Tidied) × TidySays (layout_of before.layout) d × (session_of next ≡ with_layout (session_of before) d.layout) × (next.kept ≡ before.kept)
desk-tidied-stands {before} (tidying d g t) = (d, g, stands d.outcome refl, kept (is_refused d.outcome))
  where
    stands : (v : Result ⊤ Refusal) → d.outcome ≡ v
        → session_of (cond (is_refused v) before (record_with_layout before d.layout)) ≡ with_layout (session_of before) d.layout
    stands (Ok tt) e = let back = layout-back d.layout in λ i. record { layout = back i; kept = layout_of before.kept }
    stands (Err r) e =
        let same = ap (λ (x : Tidied). x.layout) (tidy-refused (layout_of before.layout) d g r e).1 in
        λ i. record { layout = sym same i; kept = layout_of before.kept }

    kept : (b : Bool) → (cond b before (record_with_layout before d.layout)).kept ≡ before.kept
    kept true = refl
    kept false = refl

-- what is listed stays so
pub desk-tidied-listed : {before next : SessionRecord} {answer : List ℕ} {count : ℕ} → DeskAnswered before Tidy next answer count
    → AllListed before.layout.nodes → AllListed next.layout.nodes
desk-tidied-listed {before} (tidying d g t) h = go (is_refused d.outcome)
  where
    go : (b : Bool) → AllListed (cond b before (record_with_layout before d.layout)).layout.nodes
    go true = h
    go false = layout-listed d.layout
