-- Demand 1 at the desk: a run of lines is a life, and every mark that an answer of the desk has written, the light's and those of the two lists among them,
-- names its piece, or is refused with 5, or, once another layout was opened, with 4. A run at the desk is a run of ways (Counter): a question changes
-- nothing, a tidying goes by its call's contract, and neither opens a sheet. Rests on Counter, and on what a list and the light give (MarksGiven, questions'
-- proofs/LightExactly). Assumes nothing.
use mathlib.Core.Path.{◌≡◌, refl, sym, ap, ◌∙◌}
use mathlib.Core.Bool.{true, false}
use mathlib.Core.List.Memᴰ
use mathlib.Core.List.{List, [], ◌∷◌, ◌++◌, append_assoc, Memᴰ}
use mathlib.Core.Logic.{◌⊎◌, inl, inr}
use Prim.Native.Nat.{ℕ}
use Rattle.std.specs.Prelude.{Result, Ok, Err, Some, None, Option}
use Rattle.piece.specs.declared.parttype.PartType.{PartType}
use Rattle.lists.proofs.Scan.{test, clash}
use Rattle.marks.specs.declared.Mark.{Mark}
use Rattle.layout.specs.declared.layout.Layout.{Layout}
use Rattle.layout.specs.Check.{sound_b}
use Rattle.layout.specs.Asked.{part_b}
use Rattle.layout.specs.SoundLayout.{SoundLayout, Sized}
use Rattle.layout.proofs.Exactly.{sound-says}
use Rattle.marks.specs.declared.Refusal.{Refusal}
use Rattle.questions.specs.Answers.{free_mark_of, removable_mark_of}
use Rattle.questions.specs.Light.{light_of}
use Rattle.questions.proofs.LightExactly.{named-exactly}
use Rattle.lines.specs.Text.{Line}
use Rattle.frames.specs.Answers.{Answer, done}
use Rattle.session.specs.declared.Session.{Session}
use Rattle.session.specs.Session.{started}
use Rattle.session.specs.Listener.{none, more}
use Rattle.desk_frames.specs.declared.Question.{Question}
use Rattle.desk_frames.specs.declared.Question.TheVariants.{WhyNot, RoomLight, FreePiece, RemovablePiece, PartNumbers, Figures, Snapshot, Cuts, EatenArea, Amounts}
use Rattle.desk_frames.specs.declared.DeskRequest.{DeskRequest}
use Rattle.desk_frames.specs.Desk.{DeskAnswer, counters, told, DeskAnswers, at-counter, question, tidying}
use Rattle.desk_frames.specs.Listener.{DeskRuns, counter_answers}
use Rattle.demands.specs.Life.{Given, by_free_list, by_removable_list}
use Rattle.demands.specs.Counter.{opens, openings, OpenedOnce, Lives, Lasts, names, gone, elsewhere}
use Rattle.demands.specs.Desk.{mark_lit, mark_listed, marks_told, WritesMark}
use Rattle.demands.specs.Desk as writes
use Rattle.demands.proofs.Examined.{examined-first}
use Rattle.demands.proofs.MarksGiven.{named}
use Rattle.demands.proofs.CounterWays.{Way, way, by_tidying, by_none, started-shaped}
use Rattle.demands.proofs.Counter.{Ways, stays, goes, shaped-run, ways-are-a-life, a-written-mark-lasts, a-named-mark-lasts}

-- ---- the marks of questions

listed : {A : Type 0} (x : Result Mark Refusal) (k : Mark) → ((m : Mark) → x ≡ Ok m → k ≡ m → A) → Memᴰ k (mark_listed x) → A
listed (Ok m) k f h = f m refl (Memᴰ.eq_of_singleton h)
listed (Err e) k f h = absurd (Memᴰ.not-nil h)

lit : {A : Type 0} (x : Result (Option Mark) Refusal) (k : Mark) → ((m : Mark) → x ≡ Ok (Some m) → k ≡ m → A) → Memᴰ k (mark_lit x) → A
lit (Ok (Some m)) k f h = f m refl (Memᴰ.eq_of_singleton h)
lit (Ok None) k f h = absurd (Memᴰ.not-nil h)
lit (Err e) k f h = absurd (Memᴰ.not-nil h)

-- a part outside the domain is refused
part-ok : (l : Layout) (p : PartType) (m : Mark) → sound_b l ≡ true → light_of l p ≡ Ok (Some m) → part_b p ≡ true
unfolding light_of
part-ok l p m sound e = go (test (part_b p))
  where
    go : (part_b p ≡ true) ⊎ (part_b p ≡ false) → part_b p ≡ true
    go (inl t) = t
    go (inr f) = let g = rw (sound, f) at e in absurd (clash (cc))

-- what a question writes is given by a list of the layout
question-gives : (l : Layout) → Sized l → SoundLayout l → sound_b l ≡ true → (q : Question) (k : Mark) → Memᴰ k (marks_told l q) → Given l k
question-gives l sized s sound (WhyNot mark part) k h = absurd (Memᴰ.not-nil h)
question-gives l sized s sound (RoomLight p) k h =
    lit (light_of l p) k
    (λ m e same. let f = (named-exactly l sized s p (part-ok l p m sound e) m).0 e in rw same (by_free_list l f.position m f.listed)) h
question-gives l sized s sound (FreePiece i) k h = listed (free_mark_of l i) k (λ m e same. rw same (by_free_list l i m e)) h
question-gives l sized s sound (RemovablePiece i) k h = listed (removable_mark_of l i) k (λ m e same. rw same (by_removable_list l i m e)) h
question-gives l sized s sound PartNumbers k h = absurd (Memᴰ.not-nil h)
question-gives l sized s sound Figures k h = absurd (Memᴰ.not-nil h)
question-gives l sized s sound Snapshot k h = absurd (Memᴰ.not-nil h)
question-gives l sized s sound Cuts k h = absurd (Memᴰ.not-nil h)
question-gives l sized s sound EatenArea k h = absurd (Memᴰ.not-nil h)
question-gives l sized s sound Amounts k h = absurd (Memᴰ.not-nil h)

-- and of a layout that isn't sound nothing is written
unsound-writes-none : (l : Layout) → sound_b l ≡ false → (q : Question) → marks_told l q ≡ []
unsound-writes-none l e (WhyNot mark part) = refl
unsound-writes-none l e (RoomLight p) = ap mark_lit ((examined-first l e).room_light p)
unsound-writes-none l e (FreePiece i) = ap mark_listed ((examined-first l e).free_mark i)
unsound-writes-none l e (RemovablePiece i) = ap mark_listed ((examined-first l e).removable_mark i)
unsound-writes-none l e PartNumbers = refl
unsound-writes-none l e Figures = refl
unsound-writes-none l e Snapshot = refl
unsound-writes-none l e Cuts = refl
unsound-writes-none l e EatenArea = refl
unsound-writes-none l e Amounts = refl

question-sound : (l : Layout) (q : Question) (k : Mark) → Memᴰ k (marks_told l q) → sound_b l ≡ true
question-sound l q k h = go (test (sound_b l))
  where
    go : (sound_b l ≡ true) ⊎ (sound_b l ≡ false) → sound_b l ≡ true
    go (inl t) = t
    go (inr f) = absurd (Memᴰ.not-nil (rw (unsound-writes-none l f q) at h))

-- ---- a run at the desk is a run of ways

-- what the desk tells counts here as an answer that opens nothing and writes no mark: the marks of questions are looked at above
abbrev as_counter : DeskAnswer → Answer
as_counter (counters a) = a
as_counter (told op f) = done op

abbrev as_counters : List DeskAnswer → List Answer
as_counters [] = []
as_counters (x ∷ xs) = as_counter x ∷ as_counters xs

desk-way : {s t : Session} {q : DeskRequest} {a : DeskAnswer} → DeskAnswers s q t a → Way s t (as_counter a)
desk-way (at-counter {s} {t} {q} {a} g) = way s q t a g
desk-way question = by_none refl (record { marks = refl; number = refl })
desk-way (tidying d says) = by_tidying d says refl (record { marks = refl; number = refl })

desk-ways : {s t : Session} {lines : List Line} {xs : List DeskAnswer} → DeskRuns s lines xs t → Ways s (as_counters xs) t
desk-ways none = stays
desk-ways (more answer run) = goes (desk-way answer) (desk-ways run)

-- with the same openings
same-openings : (xs : List DeskAnswer) → openings (counter_answers xs) ≡ openings (as_counters xs)
unfolding counter_answers
same-openings [] = refl
same-openings (counters a ∷ xs) = ap (λ (ns : List ℕ). opens a ++ ns) (same-openings xs)
same-openings (told op f ∷ xs) = same-openings xs

both-openings : (xs ys : List DeskAnswer) → openings (counter_answers (xs ++ ys)) ≡ openings (as_counters xs) ++ openings (as_counters ys)
unfolding counter_answers
both-openings [] ys = same-openings ys
both-openings (counters a ∷ xs) ys =
    ap (λ (ns : List ℕ). opens a ++ ns) (both-openings xs ys) ∙ sym (append_assoc (opens a) (openings (as_counters xs)) (openings (as_counters ys)))
both-openings (told op f ∷ xs) ys = both-openings xs ys

lasts-so : {u v : Session} (ys : List DeskAnswer) {k : Mark} → Lasts u (as_counters ys) v k → Lasts u (counter_answers ys) v k
lasts-so ys (names n p) = names n p
lasts-so ys (gone r) = gone r
lasts-so ys (elsewhere o r) = elsewhere (λ e. o (sym (same-openings ys) ∙ e)) r

-- ---- THE LAWS

-- A RUN at the desk from the start IS A LIFE of the layout that stands, if its number was opened once (and else no opening was accepted)
pub a-desk-run-is-a-life : {t : Session} {lines : List Line} {xs : List DeskAnswer} → DeskRuns started lines xs t
    → OpenedOnce t.layout.number (openings (counter_answers xs)) → (openings (counter_answers xs) ≡ []) ⊎ ((earlier : List Layout) × Lives t earlier)
a-desk-run-is-a-life {xs = xs} run once = rw (same-openings xs) (ways-are-a-life (desk-ways run) (rw (same-openings xs) at once))

-- EVERY MARK that an answer of the desk has written, in any run from its start, lasts, if its number was opened once
pub marks-last-at-the-desk : {t u v : Session} {before after : List Line} {xs ys : List DeskAnswer} → DeskRuns started before xs t
    → (q : DeskRequest) (a : DeskAnswer) → DeskAnswers t q u a → DeskRuns u after ys v
    → (k : Mark) → WritesMark k t q a → OpenedOnce k.layout (openings (counter_answers (xs ++ (a ∷ ys)))) → Lasts u (counter_answers ys) v k
marks-last-at-the-desk {xs = xs} {ys = ys} first q a (at-counter {s} {t} {q = r} {a = b} g) run k (writes.at_counter h) once =
    lasts-so ys (a-written-mark-lasts (desk-ways first) b (way s r t b g) (desk-ways run) k h (rw (both-openings xs (a ∷ ys)) at once))
marks-last-at-the-desk {t} {xs = xs} {ys = ys} first q a (question {q = r}) run k (writes.told h) once =
    let there = desk-ways first in
    let sized = (shaped-run started-shaped there).layout in
    let sound = question-sound t.layout r k h in
    let s = sound-says t.layout sized sound in
    lasts-so ys
    (a-named-mark-lasts there (desk-ways run) k sound (named sized s (question-gives t.layout sized s sound r k h)) (rw (both-openings xs (a ∷ ys)) at once))
marks-last-at-the-desk {t = t} {v = v} {before = before} {after = after} {xs = xs} {ys = ys} first _ _ (tidying d _) run k x once = elim x [ ]
