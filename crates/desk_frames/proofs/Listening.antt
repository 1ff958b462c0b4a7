-- From an answered line, or none, to what a turn of the desk's listener says. Rests on specs/Listener, and on the lines of a step as `session` has them.
use mathlib.Core.Path.{◌≡◌, refl, sym, ap, ◌∙◌}
use mathlib.Core.Bool.{Bool, true, false}
use mathlib.Core.List.{List, [], ◌∷◌, append-nil}
use Prim.Native.Nat.{ℕ}
use lib.ListN.{length, take}
use lib.Seq.{sets}
use Rattle.lines.specs.declared.stream.Pending.{Pending}
use Rattle.lines.specs.declared.stream.Event.TheVariants.{Whole, Long, More}
use Rattle.lines.specs.declared.stream.Taken.{Taken}
use Rattle.lines.specs.Text.{Line, whole, long, cut}
use Rattle.lines.specs.Stream.{empty, take_of, unfinished, Fed, still, onward, fed_with}
use Rattle.frames.specs.Answers.{each}
use Rattle.frames.specs.Writing.{line_for}
use Rattle.session.specs.declared.listener.Listener.{Listener}
use Rattle.session.specs.Listener.{none, more}
use Rattle.session.proofs.Listening.{event-is, last-cut, last-clean}
use Rattle.desk_frames.specs.declared.DeskStepped.{DeskStepped}
use Rattle.desk_frames.specs.Requests.{malformed_line, desk_request_of}
use Rattle.desk_frames.specs.Desk.{DeskAnswer, desk_content, DeskSteps}
use Rattle.desk_frames.specs.Listener.{desk_asked_in, desk_text_of, DeskTurned, DeskTakes, DeskEnds}
use Rattle.desk_frames.specs.Inner.{desk_spoken, desk_silent}

text-one : (a : DeskAnswer) → desk_text_of (a ∷ []) ≡ line_for (desk_content a)
unfolding each
text-one a = append-nil (line_for (desk_content a))

module _ (d : Listener) {f : Fed} (n : ℕ) {before : List ℕ} where
  -- one line, and its answer
  one_answer : (line : Line) {q : DeskStepped} {after : List ℕ} → f ≡ onward line (still empty)
      → DeskSteps d.session (desk_asked_in line) before after q → DeskTurned d f before after (desk_spoken q n)
  one_answer line e s =
      let t = text-one s.answer in
      rw e
      (record {
        answers = s.answer ∷ [];
        runs = more s.answers none;
        pending = refl;
        count = s.put.count ∙ ap length (sym t);
        written = s.put.line ∙ ap (sets before 0) (sym t);
      })

  -- no line
  no_answer : (p : Pending) → f ≡ still p → DeskTurned d f before before (desk_silent (record { session = d.session; pending = p }) n)
  unfolding each
  no_answer p e = rw e (record { answers = []; runs = none; pending = refl; count = refl; written = refl })

module _ (d : Listener) (chunk : List ℕ) (at : ℕ) {t : Taken} (e : t ≡ take_of d.pending chunk at) {before : List ℕ} where
  -- the three ways out of a turn
  pub takes_whole : {q : DeskStepped} {after : List ℕ} → t.event ≡ Whole
      → DeskSteps d.session (desk_request_of (take t.pending.count t.pending.bytes)) before after q
      → DeskTakes d chunk at before after (desk_spoken q t.next)
  unfolding fed_with
  takes_whole h s =
      record {
        next = ap (λ (x : Taken). x.next) e;
        turned = one_answer d t.next (whole (take t.pending.count t.pending.bytes)) (event-is d.pending chunk at e h) s;
      }

  pub takes-long : {q : DeskStepped} {after : List ℕ} → t.event ≡ Long → DeskSteps d.session malformed_line before after q
      → DeskTakes d chunk at before after (desk_spoken q t.next)
  unfolding fed_with
  takes-long h s =
      record { next = ap (λ (x : Taken). x.next) e; turned = one_answer d t.next long (event-is d.pending chunk at e h) s }

  pub takes-more : t.event ≡ More → DeskTakes d chunk at before before (desk_silent (record { session = d.session; pending = t.pending }) t.next)
  unfolding fed_with
  takes-more h =
      record { next = ap (λ (x : Taken). x.next) e; turned = no_answer d t.next t.pending (event-is d.pending chunk at e h) }

-- the two ways out at the end of the input, where b says whether a last line lacks its newline
module _ (d : Listener) {b : Bool} (e : b ≡ unfinished d.pending) {before : List ℕ} where
  pub ends-cut : {q : DeskStepped} {after : List ℕ} → b ≡ true → DeskSteps d.session malformed_line before after q
      → DeskEnds d before after (desk_spoken q 0)
  ends-cut h s = record { next = refl; turned = one_answer d 0 cut (last-cut d.pending e h) s }

  pub ends-clean : b ≡ false → DeskEnds d before before (desk_silent (record { session = d.session; pending = empty }) 0)
  ends-clean h = record { next = refl; turned = no_answer d 0 empty (last-clean d.pending e h) }
