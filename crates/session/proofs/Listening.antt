-- From an answered line, or none, to what a turn of the listener says. Rests on specs/Listener.
use mathlib.Core.Path.{◌≡◌, refl, sym, ap, ◌∙◌}
use mathlib.Core.Bool.{Bool, true, false}
use mathlib.Core.List.{List, [], ◌∷◌, append-nil}
use Prim.Native.Nat.{ℕ}
use lib.ListN.{length, take, replicate}
use lib.Seq.{sets}
use Rattle.lines.specs.declared.stream.Pending.{Pending}
use Rattle.lines.specs.declared.stream.Event.{Event}
use Rattle.lines.specs.declared.stream.Event.TheVariants.{Whole, Long, More}
use Rattle.lines.specs.declared.stream.Taken.{Taken}
use Rattle.lines.specs.Text.{Line, whole, long, cut}
use Rattle.lines.specs.Stream.{empty, take_of, unfinished, Fed, still, onward, fed_with, ended}
use Rattle.frames.specs.declared.Request.TheVariants.{Malformed}
use Rattle.frames.specs.Requests.{request_of}
use Rattle.frames.specs.Answers.{Answer, each, answer_line}
use Rattle.session.specs.declared.Stepped.{Stepped}
use Rattle.session.specs.declared.listener.Listener.{Listener}
use Rattle.session.specs.Session.{longest, Steps}
use Rattle.session.specs.Listener.{asked_in, none, more, text_of, spoken, silent, Turned, one_step, last_step, Takes, Ends}

text-one : (a : Answer) → text_of (a ∷ []) ≡ answer_line a
unfolding each
text-one a = append-nil (answer_line a)

module _ (d : Listener) {f : Fed} (n : ℕ) where
  -- one line, and its answer
  one_answer : (line : Line) {q : Stepped} → f ≡ onward line (still empty) → Steps d.session (asked_in line) q → Turned d f (spoken q n)
  one_answer line {q} e s =
      let t = text-one s.answer in
      rw e
      (record {
        answers = s.answer ∷ [];
        runs = more s.answers none;
        pending = refl;
        count = s.count ∙ ap length (sym t);
        written = s.written ∙ sym t;
        padded = s.padded ∙ ap (sets (replicate longest 0) 0) (sym t);
      })

  -- no line
  no_answer : (p : Pending) → f ≡ still p → Turned d f (silent (record { session = d.session; pending = p }) n)
  unfolding each
  no_answer p e = rw e (record { answers = []; runs = none; pending = refl; count = refl; written = refl; padded = refl })

-- the lines of one step, by its event; and those at the end of the input, where b says whether a last line lacks its newline
pub event-is : (p : Pending) (chunk : List ℕ) (at : ℕ) {t : Taken} {v : Event} → t ≡ take_of p chunk at → t.event ≡ v
    → one_step p chunk at ≡ fed_with v t.pending (still empty)
event-is p chunk at {t} {v} e h =
    ap (λ (x : Taken). fed_with x.event x.pending (still empty)) (sym e) ∙ ap (λ (v : Event). fed_with v t.pending (still empty)) h

pub last-cut : (p : Pending) {b : Bool} → b ≡ unfinished p → b ≡ true → last_step p ≡ onward cut (still empty)
unfolding ended
last-cut p e h = rw (sym e ∙ h) refl

pub last-clean : (p : Pending) {b : Bool} → b ≡ unfinished p → b ≡ false → last_step p ≡ still empty
unfolding ended
last-clean p e h = rw (sym e ∙ h) refl

module _ (d : Listener) (chunk : List ℕ) (at : ℕ) {t : Taken} (e : t ≡ take_of d.pending chunk at) where
  -- the three ways out of a turn
  pub takes_whole : {q : Stepped} → t.event ≡ Whole → Steps d.session (request_of (take t.pending.count t.pending.bytes)) q
      → Takes d chunk at (spoken q t.next)
  unfolding fed_with
  takes_whole h s =
      record {
        next = ap (λ (x : Taken). x.next) e;
        turned = one_answer d t.next (whole (take t.pending.count t.pending.bytes)) (event-is d.pending chunk at e h) s;
      }

  pub takes-long : {q : Stepped} → t.event ≡ Long → Steps d.session Malformed q → Takes d chunk at (spoken q t.next)
  unfolding fed_with
  takes-long h s = record { next = ap (λ (x : Taken). x.next) e; turned = one_answer d t.next long (event-is d.pending chunk at e h) s }

  pub takes-more : t.event ≡ More → Takes d chunk at (silent (record { session = d.session; pending = t.pending }) t.next)
  unfolding fed_with
  takes-more h = record { next = ap (λ (x : Taken). x.next) e; turned = no_answer d t.next t.pending (event-is d.pending chunk at e h) }

-- the two ways out at the end of the input
module _ (d : Listener) {b : Bool} (e : b ≡ unfinished d.pending) where
  pub ends-cut : {q : Stepped} → b ≡ true → Steps d.session Malformed q → Ends d (spoken q 0)
  ends-cut h s = record { next = refl; turned = one_answer d 0 cut (last-cut d.pending e h) s }

  pub ends-clean : b ≡ false → Ends d (silent (record { session = d.session; pending = empty }) 0)
  ends-clean h = record { next = refl; turned = no_answer d 0 empty (last-clean d.pending e h) }
