-- Demand 1 at the counter: a run of lines is a life, from the opening of a number to the next opening, if that number is opened once; and so every mark of it
-- that an answer has written names its piece, or is refused with 5, or, once another layout was opened, with 4. All is shown of runs of ways (`Ways`): a run
-- of the counter is one, and so is a run of the desk (Desk). Rests on specs/Counter, on what an answer does (CounterWays, CounterSteps), and on the laws of
-- a life (Lives, Marks, MarksGiven). Assumes nothing.
use mathlib.Core.Path.{◌≡◌, refl, sym, ap, ◌∙◌}
use mathlib.Core.Bool.{Bool, true, false}
use mathlib.Core.List.{List, [], ◌∷◌, ◌++◌, append-nil, append_assoc, Memᴰ}
use mathlib.Core.Logic.{◌⊎◌, inl, inr, ⊎_elim}
use Prim.Native.Nat.{ℕ}
use lib.Dec.{eqb}
use borrow.Author.Tests.{eqb-true, eqb-false, ne_eqb}
use Rattle.std.specs.Prelude.{Err}
use Rattle.lists.proofs.Scan.{clash}
use Rattle.marks.specs.declared.Mark.{Mark}
use Rattle.marks.specs.declared.Refusal.{Refusal}
use Rattle.marks.specs.declared.Refusal.TheVariants.{OtherLayout, Gone}
use Rattle.lines.specs.Text.{Line}
use Rattle.lines.specs.Stream.{empty, feeds}
use Rattle.layout.specs.declared.layout.Layout.{Layout}
use Rattle.layout.specs.Check.{sound_b}
use Rattle.layout.specs.Asked.{free_piece_of, sought_of}
use Rattle.layout.specs.Insert.{InsertSays, insert_no, refused_insert}
use Rattle.layout.specs.Remove.{RemoveSays, remove_no, refused_remove}
use Rattle.layout.proofs.Exactly.{sound-says, sound-shown}
use Rattle.layout.proofs.Ways.{ended}
use Rattle.questions.specs.Answers.{offers_call}
use Rattle.frames.specs.declared.Request.{Request}
use Rattle.frames.specs.Answers.{Answer, refused}
use Rattle.session.specs.declared.Session.{Session}
use Rattle.session.specs.declared.listener.Listener.{Listener}
use Rattle.session.specs.Session.{started, Reply, Answers, after_offers, after_insert, after_remove}
use Rattle.session.specs.Listener.{asked_in, Runs, none, more, Served, start_listener}
use Rattle.session.proofs.Decided.{answers-once}
use Rattle.session.proofs.Laws.{served-run}
use Rattle.demands.specs.Life.{NamesPiece}
use Rattle.demands.specs.Counter.{marks_written, opens, openings, OpenedOnce, AllDecline, Lives, GoesOn}
use Rattle.demands.specs.Counter.{Carries, offers_on, insert_in, remove_of, Refuses, Lasts, names, gone, elsewhere}
use Rattle.demands.proofs.Lives.{states-sound}
use Rattle.demands.proofs.Marks.{marks-last}
use Rattle.demands.proofs.MarksGiven.{named}
use Rattle.demands.proofs.CounterWays.{Opens, Way, way, Moved, Stepped, opens-or-not, none-opened, opened-number}
use Rattle.demands.proofs.CounterWays.{opened-checked, Shaped, started-shaped, shaped-after, sound-after}
use Rattle.demands.proofs.CounterSteps.{started-stays, started-declines, Unopened, started-unopened, unopened-after}
use Rattle.demands.proofs.CounterSteps.{same-goes, goes_on, life-begins, writes}

-- ---- the openings of answers

neither : (ms ns : List ℕ) → ms ++ ns ≡ [] → (ms ≡ []) × (ns ≡ [])
neither [] ns h = (refl, h)
neither (m ∷ ms) ns h = absurd (clash (cc))

openings-append : (xs ys : List Answer) → openings (xs ++ ys) ≡ openings xs ++ openings ys
openings-append [] ys = refl
openings-append (x ∷ xs) ys =
    ap (λ (ns : List ℕ). opens x ++ ns) (openings-append xs ys) ∙ sym (append_assoc (opens x) (openings xs) (openings ys))

-- ---- runs of ways

-- answers, one after another, each by its way, take the state s to the state u
pub data Ways : Session → List Answer → Session → Type 0 where
  stays : {s : Session} → Ways s [] s
  goes : {s t u : Session} {a : Answer} {xs : List Answer} → Way s t a → Ways t xs u → Ways s (a ∷ xs) u

-- a run of the counter is one
counter-ways : {s t : Session} {lines : List Line} {xs : List Answer} → Runs s lines xs t → Ways s xs t
counter-ways none = stays
counter-ways (more {s} {t} {line = line} {a = a} answer run) = goes (way s (asked_in line) t a answer) (counter-ways run)

-- ---- a life goes on as long as no opening is accepted

ways-go-on : {s t : Session} {ls : List Layout} {xs : List Answer} → Lives s ls → Ways s xs t → openings xs ≡ [] → GoesOn s ls t
ways-go-on h stays e = same-goes h refl
ways-go-on h (goes {a = a} {xs = xs} w run) e =
    let z = neither (opens a) (openings xs) e in
    let g = goes_on h w z.0 in
    let f = ways-go-on g.lives run z.1 in
    record { then = f.then; lives = f.lives; holds = λ l o. f.holds l (g.holds l o) }

pub the-life-goes-on : {s t : Session} {ls : List Layout} {lines : List Line} {xs : List Answer} → Lives s ls → Runs s lines xs t → openings xs ≡ []
    → GoesOn s ls t
the-life-goes-on h run e = ways-go-on h (counter-ways run) e

-- before any opening the counter stays as it started, and refuses all
pub before-any-opening : {t : Session} {lines : List Line} {xs : List Answer} → Runs started lines xs t → openings xs ≡ []
    → (t ≡ started) × AllDecline xs
before-any-opening {t} run h = go run refl h
  where
    go : {s : Session} {ls : List Line} {ys : List Answer} → Runs s ls ys t → s ≡ started → openings ys ≡ [] → (t ≡ started) × AllDecline ys
    go none e h = (e, tt)
    go (more {s} {t = w} {line = line} {a = a} {xs = zs} step run) e h =
        let z = neither (opens a) (openings zs) h in
        let no = started-declines (asked_in line) w a (rw e at step) z.0 in
        ⊎_elim (λ o. none-opened o z.0) (λ y. let f = go run (started-stays e y.1) z.1 in (f.0, (no, f.1)))
        (opens-or-not (rw e started-shaped) (way s (asked_in line) w a step))

-- ---- the openings of a run

moved-number : (l n : Layout) → Moved l n → n.number ≡ l.number
moved-number l n (inl e) = ap (λ (x : Layout). x.number) e
moved-number l n (inr z) = z.number

-- no opening was accepted, and the layout has its number and stays sound; or it is sound, and has a number that was opened
Last : Session → List ℕ → Session → Type 0
Last s ns t =
    ((ns ≡ []) × (t.layout.number ≡ s.layout.number) × (sound_b s.layout ≡ true → sound_b t.layout ≡ true))
    ⊎ (Memᴰ t.layout.number ns × (sound_b t.layout ≡ true))

last-opened : {s t : Session} {xs : List Answer} → Shaped s → Ways s xs t → Last s (openings xs) t
unfolding Last
last-opened h stays = inl (refl, refl, λ x. x)
last-opened {t = t} h (goes {s} {t = w} {a = a} {xs = xs} v run) = go (sound-after h v) (last-opened (shaped-after h v) run) (opens-or-not h v)
  where
    go : (sound_b s.layout ≡ true → sound_b w.layout ≡ true) → Last w (openings xs) t → Opens s w a ⊎ ((opens a ≡ []) × Stepped s w)
        → Last s (opens a ++ openings xs) t
    go f (inr y) o = inr (mathlib.Core.List.Memᴰ.append_right (opens a) y.0, y.1)
    go f (inl y) (inl o) =
        inr (mathlib.Core.List.Memᴰ.append_left {s = opens a} (openings xs) (rw o.answer (mathlib.Core.List.Memᴰ.head (y.1 ∙ opened-number o))), y.2 (opened-checked o))
    go f (inl y) (inr z) = inl (rw z.0 y.0, y.1 ∙ moved-number s.layout w.layout z.1.layout, λ x. y.2 (f x))

-- ---- one number, opened at most once

-- it was opened: its layout stands and lives, or another stands
data Opened (n : ℕ) (s : Session) : Type 0 where
  here : (ls : List Layout) → Lives s ls → s.layout.number ≡ n → Opened n s
  away : (s.layout.number ≡ n → ⊥) → Opened n s

opened_after : (n : ℕ) {s t : Session} {a : Answer} → Shaped s → Way s t a → (Memᴰ n (opens a) → ⊥) → Opened n s → Opened n t
opened_after n {s} {t} {a} g w other h =
    ⊎_elim leaves (λ z. stays z.0 (moved-number s.layout t.layout z.1.layout) h) (opens-or-not g w)
  where
    leaves : Opens s t a → Opened n t
    leaves o = away (λ e. other (rw o.answer (mathlib.Core.List.Memᴰ.head (sym e ∙ opened-number o))))

    stays : opens a ≡ [] → t.layout.number ≡ s.layout.number → Opened n s → Opened n t
    stays f same (here ls l e) = let g = goes_on l w f in here g.then g.lives (same ∙ e)
    stays f same (away e) = away (λ z. e (sym same ∙ z))

-- it is not opened yet, and will be once; or it was opened, and won't be again
Once : ℕ → Session → List ℕ → Type 0
Once n s ns = (Unopened n s × OpenedOnce n ns) ⊎ (Opened n s × (Memᴰ n ns → ⊥))

once_after : (n : ℕ) {s t : Session} {a : Answer} (ns : List ℕ) → Shaped s → Way s t a → Once n s (opens a ++ ns) → Once n t ns
unfolding Once
once_after n {s} {t} {a} ns g w (inr y) =
    inr (opened_after n g w (λ o. y.1 (mathlib.Core.List.Memᴰ.append_left ns o)) y.0, λ h. y.1 (mathlib.Core.List.Memᴰ.append_right (opens a) h))
once_after n {s} {t} {a} ns g w (inl y) =
    ⊎_elim start_listener (λ z. inl (unopened-after n g w (λ o. mathlib.Core.List.Memᴰ.not-nil (rw z.0 at o)) y.0, rw z.0 at y.1)) (opens-or-not g w)
  where
    start_listener : Opens s t a → Once n t ns
    start_listener o = go (eqb o.mark.layout n) refl (rw (ap opens o.answer) at y.1)
      where
        go : (b : Bool) → eqb o.mark.layout n ≡ b → OpenedOnce n (o.mark.layout ∷ ns) → Once n t ns
        go true e z =
            let same = eqb-true o.mark.layout n e in
            inr (here [] (life-begins o (rw (sym same) at y.0.kept)) (opened-number o ∙ same), z.0 same)
        go false e z =
            let other : Memᴰ n (opens a) → ⊥ = λ h. eqb-false o.mark.layout n e (sym (mathlib.Core.List.Memᴰ.eq_of_singleton (rw o.answer at h))) in
            inl (unopened-after n g w other y.0, z.1)

once-run : (n : ℕ) {s t : Session} {xs : List Answer} (ns : List ℕ) → Shaped s → Ways s xs t → Once n s (openings xs ++ ns) → Once n t ns
once-run n ns g stays h = h
once-run n ns g (goes {a = a} {xs = xs} w run) h =
    once-run n ns (shaped-after g w) run (once_after n (openings xs ++ ns) g w (rw (← append_assoc (opens a) (openings xs) ns) h))

pub shaped-run : {s t : Session} {xs : List Answer} → Shaped s → Ways s xs t → Shaped t
shaped-run g stays = g
shaped-run g (goes w run) = shaped-run (shaped-after g w) run

-- ---- refusals

-- a mark that isn't found is refused by each request that carries it
module _ (s : Session) (k : Mark) (e : Refusal) (sound : sound_b s.layout ≡ true) (no : sought_of s.layout k ≡ Err e) where
  refused-so : (op : ℕ) (q : Request) → Carries k op q → Answers s q s (refused op e)
  unfolding Answers after_offers after_insert after_remove offers_call InsertSays insert_no free_piece_of RemoveSays remove_no
  refused-so op q (offers_on p part) = rw (sound, part, no) refl
  refused-so op q (insert_in p r f part) = (refused_insert s.layout e, rw (sound, part, no) refl, refl)
  refused-so op q remove_of = (refused_remove s.layout e, rw (sound, no) refl, refl)

  is-refused : Refuses e s k
  is-refused =
      record {
        refuses = refused-so;
        only =
            λ op q c t a h.
            let z = answers-once s q h (refused-so op q c) in (ap (λ (r : Reply). r.session) z, ap (λ (r : Reply). r.answer) z);
      }

-- a mark of another layout
pub other-refused : (s : Session) (k : Mark) → sound_b s.layout ≡ true → (k.layout ≡ s.layout.number → ⊥) → Refuses OtherLayout s k
unfolding sought_of
other-refused s k sound other =
    is-refused s k OtherLayout sound (sym (ended _ (ne_eqb k.layout s.layout.number other) refl))

-- ---- THE LAW

-- from the start to a state, with these openings still to come
from_start : (n : ℕ) {t : Session} {xs : List Answer} (ns : List ℕ) → Ways started xs t → OpenedOnce n (openings xs ++ ns) → Once n t ns
unfolding Once
from_start n ns run once = once-run n ns started-shaped run (inl (started-unopened n, once))

-- a layout that is sound, and whose number was opened once, lives
standing : (n : ℕ) {s : Session} {ns : List ℕ} → Once n s ns → s.layout.number ≡ n → sound_b s.layout ≡ true
    → ((ls : List Layout) × Lives s ls) × (Memᴰ n ns → ⊥)
unfolding Once
standing n (inl y) e sound = ⊎_elim (λ z. absurd (clash (sym z ∙ sound))) (λ other. absurd (other e)) y.0.layout
standing n {s} {ns} (inr y) e sound = go y.0
  where
    go : Opened n s → ((ls : List Layout) × Lives s ls) × (Memᴰ n ns → ⊥)
    go (here ls l f) = ((ls, l), y.1)
    go (away other) = absurd (other e)

-- A RUN from the start IS A LIFE of the layout that stands, if its number was opened once (and else no opening was accepted)
pub ways-are-a-life : {t : Session} {xs : List Answer} → Ways started xs t → OpenedOnce t.layout.number (openings xs)
    → (openings xs ≡ []) ⊎ ((earlier : List Layout) × Lives t earlier)
unfolding Last
ways-are-a-life {t} {xs = xs} run once =
    ⊎_elim (λ z. inl z.0) (λ z. inr (standing t.layout.number (from_start _ [] run (rw (append-nil (openings xs)) once)) refl z.1).0)
    (last-opened started-shaped run)

pub a-run-is-a-life : {t : Session} {lines : List Line} {xs : List Answer} → Runs started lines xs t → OpenedOnce t.layout.number (openings xs)
    → (openings xs ≡ []) ⊎ ((earlier : List Layout) × Lives t earlier)
a-run-is-a-life run once = ways-are-a-life (counter-ways run) once

-- the mark k named a piece of the state u, whose number is not opened again
module _ {u v : Session} {ls : List Layout} {ys : List Answer} (h : Lives u ls) (shaped : Shaped u) (run : Ways u ys v) (k : Mark)
    (named : NamesPiece u.layout k) (never : Memᴰ k.layout (openings ys) → ⊥) where
  lasts : Lasts u ys v k
  unfolding Last
  lasts = ⊎_elim (λ z. one-life z.0) another (last-opened shaped run)
    where
      -- no opening: a state of the same life
      one-life : openings ys ≡ [] → Lasts u ys v k
      one-life e =
          let g = ways-go-on h run e in
          let c = states-sound g.lives.life v.layout (inl refl) in
          ⊎_elim (λ z. gone (is-refused v k Gone (sound-shown v.layout c.1 c.0) z)) (λ z. names z.0 z.1)
          (marks-last g.lives.life u.layout v.layout (inl (refl, g.holds u.layout (inl refl))) k named)

      -- another layout stands
      another : Memᴰ v.layout.number (openings ys) × (sound_b v.layout ≡ true) → Lasts u ys v k
      another z =
          elsewhere (λ e. mathlib.Core.List.Memᴰ.not-nil (rw e at z.0)) (other-refused v k z.1 (λ e. never (rw e z.0)))

-- EVERY MARK that an answer has written, in any run of ways from the start, lasts, if its number was opened once
pub a-written-mark-lasts : {t u v : Session} {xs ys : List Answer} → Ways started xs t → (a : Answer) → Way t u a → Ways u ys v
    → (k : Mark) → Memᴰ k (marks_written a) → OpenedOnce k.layout (openings xs ++ (opens a ++ openings ys)) → Lasts u ys v k
a-written-mark-lasts {t} {u} {v} {xs} {ys} first a w run k h once =
    let g = shaped-run started-shaped first in
    let shaped = shaped-after g w in
    let y = writes g.layout w k h in
    let sound : sound_b u.layout ≡ true = ⊎_elim opened-checked (sound-after g w) y.sound in
    let n = named shaped.layout (sound-says u.layout shaped.layout sound) y.given in
    let before = from_start k.layout (opens a ++ openings ys) first once in
    let l = standing k.layout (once_after k.layout (openings ys) g w before) (sym n.number) sound in
    lasts {ls = l.0.0} l.0.1 shaped run k n l.1

-- and so does one that names a piece of a state of the run, whoever has written it
pub a-named-mark-lasts : {t v : Session} {xs ys : List Answer} → Ways started xs t → Ways t ys v
    → (k : Mark) → sound_b t.layout ≡ true → NamesPiece t.layout k → OpenedOnce k.layout (openings xs ++ openings ys) → Lasts t ys v k
a-named-mark-lasts {xs = xs} {ys = ys} first run k sound n once =
    let before = from_start k.layout (openings ys) first once in
    let l = standing k.layout before (sym n.number) sound in
    lasts {ls = l.0.0} l.0.1 (shaped-run started-shaped first) run k n l.1

-- so at the counter
pub marks-last-at-the-counter : {t u v : Session} {before after : List Line} {xs ys : List Answer} → Runs started before xs t
    → (q : Request) (a : Answer) → Answers t q u a → Runs u after ys v
    → (k : Mark) → Memᴰ k (marks_written a) → OpenedOnce k.layout (openings (xs ++ (a ∷ ys))) → Lasts u ys v k
marks-last-at-the-counter {t} {u} {xs = xs} {ys = ys} first q a answer run k h once =
    a-written-mark-lasts (counter-ways first) a (way t q u a answer) (counter-ways run) k h (rw (openings-append xs (a ∷ ys)) at once)

-- ---- an input that arrives in chunks

-- these lines, by the answer a of one of them: what came before it, its line, and what came after
pub record Through (s : Session) (lines : List Line) (xs : List Answer) (a : Answer) (ys : List Answer) (v : Session) : Type 0 where
  pub before : List Line
  pub line : Line
  pub after : List Line
  pub whole : lines ≡ before ++ (line ∷ after)
  pub from : Session
  pub to : Session
  pub first : Runs s before xs from
  pub answer : Answers from (asked_in line) to a
  pub rest : Runs to after ys v

through : {s v : Session} {lines : List Line} (xs : List Answer) (a : Answer) (ys : List Answer) → Runs s lines (xs ++ (a ∷ ys)) v
    → Through s lines xs a ys v
through [] a ys (more {line = line} {lines = lines} step run) =
    record { before = []; line = line; after = lines; whole = refl; from = _; to = _; first = none; answer = step; rest = run }
through (x ∷ xs) a ys (more {line = line} step run) =
    let z = through xs a ys run in
    record {
      before = line ∷ z.before;
      line = z.line;
      after = z.after;
      whole = ap (λ (ls : List Line). line ∷ ls) z.whole;
      from = z.from;
      to = z.to;
      first = more step z.first;
      answer = z.answer;
      rest = z.rest;
    }

-- The listener, however its input was cut: the marks of each of its answers last.
pub marks-last-in-chunks : {d : Listener} {cs : List (List ℕ)} (xs : List Answer) (a : Answer) (ys : List Answer) → Served start_listener cs (xs ++ (a ∷ ys)) d
    → (z : Through started (feeds empty cs).lines xs a ys d.session)
    × ((k : Mark) → Memᴰ k (marks_written a) → OpenedOnce k.layout (openings (xs ++ (a ∷ ys))) → Lasts z.to ys d.session k)
marks-last-in-chunks xs a ys served =
    let z = through xs a ys (served-run served).runs in
    (z, marks-last-at-the-counter z.first (asked_in z.line) a z.answer z.rest)
