-- What an answer of the counter does to the layout and to what is kept. Each op is looked at once (`Way`), and then by what matters to all: an opening is
-- accepted, or the layout stays or is renewed under its number, and what is kept stays or is the layout. No op of the counter tidies, but one of the desk's
-- does: that way is looked at here too, so that the laws are one for both. Rests on the session's rule (`Answers`) and on what a call has done (Outcomes).
-- Assumes nothing.
use mathlib.Core.Path.{◌≡◌, refl, sym, ap, ◌∙◌}
use mathlib.Core.Bool.{Bool, true, false}
use mathlib.Core.List.{List, [], ◌∷◌}
use mathlib.Core.Logic.{◌⊎◌, inl, inr, ⊎_elim}
use Prim.Native.Nat.{ℕ}
use lib.Dec.{eqb}
use borrow.Author.Tests.{eqb-true}
use Rattle.std.specs.Prelude.{Result, Ok, Err, ⊤}
use Rattle.piece.specs.declared.rotation.Rotation.{Rotation}
use Rattle.piece.specs.declared.parttype.PartType.{PartType}
use Rattle.piece.specs.declared.insertion_blueprint.InsertionShape.{InsertionShape}
use Rattle.piece.specs.declared.settings.Opening.{Opening}
use Rattle.tree.specs.Tree.{Tree}
use Rattle.lists.proofs.Scan.{clash}
use Rattle.marks.specs.declared.Mark.{Mark}
use Rattle.marks.specs.declared.Refusal.{Refusal}
use Rattle.marks.specs.declared.Refusal.TheVariants.{NotSound}
use Rattle.layout.specs.declared.layout.Layout.{Layout}
use Rattle.layout.specs.declared.insert.Inserted.{Inserted}
use Rattle.layout.specs.declared.remove.Removed.{Removed}
use Rattle.layout.specs.declared.tidy.Tidied.{Tidied}
use Rattle.layout.specs.Check.{limit, sound_b}
use Rattle.layout.specs.SoundLayout.{Sized, SoundLayout}
use Rattle.layout.specs.Next.{Next}
use Rattle.layout.specs.Open.{fresh_layout, open_of}
use Rattle.layout.specs.Insert.{InsertSays}
use Rattle.layout.specs.Remove.{RemoveSays}
use Rattle.layout.specs.Tidy.{TidySays}
use Rattle.layout.specs.Restore.{greater, with_serial, restore_of}
use Rattle.layout.proofs.Exactly.{sound-says, sound-shown, zero-sized}
use Rattle.layout.proofs.Opened.{fresh-sized, fresh-sound}
use Rattle.layout.proofs.Restored.{restored-sound}
use Rattle.layout.proofs.Tidying.{TidiesMeans}
use Rattle.frames.specs.declared.Ask.TheVariants.{Open, Offers, Insert, Remove, Report}
use Rattle.frames.specs.declared.Request.{Request}
use Rattle.frames.specs.declared.Request.TheVariants.{OfLayout, Keep, Restore, Malformed}
use Rattle.frames.specs.Answers.{Answer, refused, opened, done}
use Rattle.session.specs.declared.Session.{Session}
use Rattle.piece.specs.declared.insertion_option.OfferList.{OfferList}
use Rattle.questions.specs.Answers.{offers_call}
use Rattle.session.specs.Session.{started, with_layout, Reply, reply, answer_by, opened_by, after_open, offers_by, after_offers, marks_said, after_insert}
use Rattle.session.specs.Session.{numbers_said, after_remove, kept_by, after_keep, after_restore, report_by, after_report, Answers}
use Rattle.demands.specs.Counter.{marks_written, opens, Stale}
use Rattle.demands.proofs.Outcomes.{opened-so, inserted-so, removed-so, tidied-so}

-- ---- the ways of an answer

-- an answer that writes no mark and opens nothing
pub record Quiet (a : Answer) : Type 0 where
  pub marks : marks_written a ≡ []
  pub number : opens a ≡ []

-- an accepted opening
pub record Opens (s t : Session) (a : Answer) : Type 0 where
  pub asked : Opening
  pub mark : Mark
  pub accepted : (open_of asked).outcome ≡ Ok mark
  pub state : t ≡ with_layout s (open_of asked).layout
  pub answer : a ≡ opened mark

pub data Way (s t : Session) (a : Answer) : Type 0 where
  by_opening : Opens s t a → Way s t a
  by_insert : (m : Mark) (p : PartType) (r : Rotation) (f : InsertionShape) (i : Inserted) → InsertSays s.layout m p r f i
      → t ≡ with_layout s i.layout → a ≡ answer_by 3 (marks_said i.marks) i.outcome → Way s t a
  by_removal : (m : Mark) (r : Removed) → RemoveSays s.layout m limit r → t ≡ with_layout s r.layout
      → a ≡ answer_by 4 (numbers_said s m r) r.outcome → Way s t a
  by_tidying : (d : Tidied) → TidySays s.layout d → t ≡ with_layout s d.layout → Quiet a → Way s t a
  by_restore : t ≡ with_layout s (restore_of s.layout s.kept).layout → Quiet a → Way s t a
  by_keep : t ≡ record { layout = s.layout; kept = s.layout } → Quiet a → Way s t a
  by_none : t ≡ s → Quiet a → Way s t a

pub to : {s t : Session} {a b : Answer} → reply t a ≡ reply s b → t ≡ s
to h = ap (λ (r : Reply). r.session) h

pub says : {s t : Session} {a b : Answer} → reply t a ≡ reply s b → a ≡ b
says h = ap (λ (r : Reply). r.answer) h

quiet : {s t : Session} {a b : Answer} → reply t a ≡ reply s b → Quiet b → Quiet a
quiet h q = rw (says h) q

refused-quiet : (op : ℕ) (e : Refusal) → Quiet (refused op e)
refused-quiet op e = record { marks = refl; number = refl }

-- an answer by its outcome, which is quiet where it is done
outcome-quiet : (op : ℕ) (b : Answer) → Quiet b → (o : Result ⊤ Refusal) → Quiet (answer_by op b o)
outcome-quiet op b q (Ok tt) = q
outcome-quiet op b q (Err e) = refused-quiet op e

offers-quiet : (o : Result OfferList Refusal) → Quiet (offers_by o)
offers-quiet (Ok o) = record { marks = refl; number = refl }
offers-quiet (Err e) = refused-quiet 2 e

pub way : (s : Session) (q : Request) (t : Session) (a : Answer) → Answers s q t a → Way s t a
unfolding Answers after_open after_offers after_insert after_remove after_keep after_restore after_report
way s (OfLayout (Open o)) t a h = go (open_of o).outcome refl h
  where
    go : (v : Result Mark Refusal) → (open_of o).outcome ≡ v
        → reply t a ≡ opened_by s (open_of o).layout v → Way s t a
    go (Ok m) e h =
        by_opening
        (record {
          asked = o;
          mark = m;
          accepted = e;
          state = to h;
          answer = says h;
        })
    go (Err r) e h = by_none (to h) (quiet h (refused-quiet 1 r))
way s (OfLayout (Offers m p)) t a h =
    by_none (to h) (quiet h (offers-quiet (offers_call s.layout m p)))
way s (OfLayout (Insert m p r f)) t a h = by_insert m p r f h.0 h.1 (to h.2) (says h.2)
way s (OfLayout (Remove m)) t a h = by_removal m h.0 h.1 (to h.2) (says h.2)
way s Keep t a h = go (sound_b s.layout) h
  where
    go : (b : Bool) → reply t a ≡ kept_by s b → Way s t a
    go true h = by_keep (to h) (quiet h (record { marks = refl; number = refl }))
    go false h = by_none (to h) (quiet h (refused-quiet 5 NotSound))
way s Restore t a h =
    by_restore (to h) (quiet h (outcome-quiet 6 (done 6) (record { marks = refl; number = refl }) (restore_of s.layout s.kept).outcome))
way s (OfLayout Report) t a h = by_none (to h) (quiet h (go (sound_b s.layout)))
  where
    go : (b : Bool) → Quiet (report_by s.layout b)
    go true = record { marks = refl; number = refl }
    go false = refused-quiet 7 NotSound
way s Malformed t a h = by_none (to h) (quiet h (record { marks = refl; number = refl }))

-- ---- the layout, and what is kept, after an answer that opens nothing

-- the arrays are as long as their type says
pub record Shaped (s : Session) : Type 0 where
  pub layout : Sized s.layout
  pub kept : Sized s.kept

pub started-shaped : Shaped started
started-shaped = record { layout = zero-sized; kept = zero-sized }

-- n comes after l by a call that was accepted: both are sound, and of one number
pub record Renewed (l n : Layout) : Type 0 where
  pub was : sound_b l ≡ true
  pub sound : sound_b n ≡ true
  pub sized : Sized n
  pub number : n.number ≡ l.number

-- or it is l
abbrev pub Moved : Layout → Layout → Type 0
Moved l n = (n ≡ l) ⊎ Renewed l n

next-renewed : {l n : Layout} {w : Tree} {ys : List ℕ} {last : ℕ} → Sized l → SoundLayout l → Next l w ys last n → Renewed l n
next-renewed {l} {n} h s next =
    record { was = sound-shown l h s; sound = sound-shown n next.sized next.sound; sized = next.sized; number = next.number }

insert-moved : (l : Layout) (m : Mark) (p : PartType) (r : Rotation) (f : InsertionShape) (i : Inserted) → Sized l → InsertSays l m p r f i
    → Moved l i.layout
insert-moved l m p r f i h says = ⊎_elim inl (λ z. inr (next-renewed h z.0.sound z.1.next)) (inserted-so l m p r f i h says)

remove-moved : (l : Layout) (m : Mark) (room : ℕ) (r : Removed) → Sized l → RemoveSays l m room r → Moved l r.layout
remove-moved l m room r h says = ⊎_elim inl (λ z. inr (next-renewed h z.0.sound z.1.next)) (removed-so l m room r h says)

tidy-moved : (l : Layout) (d : Tidied) → Sized l → TidySays l d → Moved l d.layout
tidy-moved l d h says = ⊎_elim inl (λ z. inr (renewed z.was z.means)) (tidied-so l d h says)
  where
    renewed : SoundLayout l → TidiesMeans l d.count d.layout → Renewed l d.layout
    renewed s m =
        record { was = sound-shown l h s; sound = sound-shown d.layout m.sized m.sound; sized = m.sized; number = m.number }

-- restore is refused, or k is put back: both are sound, and of one number
record PutBack (l k : Layout) : Type 0 where
  was : sound_b l ≡ true
  kept : sound_b k ≡ true
  number : k.number ≡ l.number
  is : (restore_of l k).layout ≡ with_serial k (greater l.serial k.serial)

put_back : (l k : Layout) → ((restore_of l k).layout ≡ l) ⊎ PutBack l k
unfolding restore_of
put_back l k = go (sound_b l) (sound_b k) (eqb l.number k.number) refl refl refl
  where
    go : (a b c : Bool) → sound_b l ≡ a → sound_b k ≡ b → eqb l.number k.number ≡ c → ((restore_of l k).layout ≡ l) ⊎ PutBack l k
    go true true true x y z =
        inr (record { was = x; kept = y; number = sym (eqb-true l.number k.number z); is = rw (x, y, z) refl })
    go true true false x y z = inl (rw (x, y, z) refl)
    go true false c x y z = inl (rw (x, y) refl)
    go false b c x y z = inl (rw x refl)

restore-moved : (l k : Layout) → Sized l → Sized k → Moved l (restore_of l k).layout
restore-moved l k h g = ⊎_elim inl (λ z. inr (rw z.is (renewed z))) (put_back l k)
  where
    sized : Sized (with_serial k (greater l.serial k.serial))
    sized = record { nodes = g.nodes; free = g.free; removable = g.removable }

    renewed : PutBack l k → Renewed l (with_serial k (greater l.serial k.serial))
    renewed z =
        record {
          was = z.was;
          sound = sound-shown _ sized (restored-sound l k (sound-says l h z.was) (sound-says k g z.kept));
          sized = sized;
          number = z.number;
        }

-- what can't be put back isn't
pub stale-stays : (l k : Layout) → Stale l.number k → (restore_of l k).layout ≡ l
stale-stays l k h =
    ⊎_elim (λ e. e) (λ z. ⊎_elim (λ e. absurd (clash (sym e ∙ z.kept))) (λ other. absurd (other z.number)) h) (put_back l k)

-- what became of both
pub record Stepped (s t : Session) : Type 0 where
  pub layout : Moved s.layout t.layout
  pub kept : (t.kept ≡ s.kept) ⊎ (t.kept ≡ s.layout)

changed : (s t : Session) (n : Layout) → t ≡ with_layout s n → Moved s.layout n → Stepped s t
changed s t n e h = rw e (record { layout = h; kept = inl refl })

outcome-opens : (op : ℕ) (b : Answer) (o : Result ⊤ Refusal) → opens b ≡ [] → opens (answer_by op b o) ≡ []
outcome-opens op b (Ok tt) h = h
outcome-opens op b (Err e) h = refl

-- an answer accepts an opening, or opens nothing
pub opens-or-not : {s t : Session} {a : Answer} → Shaped s → Way s t a → Opens s t a ⊎ ((opens a ≡ []) × Stepped s t)
opens-or-not g (by_opening o) = inl o
opens-or-not {s} {t} g (by_insert m p r f i h e b) =
    inr (rw b (outcome-opens 3 _ i.outcome refl), changed s t i.layout e (insert-moved s.layout m p r f i g.layout h))
opens-or-not {s} {t} g (by_removal m r h e b) =
    inr (rw b (outcome-opens 4 _ r.outcome refl), changed s t r.layout e (remove-moved s.layout m limit r g.layout h))
opens-or-not {s} {t} g (by_tidying d h e b) = inr (b.number, changed s t d.layout e (tidy-moved s.layout d g.layout h))
opens-or-not {s} {t} g (by_restore e b) = inr (b.number, changed s t _ e (restore-moved s.layout s.kept g.layout g.kept))
opens-or-not {s} {t} g (by_keep e b) = inr (b.number, rw e (record { layout = inl refl; kept = inr refl }))
opens-or-not {s} {t} g (by_none e b) = inr (b.number, rw e (record { layout = inl refl; kept = inl refl }))

pub none-opened : {s t : Session} {a : Answer} {A : Type 0} → Opens s t a → opens a ≡ [] → A
none-opened o h = let z : ◌≡◌ {A = List ℕ} (o.mark.layout ∷ []) [] = ap opens (sym o.answer) ∙ h in absurd (clash (cc))

-- the number of an accepted opening's layout is that of its mark
pub opened-number : {s t : Session} {a : Answer} (o : Opens s t a) → t.layout.number ≡ o.mark.layout
unfolding fresh_layout
opened-number o =
    let z = opened-so o.asked o.mark o.accepted in rw (o.state, z.1, z.2) refl

-- ---- soundness stays

opened-right : {s t : Session} {a : Answer} (o : Opens s t a) → Sized t.layout × SoundLayout t.layout
opened-right o =
    let z = opened-so o.asked o.mark o.accepted in
    rw (o.state, z.1) (fresh-sized o.asked, fresh-sound o.asked z.0)

pub opened-checked : {s t : Session} {a : Answer} → Opens s t a → sound_b t.layout ≡ true
opened-checked {t = t} o = let z = opened-right o in sound-shown t.layout z.0 z.1

moved-sized : (l n : Layout) → Sized l → Moved l n → Sized n
moved-sized l n h (inl e) = rw e h
moved-sized l n h (inr z) = z.sized

moved-sound : (l n : Layout) → sound_b l ≡ true → Moved l n → sound_b n ≡ true
moved-sound l n h (inl e) = rw e h
moved-sound l n h (inr z) = z.sound

module _ {s t : Session} {a : Answer} (g : Shaped s) (w : Way s t a) where
  pub shaped-after : Shaped t
  shaped-after = ⊎_elim opening (λ z. carried z.1) (opens-or-not g w)
    where
      opening : Opens s t a → Shaped t
      opening o = record { layout = (opened-right o).0; kept = rw o.state g.kept }

      carried : Stepped s t → Shaped t
      carried z =
          record {
            layout = moved-sized s.layout t.layout g.layout z.layout;
            kept = ⊎_elim (λ e. rw e g.kept) (λ e. rw e g.layout) z.kept;
          }

  pub sound-after : sound_b s.layout ≡ true → sound_b t.layout ≡ true
  sound-after h = ⊎_elim opened-checked (λ z. moved-sound s.layout t.layout h z.1.layout) (opens-or-not g w)
