-- What an answer of the counter does to the life that the layout stands in: before any opening there is none; an accepted opening begins one, where what is
-- kept can't be put back on it; any other answer lets it go on, and the marks that it writes are given in it. Rests on what an
-- answer does to the layout (CounterWays) and on the life's laws (Lives). Assumes nothing.
use mathlib.Core.Path.{◌≡◌, refl, sym, ap, ◌∙◌}
use mathlib.Core.Bool.{true}
use mathlib.Core.List.Memᴰ
use mathlib.Core.List.{List, [], ◌∷◌, Memᴰ}
use mathlib.Core.Logic.{◌⊎◌, inl, inr, ⊎_elim}
use mathlib.Core.Option.{some}
use Prim.Native.Nat.{ℕ}
use Rattle.std.specs.Prelude.{Result, Ok, Err, ⊤}
use Rattle.piece.specs.declared.rotation.Rotation.{Rotation}
use Rattle.piece.specs.declared.parttype.PartType.{PartType}
use Rattle.piece.specs.declared.insertion_blueprint.InsertionShape.{InsertionShape}
use Rattle.lists.proofs.Scan.{clash}
use Rattle.marks.specs.declared.Mark.{Mark}
use Rattle.marks.specs.declared.Refusal.TheVariants.{NotSound}
use Rattle.layout.specs.declared.layout.Layout.{Layout}
use Rattle.marks.specs.declared.Refusal.{Refusal}
use Rattle.layout.specs.declared.insert.Inserted.{Inserted}
use Rattle.layout.specs.Check.{limit, sound_b}
use Rattle.layout.specs.SoundLayout.{Sized}
use Rattle.layout.specs.Zero.{zero_layout}
use Rattle.layout.specs.Open.{open_of}
use Rattle.layout.specs.Insert.{insert_no, InsertSays}
use Rattle.layout.specs.Remove.{remove_no}
use Rattle.layout.specs.Restore.{restore_of}
use Rattle.layout.proofs.Exactly.{sound-shown, zero-refused}
use Rattle.layout.proofs.Admitted.{insertable, passed}
use Rattle.layout.proofs.Inserted.{insert-accepted}
use Rattle.layout.proofs.Gone.{remove-accepted}
use Rattle.frames.specs.declared.Ask.TheVariants.{Open, Offers, Insert, Remove, Report}
use Rattle.frames.specs.declared.Request.{Request}
use Rattle.frames.specs.declared.Request.TheVariants.{OfLayout, Keep, Restore, Malformed}
use Rattle.frames.specs.Answers.{Answer}
use Rattle.session.specs.declared.Session.{Session}
use Rattle.session.specs.Session.{started, with_layout, reply, answer_by, opened_by, after_open, marks_said, numbers_said, Answers, op_of}
use Rattle.session.proofs.Refused.{unsound-refused}
use Rattle.demands.specs.Life.{Life, Given, by_open, by_insert_first, by_insert_part, by_insert_free, by_remove}
use Rattle.demands.specs.Life as life
use Rattle.demands.specs.Counter.{marks_written, opens, Declines, GoesOn, Stale, Lives}
use Rattle.demands.proofs.Lives.{newest-number}
use Rattle.demands.proofs.CounterWays.{Quiet, Opens, Way, by_opening, by_insert, by_removal, by_tidying, by_restore, by_keep, by_none, Shaped, Moved, Stepped}
use Rattle.demands.proofs.CounterWays.{says, stale-stays, opens-or-not, none-opened, opened-number}

-- ---- before any opening the layout and what is kept are all zero, and stay so

zero-stays : (n : Layout) → Moved zero_layout n → n ≡ zero_layout
zero-stays n (inl e) = e
zero-stays n (inr y) = absurd (clash (sym zero-refused ∙ y.was))

pub started-stays : {s t : Session} → s ≡ started → Stepped s t → t ≡ started
started-stays {s} {t} e h i =
    record { layout = zero-stays t.layout (rw (ap (λ (x : Session). x.layout) e) at h.layout) i; kept = kept h.kept i }
  where
    kept : (t.kept ≡ s.kept) ⊎ (t.kept ≡ s.layout) → t.kept ≡ zero_layout
    kept (inl y) = y ∙ ap (λ (x : Session). x.kept) e
    kept (inr y) = y ∙ ap (λ (x : Session). x.layout) e

-- each request is refused, since the layout isn't sound
declined : (q : Request) (op : ℕ) → op_of q ≡ some op → (t : Session) (a : Answer) → Answers started q t a → Declines a
declined q op looks t a h = rw (says (unsound-refused started q op looks zero-refused t a h)) tt

pub started-declines : (q : Request) (t : Session) (a : Answer) → Answers started q t a → opens a ≡ [] → Declines a
unfolding Answers after_open
started-declines (OfLayout (Open o)) t a h e =
    let d = open_of o in go d.layout d.outcome h
  where
    go : (l : Layout) (v : Result Mark Refusal) → reply t a ≡ opened_by started l v → Declines a
    go l (Ok m) h = let z : ◌≡◌ {A = List ℕ} (m.layout ∷ []) [] = ap opens (sym (says h)) ∙ e in absurd (clash (cc))
    go l (Err r) h = rw (says h) tt
started-declines (OfLayout (Offers m p)) t a h e = declined (OfLayout (Offers m p)) 2 refl t a h
started-declines (OfLayout (Insert m p r f)) t a h e = declined (OfLayout (Insert m p r f)) 3 refl t a h
started-declines (OfLayout (Remove m)) t a h e = declined (OfLayout (Remove m)) 4 refl t a h
started-declines (OfLayout Report) t a h e = declined (OfLayout Report) 7 refl t a h
started-declines Keep t a h e = declined Keep 5 refl t a h
started-declines Restore t a h e = declined Restore 6 refl t a h
started-declines Malformed t a h e = rw (says h) tt

-- ---- a number that has not been opened: neither the layout nor what is kept could be put back on one of that number

pub record Unopened (n : ℕ) (s : Session) : Type 0 where
  pub layout : Stale n s.layout
  pub kept : Stale n s.kept

pub started-unopened : (n : ℕ) → Unopened n started
started-unopened n = record { layout = inl zero-refused; kept = inl zero-refused }

moved-stale : (n : ℕ) (l k : Layout) → Moved l k → Stale n l → Stale n k
moved-stale n l k (inl e) h = rw e h
moved-stale n l k (inr y) (inl unsound) = absurd (clash (sym unsound ∙ y.was))
moved-stale n l k (inr y) (inr other) = inr (λ e. other (sym y.number ∙ e))

pub unopened-after : (n : ℕ) {s t : Session} {a : Answer} → Shaped s → Way s t a → (Memᴰ n (opens a) → ⊥) → Unopened n s → Unopened n t
unopened-after n {s} {t} {a} g w other h = ⊎_elim opening (λ z. carried z.1) (opens-or-not g w)
  where
    opening : Opens s t a → Unopened n t
    opening o =
        record {
          layout = inr (λ z. other (rw o.answer (Memᴰ.head (sym z ∙ opened-number o))));
          kept = rw (ap (λ (x : Session). x.kept) o.state) h.kept;
        }

    carried : Stepped s t → Unopened n t
    carried z =
        record {
          layout = moved-stale n s.layout t.layout z.layout h.layout;
          kept = ⊎_elim (λ e. rw e h.kept) (λ e. rw e h.layout) z.kept;
        }

-- ---- the life goes on

module _ {s : Session} {ls : List Layout} (h : Lives s ls) where
  pub same-goes : {t : Session} → t ≡ s → GoesOn s ls t
  same-goes e = rw e (record { then = ls; lives = h; holds = λ l o. o })

  next-goes : {t : Session} (n : Layout) → t ≡ with_layout s n → Life (n ∷ s.layout ∷ ls) → GoesOn s ls t
  next-goes n e next =
      rw e
      (record {
        then = s.layout ∷ ls;
        lives = record {
          life = next;
          kept = ⊎_elim (λ o. inl (inr o)) (λ z. inr (rw (sym (newest-number next s.layout (inr (inl refl)))) z)) h.kept;
        };
        holds = λ l o. inr o;
      })

  restored-goes : {t : Session} → t ≡ with_layout s (restore_of s.layout s.kept).layout → GoesOn s ls t
  restored-goes e =
      ⊎_elim (λ o. next-goes _ e (life.Life.restored s.layout ls h.life s.kept o))
      (λ z. same-goes (e ∙ ap (with_layout s) (stale-stays s.layout s.kept z))) h.kept

  pub goes_on : {t : Session} {a : Answer} → Way s t a → opens a ≡ [] → GoesOn s ls t
  goes_on (by_opening o) f = none-opened o f
  goes_on (by_insert m p r k i says e b) f = next-goes i.layout e (life.Life.inserted s.layout ls h.life m p r k i says)
  goes_on (by_removal m r says e b) f = next-goes r.layout e (life.Life.removed s.layout ls h.life m limit r says)
  goes_on (by_tidying d says e b) f = next-goes d.layout e (life.Life.tidied s.layout ls h.life d says)
  goes_on (by_restore e b) f = restored-goes e
  goes_on (by_keep e b) f = rw e (record { then = ls; lives = record { life = h.life; kept = inl (inl refl) }; holds = λ l o. o })
  goes_on (by_none e b) f = same-goes e

-- an accepted opening begins a life, where what is kept can't be put back on it
pub life-begins : {s t : Session} {a : Answer} (o : Opens s t a) → Stale o.mark.layout s.kept → Lives t []
life-begins o stale =
    rw o.state
    (record {
      life = life.Life.opened o.asked o.mark o.accepted;
      kept = inr (rw (← ap (λ (x : Session). x.layout.number) o.state, opened-number o) stale);
    })

-- ---- the marks that an answer writes

-- an answer by its outcome writes marks only where it is done
outcome-marks : (op : ℕ) (b : Answer) (o : Result ⊤ Refusal) (k : Mark) → Memᴰ k (marks_written (answer_by op b o)) → (o ≡ Ok tt) × Memᴰ k (marks_written b)
outcome-marks op b (Ok tt) k h = (refl, h)
outcome-marks op b (Err e) k h = absurd (Memᴰ.not-nil h)

quiet-marks : {a : Answer} {k : Mark} {A : Type 0} → Quiet a → Memᴰ k (marks_written a) → A
quiet-marks q h = absurd (Memᴰ.not-nil (rw q.marks at h))

-- a booking's: the first node's, the part's, and those of the free pieces
inserted-mark : (l : Layout) (m : Mark) (p : PartType) (r : Rotation) (f : InsertionShape) (i : Inserted) → Sized l → InsertSays l m p r f i
    → i.outcome ≡ Ok tt → (k : Mark) → Memᴰ k (marks_written (marks_said i.marks)) → Given i.layout k
inserted-mark l m p r f i sized says z k h =
    ⊎_elim (λ e. rw e (by_insert_first l m p r f i sized says z))
    (λ y. ⊎_elim (λ e. rw e (by_insert_part l m p r f i sized says z)) (by_insert_free l m p r f i sized says z k) (Memᴰ.cases_cons y))
    (Memᴰ.cases_cons h)

-- each is given by the call, and the layout was sound or an opening was accepted
pub record Writes (s t : Session) (a : Answer) (k : Mark) : Type 0 where
  pub given : Given t.layout k
  pub sound : Opens s t a ⊎ (sound_b s.layout ≡ true)

pub writes : {s t : Session} {a : Answer} → Sized s.layout → Way s t a → (k : Mark) → Memᴰ k (marks_written a) → Writes s t a k
unfolding insert_no remove_no
writes sized (by_opening o) k h =
    let same : k ≡ o.mark = Memᴰ.eq_of_singleton (rw o.answer at h) in
    record { given = rw (o.state, same) (by_open o.asked o.mark o.accepted); sound = inl o }
writes {s} {t} sized (by_insert m p r f i says e b) k h =
    let z = outcome-marks 3 (marks_said i.marks) i.outcome k (rw b at h) in
    record {
      given = rw e (inserted-mark s.layout m p r f i sized says z.0 k z.1);
      sound =
          inr (sound-shown s.layout sized (insertable s.layout m p r f sized (insert-accepted s.layout m p r f i says z.0).0).sound);
    }
writes {s} {t} sized (by_removal m r says e b) k h =
    let z = outcome-marks 4 (numbers_said s m r) r.outcome k (rw b at h) in
    let same : k ≡ r.free = Memᴰ.eq_of_singleton z.1 in
    record {
      given = rw (e, same) (by_remove s.layout m limit r sized says z.0);
      sound = inr (passed (sound_b s.layout) _ NotSound (remove-accepted s.layout m limit r says z.0).0).0;
    }
writes sized (by_tidying d says e b) k h = quiet-marks b h
writes sized (by_restore e b) k h = quiet-marks b h
writes sized (by_keep e b) k h = quiet-marks b h
writes sized (by_none e b) k h = quiet-marks b h
