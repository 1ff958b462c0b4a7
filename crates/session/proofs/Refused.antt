-- A refusal changes nothing (document 01: "Refused: number, layout as handed in"): the state is as it was. And a request that looks at the layout refuses
-- one that isn't sound with 1, restore also what is kept. All for every state. Rests on the refusals of `layout`. Assumes nothing.
use mathlib.Core.Path.{◌≡◌, refl, sym, ap, ◌∙◌}
use mathlib.Core.Bool.{Bool, true, false}
use mathlib.Core.Option.{some}
use Prim.Native.Nat.{ℕ}
use native.Mathlib.Omega.{arith}
use Rattle.std.specs.Prelude.{Result, Ok, Err, ⊤}
use Rattle.marks.specs.declared.Refusal.{Refusal}
use Rattle.marks.specs.declared.Refusal.TheVariants.{NotSound}
use Rattle.layout.specs.declared.layout.Layout.{Layout}
use Rattle.marks.specs.declared.Mark.{Mark}
use Rattle.layout.specs.declared.remove.Removed.{Removed}
use Rattle.layout.specs.Check.{limit, sound_b}
use Rattle.layout.specs.Asked.{free_piece_of}
use Rattle.layout.specs.Open.{open_of}
use Rattle.layout.specs.Restore.{restore_of}
use Rattle.layout.proofs.Inserted.{refused-as-it-came}
use Rattle.layout.proofs.Gone.{remove-refused}
use Rattle.layout.proofs.Refusals.{refused-restore, insert-unsound, remove-unsound, restore-unsound, snapshot-unsound}
use Rattle.questions.specs.Answers.{offers_call}
use Rattle.frames.specs.declared.Ask.TheVariants.{Open, Offers, Insert, Remove, Report}
use Rattle.frames.specs.declared.Request.{Request}
use Rattle.frames.specs.declared.Request.TheVariants.{OfLayout, Keep, Restore, Malformed}
use Rattle.frames.specs.Answers.{Answer, refused}
use Rattle.session.specs.declared.Session.{Session}
use Rattle.session.specs.Session.{Reply, reply, answer_by, with_layout, opened_by, kept_by, op_of}
use Rattle.session.specs.Session.{after_open, after_offers, after_insert, after_remove, after_keep, after_restore, after_report, Answers}
use Rattle.session.specs.Replies.{refusal}

-- ---- where the answer is a refusal, the state is as it was

-- an answer that is one is no other
not-accepted : {t u : Session} {a b : Answer} → refusal a ≡ true → refusal b ≡ false → reply t a ≡ reply u b → ⊥
not-accepted refuses accepts h =
    let e : false ≡ true = sym accepts ∙ sym (ap (λ (r : Reply). refusal r.answer) h) ∙ refuses in
    let z : ◌≡◌ {A = ℕ} 0 1 = cc in absurd (omega arith)

-- of an opening, of keep, and of a call that hands a layout back
module _ {s t : Session} {a : Answer} (refuses : refusal a ≡ true) where
  by-opening : (l : Layout) (o : Result Mark Refusal) → reply t a ≡ opened_by s l o → t ≡ s
  by-opening l (Ok m) h = absurd (not-accepted refuses refl h)
  by-opening l (Err f) h = ap (λ (r : Reply). r.session) h

  by-keeping : (b : Bool) → reply t a ≡ kept_by s b → t ≡ s
  by-keeping true h = absurd (not-accepted refuses refl h)
  by-keeping false h = ap (λ (r : Reply). r.session) h

  -- the answer to an acceptance is no refusal, and a call that refuses hands the layout back as it was
  by-outcome : (l : Layout) (k : ℕ) (b : Answer) (o : Result ⊤ Refusal) → refusal b ≡ false → ((f : Refusal) → o ≡ Err f → l ≡ s.layout)
      → reply t a ≡ reply (with_layout s l) (answer_by k b o) → t ≡ s
  by-outcome l k b (Ok tt) accepts same h = absurd (not-accepted refuses accepts h)
  by-outcome l k b (Err f) accepts same h = ap (λ (r : Reply). r.session) h ∙ ap (with_layout s) (same f refl)

pub refused-stays : (s : Session) (q : Request) {t : Session} (a : Answer) → refusal a ≡ true → Answers s q t a → t ≡ s
unfolding Answers after_open after_offers after_insert after_remove after_keep after_restore after_report
refused-stays s (OfLayout (Open o)) a e h =
    let d = open_of o in by-opening e d.layout d.outcome h
refused-stays s (OfLayout (Offers mark part)) a e h = ap (λ (r : Reply). r.session) h
refused-stays s (OfLayout (Insert m p r f)) a e h =
    by-outcome e h.0.layout 3 _ h.0.outcome refl (refused-as-it-came s.layout m p r f h.0 h.1) h.2
refused-stays s (OfLayout (Remove m)) a e h =
    by-outcome e h.0.layout 4 _ h.0.outcome refl
    (λ x o. ap (λ (r : Removed). r.layout) (remove-refused s.layout m limit h.0 h.1 x o).1) h.2
refused-stays s (OfLayout Report) a e h = ap (λ (r : Reply). r.session) h
refused-stays s Keep a e h = by-keeping e (sound_b s.layout) h
refused-stays s Restore a e h =
    let d = restore_of s.layout s.kept in by-outcome e d.layout 6 _ d.outcome refl (refused-restore s.layout s.kept) h
refused-stays s Malformed a e h = ap (λ (r : Reply). r.session) h

-- ---- refusal 1, of a layout and of a snapshot

-- the refusal of the op that was asked
as-op : {r : Reply} {n op : ℕ} (s : Session) → some n ≡ some op → r ≡ reply s (refused n NotSound) → r ≡ reply s (refused op NotSound)
as-op {n = n} {op = op} s o e = let same : n ≡ op = cc in e ∙ ap (λ (x : ℕ). reply s (refused x NotSound)) same

-- of a layout
pub unsound-refused : (s : Session) (q : Request) (op : ℕ) → op_of q ≡ some op → sound_b s.layout ≡ false → (t : Session) (a : Answer)
    → Answers s q t a → reply t a ≡ reply s (refused op NotSound)
unfolding Answers offers_call free_piece_of after_offers after_insert after_remove after_keep after_restore after_report
unsound-refused s (OfLayout (Open o)) op looks unsound t a h = let z : ◌≡◌ {A = ℕ} 0 1 = cc in absurd (omega arith)
unsound-refused s (OfLayout (Offers m p)) op looks unsound t a h = as-op s looks (rw unsound at h)
unsound-refused s (OfLayout (Insert m p r f)) op looks unsound t a h =
    as-op s looks (h.2 ∙ ap (after_insert s) (insert-unsound s.layout unsound m p r f h.0 h.1))
unsound-refused s (OfLayout (Remove m)) op looks unsound t a h =
    as-op s looks (h.2 ∙ ap (after_remove s m) (remove-unsound s.layout unsound m limit h.0 h.1))
unsound-refused s (OfLayout Report) op looks unsound t a h = as-op s looks (rw unsound at h)
unsound-refused s Keep op looks unsound t a h = as-op s looks (rw unsound at h)
unsound-refused s Restore op looks unsound t a h =
    as-op s looks (h ∙ ap (after_restore s) (restore-unsound s.layout unsound s.kept))
unsound-refused s Malformed op looks unsound t a h = let z : ◌≡◌ {A = ℕ} 0 1 = cc in absurd (omega arith)

-- and of a snapshot, whatever the layout is
pub unsound-kept-refused : (s : Session) → sound_b s.kept ≡ false → (t : Session) (a : Answer) → Answers s Restore t a
    → reply t a ≡ reply s (refused 6 NotSound)
unfolding Answers after_restore
unsound-kept-refused s unsound t a h = h ∙ ap (after_restore s) (snapshot-unsound s.kept unsound s.layout)
