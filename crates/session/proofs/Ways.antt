-- From what is said to what a request gives: a lemma for each op. Rests on specs/Session.
use mathlib.Core.Path.{◌≡◌, refl, sym, ap, ◌∙◌}
use mathlib.Core.Bool.{Bool, true, false, cond}
use mathlib.Core.List.{List}
use Prim.Native.Nat.{ℕ, ◌≤◌}
use native.Mathlib.Omega.{arith}
use lib.ListN.{take, replicate, length-replicate}
use Rattle.std.specs.Prelude.{Result, Ok, Err, ⊤}
use Rattle.piece.specs.declared.rotation.Rotation.{Rotation}
use Rattle.piece.specs.declared.settings.Opening.{Opening}
use Rattle.piece.specs.declared.parttype.PartType.{PartType}
use Rattle.piece.specs.declared.insertion_blueprint.InsertionShape.{InsertionShape}
use Rattle.piece.specs.Offers.{offers_of}
use Rattle.piece.proofs.Offered.{held-count, offers-few}
use Rattle.marks.specs.declared.Mark.{Mark}
use Rattle.marks.specs.declared.Refusal.TheVariants.{NotSound}
use Rattle.layout.specs.declared.layout.Layout.{Layout}
use Rattle.marks.specs.declared.Refusal.{Refusal}
use Rattle.piece.specs.declared.node.Datum.{Datum}
use Rattle.layout.specs.declared.open.Opened.{Opened}
use Rattle.layout.specs.declared.insert.Inserted.{Inserted}
use Rattle.layout.specs.declared.remove.Removed.{Removed}
use Rattle.layout.specs.declared.restore.Restored.{Restored}
use Rattle.layout.specs.Check.{limit, sound_b}
use Rattle.layout.specs.Open.{open_of}
use Rattle.layout.specs.Asked.{free_piece_of}
use Rattle.layout.specs.Insert.{InsertSays}
use Rattle.layout.specs.Remove.{RemoveSays, numbers_out, numbers_left}
use Rattle.layout.specs.Restore.{restore_of}
use Rattle.layout.proofs.Answered.{TakenOut}
use Rattle.piece.specs.declared.insertion_option.OfferList.{OfferList}
use Rattle.questions.specs.Answers.{offered_for, offers_call, offers_count}
use Rattle.frames.specs.declared.Ask.{Ask}
use Rattle.frames.specs.declared.Ask.TheVariants.{Open, Offers, Insert, Remove, Report}
use Rattle.frames.specs.declared.Request.{Request}
use Rattle.frames.specs.declared.Request.TheVariants.{OfLayout, Keep, Restore, Malformed}
use Rattle.frames.specs.Answers.{Answer, refused, removed, done, malformed}
use Rattle.session.specs.declared.Session.{Session}
use Rattle.session.specs.declared.Stepped.{Stepped}
use Rattle.session.specs.declared.replies.Said.{Said}
use Rattle.session.specs.declared.replies.Response.{Response}
use Rattle.session.specs.declared.replies.Keeping.{Keeping}
use Rattle.session.specs.Session.{with_layout, reply, answer_by, opened_by, after_open, offers_by, after_offers, marks_said, after_insert}
use Rattle.session.specs.Session.{numbers_said, after_remove, kept_by, after_keep, after_restore, report_by, after_report, Answers, Says, Steps}
use Rattle.session.specs.Replies.{both, step_to, refusal, Replies, Keeps, Restores}
use Rattle.session.proofs.Spoken.{take-sets}

-- what is said is what the request gives
steps : {s u : Session} {q : Request} {a : Answer} {r : Said} → Answers s q u a → Says a r → Steps s q (step_to u r)
steps h y = record { answer = _; answers = h; count = y.count; written = y.written; padded = y.padded }

-- the same request by another name
pub asks : {s : Session} {p q : Request} {r : Stepped} → p ≡ q → Steps s q r → Steps s p r
asks e h = rw e h

pub hears : {l : Layout} {p q : Ask} {r : Response} → p ≡ q → Replies l q r → Replies l p r
hears e h = rw e h

-- an answer by its outcome
by-outcome : (s : Session) (op : ℕ) (a : Answer) {u v : Result ⊤ Refusal} → u ≡ v → reply s (answer_by op a v) ≡ reply s (answer_by op a u)
by-outcome s op a h = ap (λ (x : Result ⊤ Refusal). reply s (answer_by op a x)) (sym h)

-- ---- one lemma for each op: the call's outcome was v, what v asks for is said, and b says whether that is a refusal
module _ (l : Layout) {r : Said} where
  pub open_gives : (o : Opening) {d : Opened} {v : Result Mark Refusal} {next : Layout} {a : Answer} {b : Bool}
      → d ≡ open_of o → d.outcome ≡ v
      → ((kept : Layout) → reply (both next kept) a ≡ opened_by (both l kept) d.layout v) → b ≡ refusal a → Says a r
      → Replies l (Open o) (record { layout = next; refused = b; said = r })
  unfolding Answers after_open
  open_gives o {d} e h f is y =
      record {
        answer = _;
        answers = λ kept. f kept ∙ ap (opened_by (both l kept) d.layout) (sym h) ∙ ap (after_open (both l kept)) e;
        refused = is;
        says = y;
      }

  pub offers-gives : (m : Mark) (p : PartType) {v : Result OfferList Refusal} {b : Bool} → v ≡ offers_call l m p → b ≡ refusal (offers_by v)
      → Says (offers_by v) r → Replies l (Offers m p) (record { layout = l; refused = b; said = r })
  unfolding Answers after_offers
  offers-gives m p e is y =
      record { answer = _; answers = λ kept. ap (after_offers (both l kept)) e; refused = is; says = y }

  pub insert-gives : (m : Mark) (p : PartType) (rotation : Rotation) (shape : InsertionShape) (i : Inserted) {v : Result ⊤ Refusal} {b : Bool}
      → InsertSays l m p rotation shape i → i.outcome ≡ v → b ≡ refusal (answer_by 3 (marks_said i.marks) v)
      → Says (answer_by 3 (marks_said i.marks) v) r → Replies l (Insert m p rotation shape) (record { layout = i.layout; refused = b; said = r })
  unfolding Answers after_insert
  insert-gives m p rotation shape i f h is y =
      record {
        answer = _;
        answers = λ kept. (i, f, by-outcome (both i.layout kept) 3 (marks_said i.marks) h);
        refused = is;
        says = y;
      }

  pub remove-gives : (m : Mark) (d : Removed) {v : Result ⊤ Refusal} {b : Bool} → RemoveSays l m limit d → d.outcome ≡ v
      → b ≡ refusal (answer_by 4 (removed d.free (numbers_out l m.place)) v)
      → Says (answer_by 4 (removed d.free (numbers_out l m.place)) v) r
      → Replies l (Remove m) (record { layout = d.layout; refused = b; said = r })
  unfolding Answers after_remove
  remove-gives m d f h is y =
      record {
        answer = _;
        answers = λ kept. (d, f, by-outcome (both d.layout kept) 4 (numbers_said (both l kept) m d) h);
        refused = is;
        says = y;
      }

  -- the check says b
  pub keep-gives : {b v : Bool} → b ≡ sound_b l → b ≡ v → Says (cond v (done 5) (refused 5 NotSound)) r → Keeps l (record { sound = v; said = r })
  unfolding Answers after_keep
  keep-gives {v = v} e h y =
      let is = sym h ∙ e in
      record { sound = is; answer = cond v (done 5) (refused 5 NotSound); answers = λ kept. rw (← is) (go v kept); says = y }
    where
      go : (x : Bool) (kept : Layout) → reply (both l (cond x l kept)) (cond x (done 5) (refused 5 NotSound)) ≡ kept_by (both l kept) x
      go true kept = refl
      go false kept = refl

  pub restore-gives : (kept : Layout) {d : Restored} {v : Result ⊤ Refusal} {b : Bool} → d ≡ restore_of l kept → d.outcome ≡ v
      → b ≡ refusal (answer_by 6 (done 6) v) → Says (answer_by 6 (done 6) v) r
      → Restores l kept (record { layout = d.layout; refused = b; said = r })
  unfolding Answers after_restore
  restore-gives kept {d} e h is y =
      record {
        answer = _;
        answers = by-outcome (both d.layout kept) 6 (done 6) h ∙ ap (after_restore (both l kept)) e;
        refused = is;
        says = y;
      }

  pub report-gives : {v b : Bool} → sound_b l ≡ v → b ≡ refusal (report_by l v) → Says (report_by l v) r
      → Replies l Report (record { layout = l; refused = b; said = r })
  unfolding Answers after_report
  report-gives h is y =
      record { answer = _; answers = λ kept. ap (λ (x : Bool). reply (both l kept) (report_by l x)) (sym h); refused = is; says = y }

-- ---- from what is told of the layouts to what the request gives
pub keep-answers : (s : Session) {r : Keeping} {b : Bool} (k : Keeps s.layout r) → r.sound ≡ b
    → Answers s Keep (both s.layout (cond b s.layout s.kept)) k.answer
keep-answers s k is = rw (sym is ∙ k.sound) (k.answers s.kept)

module _ {s : Session} where
  pub replied-steps : {ask : Ask} {r : Response} → Replies s.layout ask r → Steps s (OfLayout ask) (step_to (with_layout s r.layout) r.said)
  replied-steps t = steps (t.answers s.kept) t.says

  pub keep-steps : {r : Keeping} {b : Bool} → Keeps s.layout r → r.sound ≡ b
      → Steps s Keep (step_to (both s.layout (cond b s.layout s.kept)) r.said)
  keep-steps k is = steps (keep-answers s k is) k.says

  pub restore-steps : {r : Response} → Restores s.layout s.kept r → Steps s Restore (step_to (with_layout s r.layout) r.said)
  restore-steps t = steps t.answers t.says

pub malformed-steps : {s : Session} {r : Said} → Says malformed r → Steps s Malformed (step_to s r)
unfolding Answers
malformed-steps y = steps refl y

-- an answer to offers has at most four
pub offers-four : (l : Layout) (m : Mark) (p : PartType) → offers_count (offers_call l m p) ≤ 4
unfolding offers_call
offers-four l m p = go (free_piece_of l m p)
  where
    go : (f : Result Datum Refusal) → offers_count (offered_for l p f) ≤ 4
    go (Err e) = omega arith
    go (Ok d) = omega (arith, held-count (offers_of d p l.settings), offers-few d p l.settings)

-- the part numbers that an accepted removal left in a buffer of zeros
pub numbers-out : {left : List ℕ} (l : Layout) (m : Mark) (d : Removed) → TakenOut l m limit d → left ≡ numbers_left l m (replicate limit 0)
    → take d.count left ≡ numbers_out l m.place
numbers-out l m d t e =
    ap (take d.count) (e ∙ t.left (replicate limit 0) refl)
    ∙ take-sets (numbers_out l m.place) (replicate limit 0) d.count (sym t.count)
    (omega (arith, t.count, t.few, length-replicate {A = ℕ} limit 0))
