-- From what `session` tells of the layouts to what the step says: a lemma for each kind of request. Rests on specs/Step.
use mathlib.Core.Path.{◌≡◌, refl, sym, ap, ◌∙◌}
use mathlib.Core.Bool.{Bool, true, false, cond, not}
use mathlib.Core.List.{List}
use Prim.Native.Nat.{ℕ}
use Rattle.layout.specs.declared.layout.Layout.{Layout}
use Rattle.layout.specs.Check.{sound_b}
use Rattle.frames.specs.declared.Ask.{Ask}
use Rattle.frames.specs.declared.Request.{Request}
use Rattle.frames.specs.declared.Request.TheVariants.{OfLayout, Keep, Restore, Malformed}
use Rattle.frames.specs.Answers.{Answer, malformed}
use Rattle.session.specs.declared.Session.{Session}
use Rattle.session.specs.declared.replies.Said.{Said}
use Rattle.session.specs.declared.replies.Response.{Response}
use Rattle.session.specs.declared.replies.Keeping.{Keeping}
use Rattle.session.specs.Session.{Reply, kept_by, after_keep, Answers, Says}
use Rattle.session.specs.Replies.{both, refusal, Replies, Keeps, Restores}
use Rattle.session.proofs.Ways.{keep-answers}
use Rattle.kiosk.specs.declared.records.SessionRecord.{SessionRecord}
use Rattle.kiosk.specs.Records.{layout_of, session_of}
use Rattle.kiosk.specs.Step.{record_after, Answered, record_with_layout}
use Rattle.kiosk.proofs.Listed.{sound-stays}

-- keep refuses a layout that isn't sound, and no other
keep-refusal : {l : Layout} {r : Keeping} (k : Keeps l r) → refusal k.answer ≡ not r.sound
unfolding Answers after_keep
keep-refusal {l} k = ap (λ (x : Reply). refusal x.answer) (k.answers l) ∙ go (sound_b l) ∙ ap not (sym k.sound)
  where
    go : (b : Bool) → refusal (kept_by (both l l) b).answer ≡ not b
    go true = refl
    go false = refl

-- the same request by another name
pub asks : {given next : SessionRecord} {p q : Request} {line : List ℕ} {n : ℕ} → p ≡ q → Answered given p next line n → Answered given q next line n
asks e h = rw e at h

-- the request is w, and l is the layout of the record
module _ (given : SessionRecord) (w : Request) {l : Layout} (at : l ≡ layout_of given.layout) where
  -- what comes of the session, what is said, and the record that is left
  answered : (q : Request) (u : Session) {a : Answer} {b : Bool} {r : Said} {next : SessionRecord} → q ≡ w
      → Answers (session_of given) q u a → Says a r → b ≡ refusal a → next ≡ record_after given b q u.layout
      → Answered given w next r.line r.count
  answered q u {a} {r = r} asks h y is left =
      record {
        stepped = record { session = u; line = r.line; count = r.count };
        steps = record { answer = a; answers = rw asks at h; count = y.count; written = y.written; padded = y.padded };
        left =
            left ∙ ap (λ (x : Bool). record_after given x q u.layout) is
            ∙ ap (λ (x : Request). record_after given (refusal a) x u.layout) asks;
        written = refl;
        counted = refl;
      }

  pub of-layout-answered : {ask : Ask} {r : Response} → OfLayout ask ≡ w → Replies l ask r
      → Answered given w (cond r.refused given (record_with_layout given r.layout)) r.said.line r.said.count
  of-layout-answered {ask} {r} asks t =
      let s = rw at at t in
      let kept = layout_of given.kept in
      answered (OfLayout ask) (both r.layout kept) asks (s.answers kept) s.says s.refused refl

  pub restore-answered : {k : Layout} {r : Response} → k ≡ layout_of given.kept → Restore ≡ w → Restores l k r
      → Answered given w (cond r.refused given (record_with_layout given r.layout)) r.said.line r.said.count
  restore-answered {k} {r} e asks t =
      let s = rw (at, e) at t in
      answered Restore (both r.layout (layout_of given.kept)) asks s.answers s.says s.refused refl

  pub malformed-answered : {r : Said} → Malformed ≡ w → Says malformed r → Answered given w given r.line r.count
  unfolding Answers
  malformed-answered asks y = answered Malformed (session_of given) {b = true} asks refl y refl refl

  -- the layout is sound or not, as b says
  pub keep-answered : {r : Keeping} {b : Bool} → Keep ≡ w → Keeps l r → r.sound ≡ b
      → Answered given w (cond b (record { layout = given.layout; kept = given.layout }) given) r.said.line r.said.count
  keep-answered {r} {b} asks k is =
      let s : Keeps (layout_of given.layout) r = rw at at k in
      let l = layout_of given.layout in
      answered Keep (both l (cond b l (layout_of given.kept))) asks (keep-answers (session_of given) s is) s.says
      (ap not (sym is) ∙ sym (keep-refusal s)) (go b (sym is ∙ s.sound))
    where
      go : (x : Bool) → x ≡ sound_b (layout_of given.layout)
          → cond x (record { layout = given.layout; kept = given.layout }) given ≡ record_after given (not x) Keep (layout_of given.layout)
      go true e = rw (sound-stays given.layout (sym e)) refl
      go false e = refl
