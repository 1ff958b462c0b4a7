-- Document 02, No. 10, at the counter: the lines of two clerks are the steps of a list, so that the laws of every order (EveryOrder, NothingButEight) are of what
-- people send and see. Rests on the session's rule (`Answers`). Assumes nothing.
use mathlib.Core.Path.{◌≡◌, refl, sym, ap, ◌∙◌, subst}
use mathlib.Core.Bool.{Bool, true, false}
use mathlib.Core.List.{List, [], ◌∷◌, ◌++◌}
use mathlib.Core.Logic.{◌⊎◌, inl, inr}
use mathlib.Core.Option.{none}
use Prim.Native.Nat.{ℕ}
use Rattle.std.specs.Prelude.{Result, Ok, Err, ⊤}
use Rattle.piece.specs.declared.rotation.Rotation.{Rotation}
use Rattle.piece.specs.declared.parttype.PartType.{PartType}
use Rattle.piece.specs.declared.insertion_blueprint.InsertionShape.{InsertionShape}
use Rattle.lists.proofs.Scan.{clash}
use Rattle.marks.specs.declared.Mark.{Mark}
use Rattle.marks.specs.declared.Refusal.TheVariants.{TooManyNodes}
use Rattle.layout.specs.declared.layout.Layout.{Layout}
use Rattle.marks.specs.declared.Refusal.{Refusal}
use Rattle.layout.specs.Check.{limit, sound_b}
use Rattle.layout.specs.SoundLayout.{Sized}
use Rattle.layout.specs.declared.insert.Inserted.{Inserted}
use Rattle.layout.specs.Insert.{insert_no}
use Rattle.layout.specs.Remove.{remove_no}
use Rattle.layout.proofs.Refusals.{refused-insert}
use Rattle.lines.specs.Text.{Line}
use Rattle.frames.specs.declared.Ask.TheVariants.{Open, Offers, Insert, Remove, Report}
use Rattle.frames.specs.declared.Request.{Request}
use Rattle.frames.specs.declared.Request.TheVariants.{OfLayout, Keep, Restore, Malformed}
use Rattle.frames.specs.Answers.{Answer, refused}
use Rattle.session.specs.declared.Session.{Session}
use Rattle.session.specs.Session.{Answers, after_insert, after_keep, after_offers, after_remove, after_report, answer_by, kept_by, marks_said, numbers_said, reply}
use Rattle.session.specs.Listener.{Runs, asked_in, more}
use Rattle.session.specs.Listener as runs
use Rattle.session.specs.Replies.{refusal}
use Rattle.demands.specs.Calls.{SameTree}
use Rattle.demands.specs.Orders.{AllAccepted, Apart, Naming, OnlyEight, Pairwise, Reordered, Step, booking, nothing, removal, then}
use Rattle.demands.specs.Clerks.{AllWork, Works, steps_in, steps_of}
use Rattle.demands.proofs.CounterWays.{to, says}
use Rattle.demands.proofs.EveryOrder.{same-tree}
use Rattle.demands.proofs.NothingButEight.{Next, is-next, ready-eight, ready-none}
use Rattle.demands.proofs.Swaps.{insert-none, remove-none}

-- a call whose answer is no refusal was done
done-by : (op : ℕ) (b : Answer) (o : Result ⊤ Refusal) {a : Answer} → a ≡ answer_by op b o → refusal a ≡ false → o ≡ Ok tt
done-by op b (Ok tt) e h = refl
done-by op b (Err r) e h = let no : true ≡ false = sym (ap refusal e) ∙ h in absurd (clash (sym no))

layout_of : {s t : Session} → t ≡ s → t.layout ≡ s.layout
layout_of e = ap (λ (z : Session). z.layout) e

-- the list goes on from the state after the answer, in which the layout is the same unless there was a step
from : {l k n : Layout} (ss : List Step) → l ≡ k → AllAccepted l ss n → AllAccepted k ss n
from {n = n} ss e run = subst (λ (z : Layout). AllAccepted z ss n) e run

goes_on : (s : Session) (q : Request) (t : Session) (a : Answer) → Answers s q t a → Works q a → (ss : List Step) (n : Layout)
    → AllAccepted t.layout ss n → AllAccepted s.layout (steps_of q ++ ss) n
unfolding Answers after_offers after_insert after_remove after_keep after_report
goes_on s (OfLayout (Open o)) t a h w ss n run = absurd w
goes_on s (OfLayout (Offers m p)) t a h w ss n run = from ss (layout_of (to h)) run
goes_on s (OfLayout (Insert m p r f)) t a h w ss n run =
    let i = h.0 in
    let done = done-by 3 (marks_said i.marks) i.outcome (says h.2) w in
    then (booking m p r f) ss (i, record { says = h.1; done = done }, layout_of (to h.2)) run
goes_on s (OfLayout (Remove m)) t a h w ss n run =
    let r = h.0 in
    let done = done-by 4 (numbers_said s m r) r.outcome (says h.2) w in
    then (removal m limit) ss (r, record { says = h.1; done = done }, layout_of (to h.2)) run
goes_on s (OfLayout Report) t a h w ss n run = from ss (layout_of (to h)) run
goes_on s Keep t a h w ss n run = from ss (go (sound_b s.layout) h) run
  where
    go : (b : Bool) → reply t a ≡ kept_by s b → t.layout ≡ s.layout
    go true e = layout_of (to e)
    go false e = layout_of (to e)
goes_on s Restore t a h w ss n run = absurd w
goes_on s Malformed t a h w ss n run = from ss (layout_of (to h)) run

-- the lines of a run are a list of steps, each accepted
pub run-accepted : {s u : Session} {lines : List Line} {xs : List Answer} → Runs s lines xs u → AllWork lines xs
    → AllAccepted s.layout (steps_in lines) u.layout
run-accepted runs.none w = nothing
run-accepted {s} {u} (more {t = t} {line = line} {lines = lines} {a = a} h run) w =
    goes_on s (asked_in line) t a h w.0 (steps_in lines) u.layout (run-accepted run w.1)

pub clerks-agree : (s t u : Session) → Sized s.layout → (lines others : List Line) (xs ys : List Answer) → Runs s lines xs t → AllWork lines xs
    → Runs s others ys u → AllWork others ys → Reordered (steps_in lines) (steps_in others) → Naming s.layout (steps_in lines)
    → SameTree t.layout u.layout
clerks-agree s t u sized lines others xs ys run w other v r named =
    same-tree s.layout sized (steps_in lines) (steps_in others) r named t.layout u.layout (run-accepted run w) (run-accepted other v)

-- ---- the answer to a step of another order

-- a call that nothing refuses is done, and its answer is no refusal
insert-said : (s t : Session) (m : Mark) (p : PartType) (r : Rotation) (f : InsertionShape) (a : Answer) → Answers s (OfLayout (Insert m p r f)) t a
    → OnlyEight (insert_no s.layout m p r f) → (refusal a ≡ false) ⊎ (a ≡ refused 3 TooManyNodes)
unfolding Answers after_insert
insert-said s t m p r f a h (inl z) =
    let i = h.0 in
    let d = (insert-none s.layout m p r f i z h.1).done in
    inl (ap refusal (says h.2 ∙ ap (answer_by 3 (marks_said i.marks)) d))
insert-said s t m p r f a h (inr z) =
    let i = h.0 in
    let d = ap (λ (x : Inserted). x.outcome) (refused-insert s.layout m p r f i TooManyNodes z h.1) in
    inr (says h.2 ∙ ap (answer_by 3 (marks_said i.marks)) d)

remove-said : (s t : Session) (m : Mark) (a : Answer) → Answers s (OfLayout (Remove m)) t a → remove_no s.layout m limit ≡ none → refusal a ≡ false
unfolding Answers after_remove
remove-said s t m a h z =
    let r = h.0 in
    let d = (remove-none s.layout m limit r z h.1).done in
    ap refusal (says h.2 ∙ ap (answer_by 4 (numbers_said s m r)) d)

-- one run of the lines is as it should be; of another order of its steps those so far were accepted, and q asks for the next
module _ (s t v w : Session) (sized : Sized s.layout) (lines sofar : List Line) (xs ys : List Answer) (run : Runs s lines xs t) (all : AllWork lines xs)
    (named : Naming s.layout (steps_in lines)) (apart : Pairwise (Apart s.layout) (steps_in lines)) (part : Runs s sofar ys v) (some : AllWork sofar ys) where
  next-is : (x : Step) (after : List Step) → Reordered (steps_in lines) (steps_in sofar ++ (x ∷ after)) → Next t.layout v.layout x
  next-is x after r = is-next sized named apart (run-accepted run all) (steps_in sofar) x after r (run-accepted part some)

  pub clerk-answered : (q : Request) (a : Answer) → Answers v q w a → (x : Step) → steps_of q ≡ x ∷ [] → (after : List Step)
      → Reordered (steps_in lines) (steps_in sofar ++ (x ∷ after)) → (refusal a ≡ false) ⊎ (a ≡ refused 3 TooManyNodes)
  clerk-answered (OfLayout (Insert m p r f)) a h x e after o =
      let is : x ≡ booking m p r f = cc in
      let z = next-is (booking m p r f) after (rw is at o) in
      insert-said v w m p r f a h (ready-eight v.layout z.sized z.sound (booking m p r f) z.ready z.enough)
  clerk-answered (OfLayout (Remove m)) a h x e after o =
      let is : x ≡ removal m limit = cc in
      let z = next-is (removal m limit) after (rw is at o) in
      inl (remove-said v w m a h (ready-none v.layout z.sized z.sound (removal m limit) z.ready z.enough refl))
  clerk-answered (OfLayout (Open n)) a h x e after o = absurd (clash (cc))
  clerk-answered (OfLayout (Offers m p)) a h x e after o = absurd (clash (cc))
  clerk-answered (OfLayout Report) a h x e after o = absurd (clash (cc))
  clerk-answered Keep a h x e after o = absurd (clash (cc))
  clerk-answered Restore a h x e after o = absurd (clash (cc))
  clerk-answered Malformed a h x e after o = absurd (clash (cc))
