-- A request's answer, a run's answers and the whole output are decided by the state and the input. Rests on specs/Listener, and on the layout's
-- theorems that the answers of `insert` and `remove` are.
use mathlib.Core.Path.{◌≡◌, refl, sym, ap, ◌∙◌}
use mathlib.Core.List.{List, ◌∷◌, ◌++◌}
use Prim.Native.Nat.{ℕ}
use lib.ListN.{length}
use Rattle.lines.specs.Text.{Line, lines_of, joined_lines}
use Rattle.layout.specs.declared.layout.Layout.{Layout}
use Rattle.layout.specs.Check.{limit}
use Rattle.layout.proofs.Determined.{insert-is-one, remove-is-one}
use Rattle.frames.specs.declared.Ask.{Ask}
use Rattle.frames.specs.declared.Ask.TheVariants.{Open, Offers, Insert, Remove, Report}
use Rattle.frames.specs.declared.Request.{Request}
use Rattle.frames.specs.declared.Request.TheVariants.{OfLayout, Keep, Restore, Malformed}
use Rattle.frames.specs.Answers.{Answer, answer_line}
use Rattle.session.specs.declared.Session.{Session}
use Rattle.session.specs.declared.replies.Said.{Said}
use Rattle.session.specs.declared.replies.Response.{Response}
use Rattle.session.specs.declared.replies.Keeping.{Keeping}
use Rattle.session.specs.declared.listener.Listener.{Listener}
use Rattle.session.specs.declared.listener.Turn.{Turn}
use Rattle.session.specs.Session.{Reply, reply, after_insert, after_remove, Answers, padded_line, Says}
use Rattle.session.specs.Replies.{both, refusal, Replies, Keeps, Restores}
use Rattle.session.specs.Listener.{asked_in, RunsBy, Runs, none, more, start_listener, text_of, Ends, Served}
use Rattle.session.proofs.Laws.{input-run}

-- a request
pub answers-once : (s : Session) (q : Request) {t u : Session} {a b : Answer} → Answers s q t a → Answers s q u b → reply t a ≡ reply u b
unfolding Answers
answers-once s (OfLayout (Open o)) g h = g ∙ sym h
answers-once s (OfLayout (Offers mark part)) g h = g ∙ sym h
answers-once s (OfLayout (Insert m p r f)) g h =
    g.2 ∙ ap (after_insert s) (insert-is-one s.layout m p r f g.0 h.0 g.1 h.1) ∙ sym h.2
answers-once s (OfLayout (Remove m)) g h =
    g.2 ∙ ap (after_remove s m) (remove-is-one s.layout m limit g.0 h.0 g.1 h.1) ∙ sym h.2
answers-once s (OfLayout Report) g h = g ∙ sym h
answers-once s Keep g h = g ∙ sym h
answers-once s Restore g h = g ∙ sym h
answers-once s Malformed g h = g ∙ sym h

-- and where only layouts are at hand, a layout and what is asked of it, or the two layouts
pub same-said : {a b : Answer} {r p : Said} → a ≡ b → Says a r → Says b p → r ≡ p
same-said e x y i =
    record {
      line = (x.padded ∙ ap padded_line e ∙ sym y.padded) i;
      count = (x.count ∙ ap (λ (c : Answer). length (answer_line c)) e ∙ sym y.count) i;
    }

pub replies-once : (l : Layout) (ask : Ask) {r p : Response} → Replies l ask r → Replies l ask p → r ≡ p
replies-once l ask x y =
    let e = answers-once (both l l) (OfLayout ask) (x.answers l) (y.answers l) in
    let same = same-said (ap (λ (w : Reply). w.answer) e) x.says y.says in
    let no = x.refused ∙ ap (λ (w : Reply). refusal w.answer) e ∙ sym y.refused in
    λ i. record { layout = (e i).session.layout; refused = no i; said = same i }

pub keeps-once : (l : Layout) {r p : Keeping} → Keeps l r → Keeps l p → r ≡ p
keeps-once l x y =
    let e = answers-once (both l l) Keep (x.answers l) (y.answers l) in
    let same = same-said (ap (λ (w : Reply). w.answer) e) x.says y.says in
    λ i. record { sound = (x.sound ∙ sym y.sound) i; said = same i }

pub restores-once : (l kept : Layout) {r p : Response} → Restores l kept r → Restores l kept p → r ≡ p
restores-once l kept x y =
    let e = answers-once (both l kept) Restore x.answers y.answers in
    let same = same-said (ap (λ (w : Reply). w.answer) e) x.says y.says in
    let no = x.refused ∙ ap (λ (w : Reply). refusal w.answer) e ∙ sym y.refused in
    λ i. record { layout = (e i).session.layout; refused = no i; said = same i }

-- a run of lines: it is decided wherever what is asked gives one state and one answer
module _ {Q A : Type 0} (asked : Line → Q) (Gives : Session → Q → Session → A → Type 0)
    (once : (s : Session) (q : Q) (t u : Session) (a b : A) → Gives s q t a → Gives s q u b → (t ≡ u) × (a ≡ b)) where
  pub runs-by-once : {s u v : Session} {ls : List Line} {xs ys : List A} → RunsBy asked Gives s ls xs u → RunsBy asked Gives s ls ys v
      → (xs ≡ ys) × (u ≡ v)
  runs-by-once none none = (refl, refl)
  runs-by-once (more {s} {t} {line = line} g q) (more {t = t'} h r) =
      let e = once s (asked line) t t' _ _ g h in
      let next : t ≡ t' = e.0 in
      let same = runs-by-once q (rw (← next) at r) in
      ((λ i. e.1 i ∷ same.0 i), same.1)

pub runs-once : {s u v : Session} {ls : List Line} {xs ys : List Answer} → Runs s ls xs u → Runs s ls ys v → (xs ≡ ys) × (u ≡ v)
runs-once q r =
    runs-by-once asked_in Answers
    (λ s q t u a b g h. let e = answers-once s q g h in (ap (λ (w : Reply). w.session) e, ap (λ (w : Reply). w.answer) e)) q r

-- the output to an input, however it was cut into chunks
pub output-once : {cs ds : List (List ℕ)} {xs ys : List Answer} {d e : Listener} {r q : Turn} → joined_lines cs ≡ joined_lines ds
    → Served start_listener cs xs d → (y : Ends d r) → Served start_listener ds ys e → (z : Ends e q)
    → (text_of (xs ++ y.turned.answers) ≡ text_of (ys ++ z.turned.answers)) × (r.listener.session ≡ q.listener.session)
output-once {cs} {ds} same a y b z =
    let once = runs-once (input-run a y) (rw (← ap lines_of same) at (input-run b z)) in
    (ap text_of once.0, once.1)
