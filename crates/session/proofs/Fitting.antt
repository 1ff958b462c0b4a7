-- Every answer of every run of the counter fits its frame, so that nothing is cut where it is written: nothing is assumed of the run, which starts
-- with the two all-zero layouts. Rests on Fits, and on the frames' law that a line asks only what fits.
use mathlib.Core.Path.{◌≡◌, refl, ap}
use mathlib.Core.Bool.{Bool, true, false, cond}
use mathlib.Core.List.{List, ◌++◌}
use Prim.Native.Nat.{ℕ, ◌^◌, ◌<◌}
use native.Mathlib.Omega.{arith}
use lib.Dec.{eqb}
use Rattle.std.specs.Prelude.{Result, Ok, Err, ⊤}
use Rattle.piece.specs.declared.rotation.Rotation.{Rotation}
use Rattle.piece.specs.declared.parttype.PartType.{PartType}
use Rattle.piece.specs.declared.insertion_blueprint.InsertionShape.{InsertionShape}
use Rattle.piece.specs.declared.settings.Opening.{Opening}
use Rattle.tree.specs.Tree.{Tree}
use Rattle.marks.specs.declared.Mark.{Mark}
use Rattle.marks.specs.declared.Refusal.TheVariants.{NotSound, OpeningOutside, OtherLayout}
use Rattle.lines.specs.Text.{Line, whole, long, cut}
use Rattle.layout.specs.declared.layout.Layout.{Layout}
use Rattle.marks.specs.declared.Refusal.{Refusal}
use Rattle.layout.specs.declared.insert.Inserted.{Inserted}
use Rattle.layout.specs.declared.remove.Removed.{Removed}
use Rattle.layout.specs.Check.{limit, sound_b, domain_b}
use Rattle.layout.specs.SoundLayout.{Sized}
use Rattle.layout.specs.Zero.{zero_layout}
use Rattle.layout.specs.Next.{Next}
use Rattle.layout.specs.Open.{fresh_layout, open_of}
use Rattle.layout.specs.Insert.{InsertSays}
use Rattle.layout.specs.Remove.{RemoveSays}
use Rattle.layout.specs.Restore.{greater, with_serial, refused_restore, restore_of}
use Rattle.layout.proofs.Exactly.{zero-sized}
use Rattle.layout.proofs.Opened.{fresh-sized}
use Rattle.layout.proofs.Inserted.{insert-accepted, refused-as-it-came}
use Rattle.layout.proofs.Gone.{remove-refused, remove-accepted}
use Rattle.frames.specs.declared.Ask.TheVariants.{Open, Offers, Insert, Remove, Report}
use Rattle.frames.specs.declared.Request.{Request}
use Rattle.frames.specs.declared.Request.TheVariants.{OfLayout, Keep, Restore, Malformed}
use Rattle.frames.specs.Answers.{Answer}
use Rattle.frames.specs.Ranges.{RequestFits, Each, none as none_left, more as and_then, AnswerFits}
use Rattle.frames.proofs.Heard.{request-fits}
use Rattle.session.specs.declared.Session.{Session}
use Rattle.session.specs.declared.listener.Listener.{Listener}
use Rattle.session.specs.declared.listener.Turn.{Turn}
use Rattle.session.specs.Session.{started, Reply, kept_by, Answers}
use Rattle.session.specs.Session.{after_open, after_offers, after_insert, after_remove, after_keep, after_restore, after_report}
use Rattle.session.specs.Replies.{kept_in}
use Rattle.session.specs.Listener.{asked_in, Runs, none, more, start_listener, Ends, Served}
use Rattle.session.proofs.Kept.{kept-after}
use Rattle.session.proofs.Laws.{input-run}
use Rattle.session.proofs.Fits.{answer-fits}

-- what the type says of a layout: as many entries as there are places, and a number of two bytes
pub record Typed (l : Layout) : Type 0 where
  pub sized : Sized l
  pub number : l.number < 2 ^ 16

-- ---- the next layout, of each call that changes one
typed-next : {l n : Layout} {w : Tree} {list : List ℕ} {last : ℕ} → Typed l → Next l w list last n → Typed n
typed-next t x = record { sized = x.sized; number = omega (arith, x.number, t.number) }

opened : (s : Session) (o : Opening) → o.number < 2 ^ 16 → Typed s.layout
    → Typed (after_open s (open_of o)).session.layout
unfolding after_open open_of fresh_layout
opened s o f t = go (domain_b o.settings)
  where
    go : (b : Bool)
        → Typed (after_open s
        (cond b (record { outcome = Ok (record { layout = o.number; place = 1; serial = 2 }); layout = fresh_layout o })
        (record { outcome = Err OpeningOutside; layout = zero_layout }))).session.layout
    go true = record { sized = fresh-sized o; number = f }
    go false = t

module _ (l : Layout) (t : Typed l) where
  inserted : (m : Mark) (p : PartType) (r : Rotation) (f : InsertionShape) (i : Inserted) → InsertSays l m p r f i → Typed i.layout
  inserted m p r f i says = go i.outcome refl
    where
      go : (v : Result ⊤ Refusal) → i.outcome ≡ v → Typed i.layout
      go (Ok tt) e = typed-next t (insert-accepted l m p r f i says e).1.next
      go (Err x) e = rw (refused-as-it-came l m p r f i says x e) t

  removed : (m : Mark) (r : Removed) → RemoveSays l m limit r → Typed r.layout
  removed m r says = go r.outcome refl
    where
      go : (v : Result ⊤ Refusal) → r.outcome ≡ v → Typed r.layout
      go (Ok tt) e = typed-next t (remove-accepted l m limit r says e).1.next
      go (Err x) e = rw (ap (λ (a : Removed). a.layout) (remove-refused l m limit r says x e).1) t

  restored : (k : Layout) → Typed k → Typed (restore_of l k).layout
  unfolding restore_of
  restored k u = go (sound_b l) (sound_b k) (eqb l.number k.number)
    where
      go : (a b c : Bool)
          → Typed (cond a
          (cond b (cond c (record { outcome = Ok tt; layout = with_serial k (greater l.serial k.serial) }) (refused_restore l OtherLayout))
          (refused_restore l NotSound)) (refused_restore l NotSound)).layout
      go true true true = record { sized = record { nodes = u.sized.nodes; free = u.sized.free; removable = u.sized.removable }; number = u.number }
      go true true false = t
      go true false c = t
      go false b c = t

-- ---- both layouts of a state, after any request
pub record Held (s : Session) : Type 0 where
  pub layout : Typed s.layout
  pub kept : Typed s.kept

layout-after : (s : Session) → Held s → (q : Request) (t : Session) (a : Answer) → RequestFits q → Answers s q t a → Typed t.layout
unfolding Answers after_open after_offers after_insert after_remove after_keep after_restore after_report
layout-after s x (OfLayout (Open o)) t a f h =
    rw (ap (λ (r : Reply). r.session.layout) h) (opened s o f.number x.layout)
layout-after s x (OfLayout (Offers m p)) t a f h = rw (ap (λ (r : Reply). r.session.layout) h) x.layout
layout-after s x (OfLayout (Insert m p r g)) t a f h =
    rw (ap (λ (r : Reply). r.session.layout) h.2) (inserted s.layout x.layout m p r g h.0 h.1)
layout-after s x (OfLayout (Remove m)) t a f h = rw (ap (λ (r : Reply). r.session.layout) h.2) (removed s.layout x.layout m h.0 h.1)
layout-after s x (OfLayout Report) t a f h = rw (ap (λ (r : Reply). r.session.layout) h) x.layout
layout-after s x Keep t a f h = rw (ap (λ (r : Reply). r.session.layout) h) (go (sound_b s.layout))
  where
    go : (b : Bool) → Typed (kept_by s b).session.layout
    go true = x.layout
    go false = x.layout
layout-after s x Restore t a f h = rw (ap (λ (r : Reply). r.session.layout) h) (restored s.layout x.layout s.kept x.kept)
layout-after s x Malformed t a f h = rw (ap (λ (r : Reply). r.session.layout) h) x.layout

kept-typed : (s : Session) → Held s → (q : Request) → Typed (kept_in s q)
kept-typed s x (OfLayout ask) = x.kept
kept-typed s x Keep = go (sound_b s.layout)
  where
    go : (b : Bool) → Typed (cond b s.layout s.kept)
    go true = x.layout
    go false = x.kept
kept-typed s x Restore = x.kept
kept-typed s x Malformed = x.kept

pub held_after : (s : Session) → Held s → (q : Request) (t : Session) (a : Answer) → RequestFits q → Answers s q t a → Held t
held_after s x q t a f h =
    record { layout = layout-after s x q t a f h; kept = rw (kept-after s q t a h) (kept-typed s x q) }

-- ---- runs
asked-fits : (line : Line) → RequestFits (asked_in line)
asked-fits (whole chars) = request-fits chars
asked-fits long = tt
asked-fits cut = tt

runs_fit : {s u : Session} {ls : List Line} {xs : List Answer} → Held s → Runs s ls xs u → Each AnswerFits xs
runs_fit x none = none_left
runs_fit x (more {s} {t} {line = line} {a = a} h r) =
    let f = asked-fits line in
    and_then (answer-fits s x.layout.sized x.layout.number (asked_in line) t a f h) (runs_fit (held_after s x (asked_in line) t a f h) r)

pub started-held : Held started
unfolding zero_layout
started-held =
    let zero : Typed zero_layout = record { sized = zero-sized; number = omega arith } in record { layout = zero; kept = zero }

-- THE LAW: all answers to an input, however it is cut into chunks
pub counter-fits : {cs : List (List ℕ)} {xs : List Answer} {e : Listener} {r : Turn} → Served start_listener cs xs e → (z : Ends e r)
    → Each AnswerFits (xs ++ z.turned.answers)
counter-fits q z = runs_fit started-held (input-run q z)
