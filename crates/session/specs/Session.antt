-- Document 01, "Counter frames": what a request does to the counter's state, and what it answers. "Layout and snapshot start all zero".
-- Rests on the calls of `layout` and on the answers of `frames`.
use Rattle.std.specs.Prelude.{◌≡◌, Bool, cond, List, ℕ, ◌+◌, ◌-◌, ◌*◌, length, take, replicate, Result, Ok, Err, ⊤}
use Rattle.std.proofs.Math.Option.{Option, none, some}
use Rattle.std.specs.Float.{binary64}
use Rattle.std.specs.Float.Ieee.{to_bits}
use Rattle.std.proofs.lemmas.List.Edits.{sets}
use Rattle.piece.specs.declared.insertion_option.OfferList.{OfferList}
use Rattle.piece.specs.Sides.{area}
use Rattle.tree.specs.Tree.{count}
use Rattle.tree.specs.Figures.{part_area, sheet_usage}
use Rattle.marks.specs.declared.Mark.{Mark}
use Rattle.marks.specs.declared.Refusal.TheVariants.{NotSound}
use Rattle.booking.specs.declared.new_marks.NewMarks.{NewMarks}
use Rattle.layout.specs.declared.layout.Layout.{Layout}
use Rattle.marks.specs.declared.Refusal.{Refusal}
use Rattle.layout.specs.declared.open.Opened.{Opened}
use Rattle.layout.specs.declared.insert.Inserted.{Inserted}
use Rattle.layout.specs.declared.remove.Removed.{Removed}
use Rattle.layout.specs.declared.restore.Restored.{Restored}
use Rattle.layout.specs.Check.{limit, tree, sound_b}
use Rattle.layout.specs.Zero.{zero_layout}
use Rattle.layout.specs.Open.{open_of}
use Rattle.layout.specs.Insert.{InsertSays}
use Rattle.layout.specs.Remove.{RemoveSays, numbers_out}
use Rattle.layout.specs.Restore.{restore_of}
use Rattle.questions.specs.Answers.{offers_call}
use Rattle.frames.specs.declared.Ask.TheVariants.{Open, Offers, Insert, Remove, Report}
use Rattle.frames.specs.declared.Request.{Request}
use Rattle.frames.specs.declared.Request.TheVariants.{OfLayout, Keep, Restore, Malformed}
use Rattle.frames.specs.Answers.{Answer, refused, opened, offered, inserted, removed, done, reported, malformed, answer_line}
use Rattle.session.specs.declared.Session.{Session}
use Rattle.session.specs.declared.Stepped.{Stepped}
use Rattle.session.specs.declared.replies.Said.{Said}

abbrev pub started : Session
started = record { layout = zero_layout; kept = zero_layout }

abbrev pub with_layout : Session → Layout → Session
with_layout s l = record { layout = l; kept = s.kept }

-- the state afterwards, and the answer
pub record Reply : Type 0 where
  pub session : Session
  pub answer : Answer

abbrev pub reply : Session → Answer → Reply
reply s a = record { session = s; answer = a }

-- the op's answer where the call accepts, and its refusal where it does not
abbrev pub answer_by : ℕ → Answer → Result ⊤ Refusal → Answer
answer_by op a (Ok tt) = a
answer_by op a (Err e) = refused op e

-- a refused opening: "`counter` then keeps what it had"; the kept layout outlives openings
abbrev pub opened_by : Session → Layout → Result Mark Refusal → Reply
opened_by s l (Ok m) = reply (with_layout s l) (opened m)
opened_by s l (Err e) = reply s (refused 1 e)

unfoldable pub after_open : Session → Opened → Reply
after_open s o = opened_by s o.layout o.outcome

-- "count; rotation and shape each"
abbrev pub offers_said : OfferList → Answer
offers_said o = offered (take o.count o.list)

abbrev pub offers_by : Result OfferList Refusal → Answer
offers_by (Ok o) = offers_said o
offers_by (Err e) = refused 2 e

unfoldable pub after_offers : Session → Result OfferList Refusal → Reply
after_offers s o = reply s (offers_by o)

-- "marks of first node and part; count; free marks in creation order"
abbrev pub marks_said : NewMarks → Answer
marks_said n = inserted n.first n.part (take n.count n.frees)

unfoldable pub after_insert : Session → Inserted → Reply
after_insert s i = reply (with_layout s i.layout) (answer_by 3 (marks_said i.marks) i.outcome)

-- "new free mark; count; part numbers"
abbrev pub numbers_said : Session → Mark → Removed → Answer
numbers_said s m r = removed r.free (numbers_out s.layout m.place)

unfoldable pub after_remove : Session → Mark → Removed → Reply
after_remove s m r = reply (with_layout s r.layout) (answer_by 4 (numbers_said s m r) r.outcome)

-- "keep is refused with 1 on a layout that isn't sound"
abbrev pub kept_by : Session → Bool → Reply
kept_by s sound = cond sound (reply (record { layout = s.layout; kept = s.layout }) (done 5)) (reply s (refused 5 NotSound))

unfoldable pub after_keep : Session → Reply
after_keep s = kept_by s (sound_b s.layout)

-- the kept layout outlives restores
unfoldable pub after_restore : Session → Restored → Reply
after_restore s r = reply (with_layout s r.layout) (answer_by 6 (done 6) r.outcome)

-- "used area 8, nodes 1, sheet usage bits 8"
abbrev pub figures : Layout → Answer
figures l =
    reported (part_area (tree l)) (count (tree l)) (to_bits binary64 (sheet_usage (part_area (tree l)) (area l.settings.sheet)))

abbrev pub report_by : Layout → Bool → Answer
report_by l sound = cond sound (figures l) (refused 7 NotSound)

unfoldable pub after_report : Session → Reply
after_report s = reply s (report_by s.layout (sound_b s.layout))

-- THE RULE: the request q, in the state s, gives the state t and the answer a
unfoldable pub Answers : Session → Request → Session → Answer → Type 0
Answers s (OfLayout (Open o)) t a = reply t a ≡ after_open s (open_of o)
Answers s (OfLayout (Offers mark part)) t a = reply t a ≡ after_offers s (offers_call s.layout mark part)
Answers s (OfLayout (Insert mark part rotation shape)) t a =
    (i : Inserted) × InsertSays s.layout mark part rotation shape i × (reply t a ≡ after_insert s i)
Answers s (OfLayout (Remove mark)) t a = (r : Removed) × RemoveSays s.layout mark limit r × (reply t a ≡ after_remove s mark r)
Answers s (OfLayout Report) t a = reply t a ≡ after_report s
Answers s Keep t a = reply t a ≡ after_keep s
Answers s Restore t a = reply t a ≡ after_restore s (restore_of s.layout s.kept)
Answers s Malformed t a = reply t a ≡ reply s malformed

-- the op of a request that looks at the layout: all but an opening, and what is malformed ("before all others")
abbrev pub op_of : Request → Option ℕ
op_of (OfLayout (Open o)) = none
op_of (OfLayout (Offers mark part)) = some 2
op_of (OfLayout (Insert mark part rotation shape)) = some 3
op_of (OfLayout (Remove mark)) = some 4
op_of (OfLayout Report) = some 7
op_of Keep = some 5
op_of Restore = some 6
op_of Malformed = none

-- the characters of the longest answer, with its newline: a removal of all nodes but two, which are the top and the structure that goes
abbrev pub longest : ℕ
longest = 23 + 4 * (limit - 2)

-- an answer's line as the code holds it: zero past its newline
abbrev pub padded_line : Answer → List ℕ
padded_line a = sets (replicate longest 0) 0 (answer_line a)

-- the answer a, as a line
pub record Says (a : Answer) (r : Said) : Type 0 where
  pub count : r.count ≡ length (answer_line a)
  pub written : take r.count r.line ≡ answer_line a
  pub padded : r.line ≡ padded_line a

-- what the request q, in the state s, gives
pub record Steps (s : Session) (q : Request) (r : Stepped) : Type 0 where
  pub answer : Answer
  pub answers : Answers s q r.session answer
  pub count : r.count ≡ length (answer_line answer)
  pub written : take r.count r.line ≡ answer_line answer
  pub padded : r.line ≡ padded_line answer
