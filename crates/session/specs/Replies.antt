-- What a request gives where only the layouts that it has to do with are at hand: the kept one is asked for by restore alone, and keep says whether the
-- layout takes its place. Rests on specs/Session.
use Rattle.std.specs.Prelude.{◌≡◌, Bool, true, false, cond}
use Rattle.layout.specs.declared.layout.Layout.{Layout}
use Rattle.layout.specs.Check.{sound_b}
use Rattle.frames.specs.declared.Ask.{Ask}
use Rattle.frames.specs.declared.Request.{Request}
use Rattle.frames.specs.declared.Request.TheVariants.{OfLayout, Keep, Restore, Malformed}
use Rattle.frames.specs.Answers.{Answer, refused, opened, offered, inserted, removed, done, reported, malformed}
use Rattle.session.specs.declared.Session.{Session}
use Rattle.session.specs.declared.Stepped.{Stepped}
use Rattle.session.specs.declared.replies.Said.{Said}
use Rattle.session.specs.declared.replies.Response.{Response}
use Rattle.session.specs.declared.replies.Keeping.{Keeping}
use Rattle.session.specs.Session.{Answers, Says}

-- what is kept afterwards: keep alone changes it, where the layout is sound
abbrev pub kept_in : Session → Request → Layout
kept_in s (OfLayout ask) = s.kept
kept_in s Keep = cond (sound_b s.layout) s.layout s.kept
kept_in s Restore = s.kept
kept_in s Malformed = s.kept

abbrev pub both : Layout → Layout → Session
both l kept = record { layout = l; kept = kept }

-- the state s, and what is said
abbrev pub step_to : Session → Said → Stepped
step_to s said = record { session = s; line = said.line; count = said.count }

-- an answer that says no: a number, or malformed, which is 14
abbrev pub refusal : Answer → Bool
refusal (refused op e) = true
refusal (opened m) = false
refusal (offered os) = false
refusal (inserted f p ms) = false
refusal (removed m ns) = false
refusal (done op) = false
refusal (reported used nodes bits) = false
refusal malformed = true

-- the layout afterwards, and what is said where the call accepts, and where it refuses
abbrev pub accepted_with : Layout → Said → Response
accepted_with l said = record { layout = l; refused = false; said = said }

abbrev pub refused_with : Layout → Said → Response
refused_with l said = record { layout = l; refused = true; said = said }

-- what is asked of the layout l: whatever is kept, it stays, and the answer is the same
pub record Replies (l : Layout) (ask : Ask) (r : Response) : Type 0 where
  pub answer : Answer
  pub answers : (kept : Layout) → Answers (both l kept) (OfLayout ask) (both r.layout kept) answer
  pub refused : r.refused ≡ refusal answer
  pub says : Says answer r.said

-- keep, at the layout l: where that is sound it takes the place of whatever is kept
pub record Keeps (l : Layout) (r : Keeping) : Type 0 where
  pub sound : r.sound ≡ sound_b l
  pub answer : Answer
  pub answers : (kept : Layout) → Answers (both l kept) Keep (both l (cond (sound_b l) l kept)) answer
  pub says : Says answer r.said

-- restore, at the layout l
pub record Restores (l kept : Layout) (r : Response) : Type 0 where
  pub answer : Answer
  pub answers : Answers (both l kept) Restore (both r.layout kept) answer
  pub refused : r.refused ≡ refusal answer
  pub says : Says answer r.said
