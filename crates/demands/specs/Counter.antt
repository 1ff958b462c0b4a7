-- Demand 1 at the counter. People have no layout in hand: they send lines and get answers, and a mark is what an answer has written. Here is what its
-- law is said with: the marks and the openings of answers, the life that the counter's state stands in (Life.antt), and the refusal of a mark.
--
-- From an accepted opening to the next the layout lives one life, if what is kept is of that life or can't be put back. What was kept before outlives an
-- opening; where it has another number, or isn't sound, restore refuses it (4, 1) until keep has put a state of this life in its place. So the law asks
-- one thing only of a mark: that its number was opened once. A second opening of the same number starts the serials at 1 again: its first mark is that of
-- the first opening, and what is kept of the first can be put back on the second (proofs/Reopened.antt).
use Rattle.std.specs.Prelude.{◌≡◌, true, false, ◌⊎◌, ℕ}
use mathlib.Core.List.{List, [], ◌∷◌, ◌++◌, Memᴰ}
use Rattle.piece.specs.declared.rotation.Rotation.{Rotation}
use Rattle.piece.specs.declared.parttype.PartType.{PartType}
use Rattle.piece.specs.declared.insertion_blueprint.InsertionShape.{InsertionShape}
use Rattle.marks.specs.declared.Mark.{Mark}
use Rattle.marks.specs.declared.Refusal.{Refusal}
use Rattle.marks.specs.declared.Refusal.TheVariants.{OtherLayout, Gone}
use Rattle.layout.specs.declared.layout.Layout.{Layout}
use Rattle.layout.specs.Check.{sound_b}
use Rattle.layout.specs.Asked.{part_b}
use Rattle.frames.specs.declared.Ask.TheVariants.{Offers, Insert, Remove}
use Rattle.frames.specs.declared.Request.{Request}
use Rattle.frames.specs.declared.Request.TheVariants.{OfLayout}
use Rattle.frames.specs.Answers.{Answer, refused, opened, offered, inserted, removed, done, reported, malformed}
use Rattle.session.specs.declared.Session.{Session}
use Rattle.session.specs.Session.{Answers}
use Rattle.demands.specs.Life.{OneOf, Life, NamesPiece, SamePiece}

-- ---- answers

-- the marks that an answer writes: "mark of the free piece"; "marks of first node and part; .. free marks"; "new free mark"
abbrev pub marks_written : Answer → List Mark
marks_written (refused op e) = []
marks_written (opened m) = m ∷ []
marks_written (offered os) = []
marks_written (inserted first part frees) = first ∷ part ∷ frees
marks_written (removed m numbers) = m ∷ []
marks_written (done op) = []
marks_written (reported used nodes bits) = []
marks_written malformed = []

-- a refusal; a malformed line gets one too
abbrev pub Declines : Answer → Type 0
Declines (refused op e) = Unit
Declines (opened m) = ⊥
Declines (offered os) = ⊥
Declines (inserted first part frees) = ⊥
Declines (removed m numbers) = ⊥
Declines (done op) = ⊥
Declines (reported used nodes bits) = ⊥
Declines malformed = Unit

-- each of these answers is one
abbrev pub AllDecline : List Answer → Type 0
AllDecline [] = Unit
AllDecline (x ∷ xs) = Declines x × AllDecline xs

-- the number of the layout, if the answer accepts an opening
abbrev pub opens : Answer → List ℕ
opens (refused op e) = []
opens (opened m) = m.layout ∷ []
opens (offered os) = []
opens (inserted first part frees) = []
opens (removed m numbers) = []
opens (done op) = []
opens (reported used nodes bits) = []
opens malformed = []

-- the numbers that have been opened, in order
abbrev pub openings : List Answer → List ℕ
openings [] = []
openings (x ∷ xs) = opens x ++ openings xs

-- the number was opened at most once: where it stands, it doesn't stand again
abbrev pub OpenedOnce : ℕ → List ℕ → Type 0
OpenedOnce n [] = Unit
OpenedOnce n (m ∷ ms) = (m ≡ n → Memᴰ n ms → ⊥) × OpenedOnce n ms

-- ---- the life of what stands at the counter

-- k can't be put back on a layout of this number: refusal 1, or refusal 4
abbrev pub Stale : ℕ → Layout → Type 0
Stale number k = (sound_b k ≡ false) ⊎ (k.number ≡ number → ⊥)

-- the layout is the newest state of a life, the earlier ones being these, and what is kept is a state of that life or can't be put back
pub record Lives (s : Session) (earlier : List Layout) : Type 0 where
  pub life : Life (s.layout ∷ earlier)
  pub kept : OneOf s.kept (s.layout ∷ earlier) ⊎ Stale s.layout.number s.kept

-- the life goes on from s to t: each of its states is one of t's
pub record GoesOn (s : Session) (earlier : List Layout) (t : Session) : Type 0 where
  pub then : List Layout
  pub lives : Lives t then
  pub holds : (l : Layout) → OneOf l (s.layout ∷ earlier) → OneOf l (t.layout ∷ then)

-- ---- a mark that was written

-- the requests that carry the mark, by their op; a part has sides in the domain, since refusal 3 comes first
pub data Carries (k : Mark) : ℕ → Request → Type 0 where
  offers_on : (p : PartType) → part_b p ≡ true → Carries k 2 (OfLayout (Offers k p))
  insert_in : (p : PartType) (r : Rotation) (s : InsertionShape) → part_b p ≡ true → Carries k 3 (OfLayout (Insert k p r s))
  remove_of : Carries k 4 (OfLayout (Remove k))

-- each of them is refused with e, and changes nothing
pub record Refuses (e : Refusal) (s : Session) (k : Mark) : Type 0 where
  pub refuses : (op : ℕ) (q : Request) → Carries k op q → Answers s q s (refused op e)
  pub only : (op : ℕ) (q : Request) → Carries k op q → (t : Session) (a : Answer) → Answers s q t a → (t ≡ s) × (a ≡ refused op e)

-- what has become, in the state v, of a mark that was written in the state u, ys being the answers since then
pub data Lasts (u : Session) (ys : List Answer) (v : Session) (k : Mark) : Type 0 where
  -- it names the piece that it was written for
  names : NamesPiece v.layout k → SamePiece u.layout v.layout k → Lasts u ys v k
  -- the piece is gone: refusal 5
  gone : Refuses Gone v k → Lasts u ys v k
  -- another layout was opened since: refusal 4
  elsewhere : (openings ys ≡ [] → ⊥) → Refuses OtherLayout v k → Lasts u ys v k
