-- THE THREE DEMANDS, as theorems over the calls of a layout and over the lines of the counter; and the stronger swap law and the laws of tidying, which
-- document 02 adds. Read this first, with document 01 at hand. The words are in specs/Life.antt (the life of a layout, what a mark names), specs/Calls.antt
-- (an accepted call, the same tree), specs/Orders.antt and specs/Clerks.antt (lists of steps, which are apart, other orders; as lines at the counter),
-- specs/Examined.antt (what each call answers to a layout that isn't sound), specs/Counter.antt (the counter's answers) and specs/Desk.antt (the desk's). A
-- call is given by its contract alone, so what is said holds of every program that meets it; each contract has one answer (UniqueAnswers, SomeAnswer). `Sized`
-- is what the type of a layout says: its arrays have as many entries as there are places. Nothing is assumed.
use mathlib.Core.Path.{◌≡◌, refl}
use mathlib.Core.List.{List, [], ◌∷◌, ◌++◌, Memᴰ}
use mathlib.Core.Logic.{◌↔◌, ◌⊎◌}
use mathlib.Core.Option.{none, some}
use mathlib.Core.Bool.{false, true}
use Prim.Native.Nat.{ℕ}
use lib.ListN.{length}
use Rattle.std.specs.Prelude.{Err}
use Rattle.piece.specs.declared.rotation.Rotation.{Rotation}
use Rattle.piece.specs.declared.parttype.PartType.{PartType}
use Rattle.piece.specs.declared.node.Datum.{Datum}
use Rattle.piece.specs.declared.node.Kind.TheVariants.{Part}
use Rattle.piece.specs.declared.insertion_blueprint.InsertionShape.{InsertionShape}
use Rattle.piece.specs.declared.settings.Opening.{Opening}
use Rattle.tree.specs.Tree.{At, Inside}
use Rattle.tree.specs.Family.{parent_of}
use Rattle.tree.specs.Figures.{part_area}
use Rattle.tree.specs.Tidy.{Tidy, empties}
use Rattle.marks.specs.Marks.{zero_mark}
use Rattle.booking.specs.Marks.{zero_marks}
use Rattle.marks.specs.declared.Mark.{Mark}
use Rattle.marks.specs.declared.Refusal.{Refusal}
use Rattle.marks.specs.declared.Refusal.TheVariants.{Gone, SerialsSpent, TooManyNodes}
use Rattle.layout.specs.declared.layout.Layout.{Layout}
use Rattle.layout.specs.declared.insert.Inserted.{Inserted}
use Rattle.layout.specs.declared.remove.Removed.{Removed}
use Rattle.layout.specs.declared.tidy.Tidied.{Tidied}
use Rattle.layout.specs.Check.{limit, tree, sound_b}
use Rattle.layout.specs.SoundLayout.{Sized, SoundLayout}
use Rattle.layout.specs.Zero.{zero_layout}
use Rattle.layout.specs.Open.{open_of}
use Rattle.layout.specs.Asked.{part_b, sought_of}
use Rattle.layout.specs.Insert.{InsertSays, insert_no, piece_at}
use Rattle.layout.specs.Remove.{RemoveSays, numbers_left, numbers_out, remove_no}
use Rattle.layout.specs.Tidy.{Tidies, TidySays, tidy_no}
use Rattle.layout.specs.Restore.{restore_of}
use Rattle.layout.proofs.Refusals as refusals
use Rattle.questions.specs.Answers.{offers_call}
use Rattle.questions.specs.Written.{answer_to, left_in_buffer}
use Rattle.questions.proofs.Refusals as looking
use Rattle.questions.specs.WhyNot.{why_call}
use Rattle.lines.specs.Text.{Line}
use Rattle.frames.specs.declared.Request.{Request}
use Rattle.frames.specs.declared.Ask.TheVariants.{Open}
use Rattle.frames.specs.declared.Request.TheVariants.{OfLayout}
use Rattle.frames.specs.Answers.{Answer, opened, refused}
use Rattle.session.specs.declared.Session.{Session}
use Rattle.session.specs.Session.{Answers, started}
use Rattle.session.specs.Listener.{Runs}
use Rattle.session.specs.Replies.{refusal}
use Rattle.desk_frames.specs.declared.DeskRequest.{DeskRequest}
use Rattle.desk_frames.specs.Desk.{DeskAnswer, DeskAnswers}
use Rattle.desk_frames.specs.Listener.{DeskRuns, counter_answers}
use Rattle.demands.specs.Life.{Given, Later, Life, NamesPiece, OneOf, SamePiece, opened_on, stock}
use Rattle.demands.specs.Calls.{AreasCover, InsertAccepted, RemoveAccepted, SameTree, TakenOut, TidyAccepted}
use Rattle.demands.specs.Orders.{AllAccepted, Apart, Each, Naming, OnlyEight, OnlyEightOrNine, Pairwise, RemovalsFirst, Reordered, Step, place_of, refusal_of}
use Rattle.demands.specs.Clerks.{AllWork, steps_in, steps_of}
use Rattle.demands.specs.Examined.{Examined}
use Rattle.demands.specs.Counter.{Lasts, Lives, OpenedOnce, marks_written, openings}
use Rattle.demands.specs.Desk.{WritesMark}
use Rattle.demands.proofs.Desk as desk
use Rattle.demands.proofs.Lives as lives
use Rattle.demands.proofs.Marks as marks
use Rattle.demands.proofs.MarksGiven as given
use Rattle.demands.proofs.Counter as counter
use Rattle.demands.proofs.Reopened as reopened
use Rattle.demands.proofs.BookedThenRemoved as booked
use Rattle.demands.proofs.Swaps as swaps
use Rattle.demands.proofs.EveryOrder as orders
use Rattle.demands.proofs.NothingButEight as eight
use Rattle.demands.proofs.RemovalsFirst as front
use Rattle.demands.proofs.Clerks as clerks
use Rattle.demands.proofs.Tidying as tidying
use Rattle.demands.proofs.Areas as areas
use Rattle.demands.proofs.Throughout as throughout
use Rattle.demands.proofs.Examined as examined

-- ---- Demand 1, marks: "Over the life of one layout, opened once and put back only to earlier states of itself, a mark names the piece it was issued
-- for or is refused as gone."

-- k is the state in which the mark was answered, l that state or a later one
pub a-mark-names-its-piece-or-is-gone : {ls : List Layout} → Life ls → (k l : Layout) → Later k l ls → (m : Mark) → Given k m
    → (sought_of l m ≡ Err Gone) ⊎ (NamesPiece l m × SamePiece k l m)
a-mark-names-its-piece-or-is-gone life k l later m g = marks.marks-last life k l later m (given.given-names life k l later m g)

-- "refused as gone": refusal 5, by each call that takes a mark, unless the part asked for is refused first (3)
pub gone-is-refused : {ls : List Layout} → Life ls → (l : Layout) → OneOf l ls → (m : Mark) → sought_of l m ≡ Err Gone
    → ((p : PartType) → part_b p ≡ true → offers_call l m p ≡ Err Gone)
    × ((p : PartType) → part_b p ≡ true → why_call l m p ≡ Err Gone)
    × ((p : PartType) (r : Rotation) (s : InsertionShape) → part_b p ≡ true → insert_no l m p r s ≡ some Gone)
    × ((room : ℕ) → remove_no l m room ≡ some Gone)
gone-is-refused life l o m g =
    (marks.gone-offers life l o m g, marks.gone-why-not life l o m g, marks.gone-insert life l o m g, marks.gone-remove life l o m g)

-- no serial is issued twice: two pieces of any two states with the same serial are one piece, at one place, under one parent
pub a-serial-is-issued-once : {ls : List Layout} → Life ls → (k l : Layout) → OneOf k ls → OneOf l ls
    → (i j : ℕ) (d e : Datum) → At i d (tree k) → At j e (tree l) → d.serial ≡ e.serial
    → (i ≡ j) × (d ≡ e) × (parent_of limit i (tree k) ≡ parent_of limit j (tree l))
    × (piece_at k (parent_of limit i (tree k)) ≡ piece_at l (parent_of limit j (tree l)))
a-serial-is-issued-once = lives.one_piece

-- every state of a life is sound
pub a-life-is-sound : {ls : List Layout} → Life ls → (l : Layout) → OneOf l ls → SoundLayout l × Sized l
a-life-is-sound = lives.states-sound

-- ---- Demand 1, at the counter: people send lines and have only what the answers say. The words are in specs/Counter.antt. (The same of an input in chunks:
-- `marks-last-in-chunks`, proofs/Counter.antt; what a second opening does: proofs/Reopened.antt.)

-- from its start a run of the counter, over any lines, is a life of the layout that stands, if that number was opened once; or nothing was opened
pub a-run-is-a-life : {t : Session} {lines : List Line} {xs : List Answer} → Runs started lines xs t
    → OpenedOnce t.layout.number (openings xs) → (openings xs ≡ []) ⊎ ((earlier : List Layout) × Lives t earlier)
a-run-is-a-life = counter.a-run-is-a-life

-- k is a mark that the answer a has written, v any later state: k names its piece, or is refused with 5, or, once another layout was opened, with 4
pub a-mark-at-the-counter : {t u v : Session} {before after : List Line} {xs ys : List Answer} → Runs started before xs t
    → (q : Request) (a : Answer) → Answers t q u a → Runs u after ys v
    → (k : Mark) → Memᴰ k (marks_written a) → OpenedOnce k.layout (openings (xs ++ (a ∷ ys))) → Lasts u ys v k
a-mark-at-the-counter = counter.marks-last-at-the-counter

-- the same of a run at the desk, in which lines may tidy
pub a-desk-run-is-a-life : {t : Session} {lines : List Line} {xs : List DeskAnswer} → DeskRuns started lines xs t
    → OpenedOnce t.layout.number (openings (counter_answers xs)) → (openings (counter_answers xs) ≡ []) ⊎ ((earlier : List Layout) × Lives t earlier)
a-desk-run-is-a-life = desk.a-desk-run-is-a-life

-- and of a mark there: the desk's questions write marks too, the light's and those of the two lists
pub a-mark-at-the-desk : {t u v : Session} {before after : List Line} {xs ys : List DeskAnswer} → DeskRuns started before xs t
    → (q : DeskRequest) (a : DeskAnswer) → DeskAnswers t q u a → DeskRuns u after ys v
    → (k : Mark) → WritesMark k t q a → OpenedOnce k.layout (openings (counter_answers (xs ++ (a ∷ ys)))) → Lasts u (counter_answers ys) v k
a-mark-at-the-desk = desk.marks-last-at-the-desk

-- a second opening of the number answers the same mark, and it names a piece of the new sheet: so the law is of a number that was opened once
pub a-second-opening : (s t u v : Session) (o : Opening) (m : Mark) → Answers s (OfLayout (Open o)) t (opened m)
    → (o' : Opening) (m' : Mark) → o'.number ≡ o.number → Answers u (OfLayout (Open o')) v (opened m')
    → (m' ≡ m) × NamesPiece v.layout m × (SamePiece t.layout v.layout m → o'.settings.sheet ≡ o.settings.sheet)
a-second-opening = reopened.the_same_number

-- ---- Demand 1, answers: "A refusal gives its number, the layout as it came, lent memory untouched." (Every call ends with an answer on every input: its
-- proof asks nothing of the caller.)

pub a-refused-insert : (l : Layout) (m : Mark) (p : PartType) (r : Rotation) (s : InsertionShape) (a : Inserted) (e : Refusal)
    → insert_no l m p r s ≡ some e → InsertSays l m p r s a → (a.layout ≡ l) × (a.outcome ≡ Err e) × (a.marks ≡ zero_marks)
a-refused-insert l m p r s a e h says = rw (refusals.refused-insert l m p r s a e h says) (refl, refl, refl)

pub a-refused-remove : (l : Layout) (m : Mark) (room : ℕ) (a : Removed) (e : Refusal) → remove_no l m room ≡ some e → RemoveSays l m room a
    → (a.layout ≡ l) × (a.outcome ≡ Err e) × (a.free ≡ zero_mark) × (a.count ≡ 0)
a-refused-remove l m room a e h says = rw (refusals.refused-remove l m room a e h says) (refl, refl, refl, refl)

pub its-buffer : (l : Layout) (m : Mark) (out : List ℕ) (e : Refusal) → remove_no l m (length out) ≡ some e → numbers_left l m out ≡ out
its-buffer = refusals.refused-numbers

pub a-refused-tidy : (l : Layout) (a : Tidied) (e : Refusal) → tidy_no l ≡ some e → TidySays l a → (a.layout ≡ l) × (a.outcome ≡ Err e) × (a.count ≡ 0)
a-refused-tidy l a e h says = rw (refusals.refused-tidy l a e h says) (refl, refl, refl)

pub a-refused-restore : (l s : Layout) (e : Refusal) → (restore_of l s).outcome ≡ Err e → (restore_of l s).layout ≡ l
a-refused-restore = refusals.refused-restore

pub a-refused-opening : (o : Opening) (e : Refusal)
    → (open_of o).outcome ≡ Err e → (open_of o).layout ≡ zero_layout
a-refused-opening = refusals.refused-open

-- the calls that write into a lent buffer and hand no layout back, by what each writes: `snapshot_bytes l`, `held_numbers l`, `saw_bytes l` and `amount_bytes l`
pub a-refused-writing : (l : Layout) (what out : List ℕ) (e : Refusal) → answer_to l what (length out) ≡ Err e → left_in_buffer l what out ≡ out
a-refused-writing = looking.refused-writing

-- "examines the layout it is handed first": specs/Examined.antt lists what every public call answers to a layout that isn't sound, refusal 1
pub examined-first : (l : Layout) → sound_b l ≡ false → Examined l
examined-first = examined.examined-first

-- ---- Demand 3: "On every sound layout, booking and then removing the first piece made gives the same tree; two bookings in different free pieces, and two
-- removals neither inside the other, commute." An accepted call says that the layout is sound.

pub booking-and-removing : (l : Layout) → Sized l → (m : Mark) (p : PartType) (r : Rotation) (s : InsertionShape) (a : Inserted) (room : ℕ) (c : Removed)
    → InsertAccepted l m p r s a → RemoveAccepted a.layout a.marks.first room c → SameTree c.layout l
booking-and-removing = booked.booked-then-removed

-- Where one order of two calls is accepted, and the second mark names a piece before the first of them, the other order is accepted too and gives the
-- same tree: of every answer that meets the contract, and there is one (SomeAnswer) and no other (UniqueAnswers). That the pieces are different, and
-- the second not inside the first, follows: else its mark would be gone.
pub bookings-commute : (l : Layout) → Sized l → (m : Mark) (p : PartType) (r : Rotation) (s : InsertionShape)
    (m' : Mark) (p' : PartType) (r' : Rotation) (s' : InsertionShape) → NamesPiece l m' → (a b c d : Inserted)
    → InsertAccepted l m p r s a → InsertAccepted a.layout m' p' r' s' b
    → InsertSays l m' p' r' s' c → InsertSays c.layout m p r s d
    → InsertAccepted l m' p' r' s' c × InsertAccepted c.layout m p r s d × SameTree b.layout d.layout
bookings-commute = swaps.inserts-commute

pub removals-commute : (l : Layout) → Sized l → (m m' : Mark) → NamesPiece l m' → (Inside m'.place m.place (tree l) → ⊥)
    → (room room' : ℕ) (a b c d : Removed) → RemoveAccepted l m room a → RemoveAccepted a.layout m' room' b
    → RemoveSays l m' room' c → RemoveSays c.layout m room d
    → RemoveAccepted l m' room' c × RemoveAccepted c.layout m room d × SameTree b.layout d.layout
removals-commute = swaps.removes-commute

-- "Part area plus free area is the sheet, throughout", and with a blade "part area, free area and eaten area make the sheet". On every sound layout:
pub areas-add-up : (l : Layout) → Sized l → sound_b l ≡ true → AreasCover l l.settings.sheet
areas-add-up = areas.areas-cover-sound

-- and in every state of a life, where the number and the settings, the sheet among them, are those that the opening was asked for
pub areas-throughout : {ls : List Layout} (life : Life ls) (l : Layout) → OneOf l ls → (stock l ≡ opened_on life) × AreasCover l (opened_on life).settings.sheet
areas-throughout = throughout.throughout

-- ---- Document 02, No. 10, the stronger swap law: "Extend demand 3: a booking and a removal also give the same tree in either order where the free piece is
-- neither inside the removed one nor under the same parent." As above one order is accepted, and the second mark names a piece before the first call.

-- The booking first. A removal joins the free piece of its row to what it takes out: so the booking, made last, finds its piece only under another parent.
pub booking-and-removal-commute : (l : Layout) → Sized l → (m : Mark) (p : PartType) (r : Rotation) (s : InsertionShape) (m' : Mark) (room : ℕ)
    → NamesPiece l m' → (Inside m'.place m.place (tree l) → ⊥) → (parent_of limit m.place (tree l) ≡ parent_of limit m'.place (tree l) → ⊥)
    → (a : Inserted) (b c : Removed) (d : Inserted) → InsertAccepted l m p r s a → RemoveAccepted a.layout m' room b
    → RemoveSays l m' room c → InsertSays c.layout m p r s d
    → RemoveAccepted l m' room c × InsertAccepted c.layout m p r s d × SameTree b.layout d.layout
booking-and-removal-commute = swaps.insert-remove

-- The removal first. That the two are apart follows: else the mark of the free piece would be gone. But a removal makes room, so the booking, made first, may
-- be refused with 8.
pub removal-and-booking-commute : (l : Layout) → Sized l → (m : Mark) (p : PartType) (r : Rotation) (s : InsertionShape) (m' : Mark) (room : ℕ)
    → NamesPiece l m → (a : Removed) (b c : Inserted) (d : Removed) → RemoveAccepted l m' room a → InsertAccepted a.layout m p r s b
    → InsertSays l m p r s c → RemoveSays c.layout m' room d
    → (c.outcome ≡ Err TooManyNodes)
    ⊎ (InsertAccepted l m p r s c × RemoveAccepted c.layout m' room d × SameTree b.layout d.layout)
removal-and-booking-commute = swaps.remove-insert

-- "Hence a list of bookings and removals, each naming a piece of the layout the list starts from and pairwise apart there in this sense, gives the same tree in
-- every order in which every call is accepted." (Tidying is no step of such a list; marks, the two lists and the piece that the light names can differ.)
pub the-same-tree-in-every-order : (l : Layout) → Sized l → (ss ts : List Step) → Reordered ss ts → Naming l ss → Pairwise (Apart l) ss
    → (n k : Layout) → AllAccepted l ss n → AllAccepted l ts k → SameTree n k
the-same-tree-in-every-order l sized ss ts r named apart = orders.same-tree l sized ss ts r named

-- Of two accepted orders it is so without "apart": where two steps are not, the one that must come first comes first in both.
pub two-accepted-orders-agree : (l : Layout) → Sized l → (ss ts : List Step) → Reordered ss ts → Naming l ss → (n k : Layout) → AllAccepted l ss n
    → AllAccepted l ts k → SameTree n k
two-accepted-orders-agree = orders.same-tree

-- What being apart buys is that the other orders are accepted, but for 8: if one order is accepted, then a step of any other order, after steps that were
-- accepted, is refused with nothing but 8.
pub in-another-order-eight-alone : (l : Layout) → Sized l → (ss : List Step) → Naming l ss → Pairwise (Apart l) ss → (n : Layout) → AllAccepted l ss n
    → (before : List Step) (s : Step) (after : List Step) → Reordered ss (before ++ (s ∷ after)) → (k : Layout) → AllAccepted l before k
    → OnlyEight (refusal_of k s)
in-another-order-eight-alone l sized ss named apart n run before s after r k part = eight.only-eight sized named apart run before s after r part

-- and with the removals first it isn't refused at all: that order is accepted, step by step, whenever some order is (that each call has an answer: SomeAnswer)
pub removals-first-is-accepted : (l : Layout) → Sized l → (ss : List Step) → Naming l ss → Pairwise (Apart l) ss → (n : Layout) → AllAccepted l ss n
    → (before : List Step) (s : Step) (after : List Step) → Reordered ss (before ++ (s ∷ after)) → RemovalsFirst (before ++ (s ∷ after))
    → (k : Layout) → AllAccepted l before k → refusal_of k s ≡ none
removals-first-is-accepted l sized ss named apart n run before s after r order k part =
    front.removals-first sized named apart run before after s r part order

-- Whether or not some order is accepted: a step that l itself refuses with nothing but 8 or 9 is refused with nothing but 8 or 9 after any accepted steps that
-- are apart from it; and, if it is a removal, it brings the same part numbers out.
pub apart-refused-with-eight-or-nine : (l : Layout) → Sized l → (ss : List Step) → Naming l ss → (s : Step) → Each (Apart l s) ss → (k : Layout)
    → AllAccepted l ss k → OnlyEightOrNine (refusal_of l s)
    → OnlyEightOrNine (refusal_of k s) × (numbers_out k (place_of s) ≡ numbers_out l (place_of s))
apart-refused-with-eight-or-nine l sized ss named s apart k run = eight.only-eight-or-nine sized named s apart run

-- The same at the counter, where the clerks send lines; the words are in specs/Clerks.antt. From the state s two runs of lines open nothing and put nothing back,
-- and no booking or removal in them is refused; they may ask for offers and reports, and keep. If the one has the steps of the other in another order, each
-- naming a piece of the layout that stood at the start, the sheets are the same tree.
pub two-clerks-at-the-counter : (s t u : Session) → Sized s.layout → (lines others : List Line) (xs ys : List Answer) → Runs s lines xs t
    → AllWork lines xs → Runs s others ys u → AllWork others ys → Reordered (steps_in lines) (steps_in others) → Naming s.layout (steps_in lines)
    → SameTree t.layout u.layout
two-clerks-at-the-counter = clerks.clerks-agree

-- And if they are pairwise apart: after lines that have some of the steps, in whatever order, the next one of them is accepted, or it is a booking and refused with 8.
pub a-clerk-is-answered : (s t v w : Session) → Sized s.layout → (lines sofar : List Line) (xs ys : List Answer) → Runs s lines xs t → AllWork lines xs
    → Naming s.layout (steps_in lines) → Pairwise (Apart s.layout) (steps_in lines) → Runs s sofar ys v → AllWork sofar ys
    → (q : Request) (a : Answer) → Answers v q w a → (x : Step) → steps_of q ≡ x ∷ [] → (after : List Step)
    → Reordered (steps_in lines) (steps_in sofar ++ (x ∷ after)) → (refusal a ≡ false) ⊎ (a ≡ refused 3 TooManyNodes)
a-clerk-is-answered = clerks.clerk-answered

-- ---- Document 02, No. 5, tidying: "While some structure other than the top has one child and that is free, it is taken out by the old removal, lowest place
-- first." That is the contract of `tidy` (layout/specs/Tidy.antt), which has one answer on every layout. In the lives of the demands above it is called like
-- the others.

-- It comes to an end, and then the layout is sound and nothing is left to take out. As many went as there were structures, but the top, with no part inside;
-- and the parts have the area that they had.
pub tidying-ends-tidy : (l : Layout) → Sized l → (a : Tidied) → TidyAccepted l a
    → SoundLayout a.layout × Tidy (tree a.layout) × (a.count ≡ empties (tree l)) × (part_area (tree a.layout) ≡ part_area (tree l))
tidying-ends-tidy = tidying.ends-tidy

-- each part stays as it is, where it is, and keeps its mark
pub tidying-leaves-the-parts : (l : Layout) → Sized l → (a : Tidied) → TidyAccepted l a → (m : Mark) → NamesPiece l m → (piece_at l m.place).kind ≡ Part
    → NamesPiece a.layout m × (piece_at a.layout m.place ≡ piece_at l m.place)
tidying-leaves-the-parts = tidying.parts_stay

-- "The tree is the same whichever structure is taken first": n is what is there when the old removal has taken the untidy structures out one by one, in any
-- order, and none is left
pub tidying-in-any-order : (l n : Layout) → Sized l → TakenOut l n → Tidy (tree n) → (a : Tidied) → TidyAccepted l a → SameTree n a.layout
tidying-in-any-order = tidying.any_order

-- and so with any two orders of them, if the layout is sound
pub whichever-is-taken-first : (l n k : Layout) → Sized l → SoundLayout l → TakenOut l n → Tidy (tree n) → TakenOut l k → Tidy (tree k) → SameTree n k
whichever-is-taken-first = tidying.two-orders

-- "For a layout that was tidy before, every call being accepted, booking by any of the four shapes, removing the *part* and tidying gives back the same tree."
pub booking-removing-tidying : (l : Layout) → Sized l → (m : Mark) (p : PartType) (r : Rotation) (s : InsertionShape) (a : Inserted) (room : ℕ) (c : Removed)
    (d : Tidied) → Tidy (tree l) → InsertAccepted l m p r s a → RemoveAccepted a.layout a.marks.part room c → TidyAccepted c.layout d
    → SameTree d.layout l
booking-removing-tidying = tidying.returned

-- "Refusals: 1, then 9 if the whole tidying wouldn't find serials": a sound layout is refused with 9 exactly where no removals, one after the other and each
-- with its serial, come to the end. "and then nothing is changed": `a-refused-tidy`.
pub nine-if-serials-run-out : (l : Layout) → Sized l → sound_b l ≡ true → (tidy_no l ≡ some SerialsSpent) ↔ ((k : ℕ) (n : Layout) → Tidies l k n → ⊥)
nine-if-serials-run-out = tidying.nine-exactly
