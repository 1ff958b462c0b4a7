-- Every answer that is written adds to 0 and reads back. Rests on Laws.
use Rattle.std.proofs.Common.{◌≡◌, ℕ, ◌%◌, ◌<◌, List, [], ◌∷◌, arith}
use Rattle.piece.specs.declared.insertion_option.Offer.{Offer}
use Rattle.piece.proofs.Numbers.{rotation-small, shape-small}
use Rattle.marks.specs.declared.Refusal.{Refusal}
use Rattle.marks.specs.declared.Refusal.TheVariants.{NotSound, OpeningOutside, PartOutside, OtherLayout, Gone, NotFree, NotOffered, TheTop}
use Rattle.marks.specs.declared.Refusal.TheVariants.{FreePiece, TooManyNodes, SerialsSpent, PastTheEnd, BufferTooShort, Malformed as BadFrame}
use Rattle.marks.specs.Refusals.{refusal_no}
use Rattle.frames.specs.Bytes.{pairs, chars_of, total, framed, two}
use Rattle.frames.specs.Fields.{mark_bytes}
use Rattle.frames.specs.Answers.{Answer, refused, opened, offered, inserted, removed, done, reported, malformed, each, offer_bytes, content_of}
use Rattle.frames.specs.Answers.{answer_bytes}
use Rattle.frames.specs.Ranges.{Each, none, more, AnswerFits}
use Rattle.frames.proofs.Laws.{framed-adds, pairs-chars, AreBytes, no_bytes, then, join, are-two, are-eight, are-framed}
use Rattle.frames.proofs.Forms.{are-mark}

pub answer-adds : (a : Answer) → total (answer_bytes a) % 256 ≡ 0
answer-adds a = framed-adds (content_of a)

pub refusal-small : (r : Refusal) → refusal_no r < 256
refusal-small NotSound = omega arith
refusal-small OpeningOutside = omega arith
refusal-small PartOutside = omega arith
refusal-small OtherLayout = omega arith
refusal-small Gone = omega arith
refusal-small NotFree = omega arith
refusal-small NotOffered = omega arith
refusal-small TheTop = omega arith
refusal-small FreePiece = omega arith
refusal-small TooManyNodes = omega arith
refusal-small SerialsSpent = omega arith
refusal-small PastTheEnd = omega arith
refusal-small BufferTooShort = omega arith
refusal-small BadFrame = omega arith

pub are-each : {A : Type 0} {P : A → Type 0} (bytes : A → List ℕ)
    → ((x : A) → P x → AreBytes (bytes x)) → {xs : List A} → Each P xs → AreBytes (each bytes xs)
unfolding each
are-each bytes ok none = no_bytes
are-each bytes ok (more {x} {xs} p ps) = join (ok x p) (are-each bytes ok ps)

are-offers : (os : List Offer) → AreBytes (each offer_bytes os)
unfolding each
are-offers [] = no_bytes
are-offers (o ∷ os) = then (rotation-small o.rotation) (then (shape-small o.shape) (are-offers os))

-- an op and a number before further bytes
pub begun : {op n : ℕ} {bs : List ℕ} → op < 256 → n < 256 → AreBytes bs → AreBytes (op ∷ n ∷ bs)
begun h k e = then h (then k e)

are-content : (a : Answer) → AnswerFits a → AreBytes (content_of a)
unfolding content_of
are-content (refused op r) f = begun (omega arith) (refusal-small r) no_bytes
are-content (opened m) f = begun (omega arith) (omega arith) (are-mark m f)
are-content (offered os) f = begun (omega arith) (omega arith) (then (omega arith) (are-offers os))
are-content (inserted m p ms) f =
    begun (omega arith) (omega arith)
    (join (are-mark m f.0) (join (are-mark p f.1) (then (omega (arith, f.2)) (are-each mark_bytes are-mark f.3))))
are-content (removed m ns) f =
    begun (omega arith) (omega arith) (join (are-mark m f.0) (then (omega (arith, f.1)) (are-each two are-two f.2)))
are-content (done op) f = begun (omega arith) (omega arith) no_bytes
are-content (reported used nodes bits) f =
    begun (omega arith) (omega arith) (join (are-eight used f.0) (then (omega arith) (are-eight bits f.2)))
are-content malformed f = begun (omega arith) (omega arith) no_bytes

-- the line of any content that is made of bytes
pub content-back : {bs : List ℕ} → AreBytes bs → pairs (chars_of (framed bs)) ≡ framed bs
content-back {bs} e = pairs-chars (framed bs) (are-framed e).tested

pub answer_back : (a : Answer) → AnswerFits a → pairs (chars_of (answer_bytes a)) ≡ answer_bytes a
answer_back a f = content-back (are-content a f)
