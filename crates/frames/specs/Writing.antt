-- What the functions of `write` leave in the lent buffer: the pen's, field by field, and whole lines. Rests on Bytes and Answers.
use Rattle.std.specs.Prelude.{◌≡◌, ℕ, ◌+◌, ◌-◌, ◌*◌, ◌%◌, List, [], ◌∷◌, ◌++◌, length}
use Rattle.std.proofs.lemmas.List.Edits.{sets}
use Rattle.frames.specs.declared.write.Pen.{Pen}
use Rattle.frames.specs.Bytes.{chars_of, total, framed, line_of_bytes}
use Rattle.frames.specs.Answers.{Answer, content_of}

-- ---- the pen: where it starts; and that bytes are written where it stands, as characters, and nothing else changes, and it moves on and adds them up
abbrev pub fresh_pen : Pen
fresh_pen = record { at = 0; sum = 0 }

pub record Wrote (before : List ℕ) (pen : Pen) (bs after : List ℕ) (next : Pen) : Type 0 where
  pub chars : after ≡ sets before pen.at (chars_of bs)
  pub moved : next.at ≡ pen.at + 2 * length bs
  pub added : next.sum ≡ (pen.sum + total bs) % 256

-- the check for bytes of this sum, and the newline
abbrev pub ending : ℕ → List ℕ
ending sum = chars_of ((256 - sum % 256) % 256 ∷ []) ++ (10 ∷ [])

-- ---- a whole line: that of these bytes and their check stands from the first place on, and nothing else changes; n characters, the newline among them
abbrev pub line_for : List ℕ → List ℕ
line_for content = line_of_bytes (framed content)

pub record LinePut (before : List ℕ) (content : List ℕ) (after : List ℕ) (n : ℕ) : Type 0 where
  pub line : after ≡ sets before 0 (line_for content)
  pub count : n ≡ length (line_for content)

-- an answer's
abbrev pub AnswerPut : List ℕ → Answer → List ℕ → ℕ → Type 0
AnswerPut before a after n = LinePut before (content_of a) after n
