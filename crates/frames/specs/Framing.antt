-- A line as the bytes of a frame, whatever its op is, as `frame_in` reads it. Rests on Bytes and Requests.
use Rattle.std.specs.Prelude.{◌≡◌, ℕ, List, length, replicate, Option, is_some, IfSome}
use Rattle.std.proofs.lemmas.List.Edits.{sets}
use Rattle.frames.specs.declared.read.Frame.{Frame}
use Rattle.frames.specs.Bytes.{pairs}
use Rattle.frames.specs.Requests.{is_frame}

-- bytes as the code holds them, zero past the last of 32
abbrev pub padded_bytes : List ℕ → List ℕ
padded_bytes bs = sets (replicate 32 0) 0 bs

-- whether the line is a frame; and where it is, its bytes
pub record ReadsFrame (line : List ℕ) (f : Option Frame) : Type 0 where
  pub good : is_some f ≡ is_frame line
  pub bytes : IfSome f (λ r. r.bytes ≡ padded_bytes (pairs line))
  pub count : IfSome f (λ r. r.count ≡ length (pairs line))
