-- Nobody has to believe this file: it only says what an inner function is handed or gives back, and both ends of that are proved.
use Rattle.std.specs.Prelude.{◌≡◌, ℕ, ◌%◌, List, Option, is_some, IfSome}
use Rattle.frames.specs.Bytes.{total, pairs, all_bytes}
use Rattle.frames.specs.declared.read.Decoded.{Decoded}
use Rattle.frames.specs.Framing.{padded_bytes}

-- what `decode` answers
pub record Decodes (line : List ℕ) (d : Option Decoded) : Type 0 where
  pub good : is_some d ≡ all_bytes (pairs line)
  pub bytes : IfSome d (λ r. r.bytes ≡ padded_bytes (pairs line))
  pub sum : IfSome d (λ r. r.sum ≡ total (pairs line) % 256)
