-- What the contract of a read cites: how much of the buffer it brought. What the bytes are no contract can say.
use Rattle.std.specs.Prelude.{List, ℕ, ◌≡◌, ◌<◌, ◌≤◌, length, take}
use Rattle.pipes.specs.declared.Came.{Came}
use Rattle.pipes.specs.declared.Came.TheVariants.{Bytes, End, Failed}

-- the first n bytes lie in the buffer, and are n
abbrev pub IsPrefixLen : ℕ → List ℕ → Type 0
IsPrefixLen n buf = (n ≤ length buf) × (n ≡ length (take n buf))

-- the bytes that came are at least one, and stand at the start of the buffer
abbrev pub Within : Came → List ℕ → Type 0
Within (Bytes n) buf = (0 < n) × IsPrefixLen n buf
Within End buf = Unit {0}
Within Failed buf = Unit {0}
