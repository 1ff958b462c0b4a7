-- Document 01, "Counter frames": "lower-case hexadecimal".
use Rattle.std.specs.Prelude.{Option, Some, None, cond, ◌||◌, ℕ, ◌+◌, ◌-◌, ◌*◌, ltb, leb}

-- 0 to 9 are the characters 48 to 57, a to f are 97 to 102; 16 says that it is no digit
unfoldable pub digit_of : ℕ → ℕ
digit_of c =
    cond (ltb c 48) 16 (cond (ltb c 58) (c - 48) (cond (ltb c 97) 16 (cond (ltb c 103) (c - 87) 16)))

-- the byte of two characters, highest digit first; 256 says that it is none
unfoldable pub pair_of : ℕ → ℕ → ℕ
pair_of h l = cond (leb 16 (digit_of h) || leb 16 (digit_of l)) 256 (digit_of h * 16 + digit_of l)

-- the number where it is below m, and nothing where it says that there is none
abbrev pub below : ℕ → ℕ → Option ℕ
below m n = cond (ltb n m) (Some n) None

unfoldable pub letter_of : ℕ → ℕ
letter_of d = cond (ltb d 10) (d + 48) (d + 87)
