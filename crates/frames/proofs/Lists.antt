-- Laws of the definitions of `specs/Bytes`, and of stores in a row.
use Rattle.std.proofs.Common.{◌≡◌, ℕ, zero, suc, ◌+◌, ◌*◌, ◌/◌, ◌<◌, Bool, true, false, ◌&&◌, ltb, List, [], ◌∷◌, ◌++◌, length, get_or, set, refl, ap, ◌∙◌, add-zero, add-suc, suc-add, arith}
use lib.Seq.{sets}
use Rattle.hexadecimal.specs.Hex.{pair_of}
use Rattle.frames.specs.Bytes.{pairs, all_bytes, chars_of, total}

pub sets-append : (a b l : List ℕ) (i : ℕ) → sets l i (a ++ b) ≡ sets (sets l i a) (i + length a) b
sets-append [] b l i = rw add-zero refl
sets-append (x ∷ a) b l i = rw (add-suc, ← suc-add) (sets-append a b (set l i x) (suc i))

pub length_pairs : (l : List ℕ) → length (pairs l) ≡ length l / 2
unfolding pairs
length_pairs [] = refl
length_pairs (h ∷ []) = refl
length_pairs (h ∷ l ∷ s) = omega (arith, length_pairs s)

pub pair-at : (l : List ℕ) (i : ℕ) → i < length l / 2 → get_or (pairs l) i 0 ≡ pair_of (get_or l (i * 2) 0) (get_or l (i * 2 + 1) 0)
unfolding pairs
pair-at [] i h = absurd (omega arith)
pair-at (a ∷ []) i h = absurd (omega arith)
pair-at (a ∷ b ∷ s) zero h = refl
pair-at (a ∷ b ∷ s) (suc i) h =
    let e : suc i * 2 ≡ suc (suc (i * 2)) = omega arith in
    let e1 : suc (suc (i * 2)) + 1 ≡ suc (suc (i * 2 + 1)) = omega arith in
    rw (e, e1) (pair-at s i (omega arith))

pub total-append : (a b : List ℕ) → total (a ++ b) ≡ total a + total b
unfolding total
total-append [] b = omega arith
total-append (x ∷ a) b = omega (arith, total-append a b)

and_assoc : (a b c : Bool) → (a && (b && c)) ≡ ((a && b) && c)
and_assoc true b c = refl
and_assoc false b c = refl

pub all_append : (a b : List ℕ) → all_bytes (a ++ b) ≡ (all_bytes a && all_bytes b)
unfolding all_bytes
all_append [] b = refl
all_append (x ∷ a) b = ap (λ (t : Bool). ltb x 256 && t) (all_append a b) ∙ and_assoc (ltb x 256) (all_bytes a) (all_bytes b)

pub chars-append : (a b : List ℕ) → chars_of (a ++ b) ≡ chars_of a ++ chars_of b
unfolding chars_of
chars-append [] b = refl
chars-append (x ∷ a) b = rw (chars-append a b) refl

pub length-chars : (a : List ℕ) → length (chars_of a) ≡ 2 * length a
unfolding chars_of
length-chars [] = refl
length-chars (x ∷ a) = omega (arith, length-chars a)
