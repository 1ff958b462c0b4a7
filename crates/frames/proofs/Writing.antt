-- Writing in a row: what two writes leave, a list's turn, and a line's end.
use Rattle.std.proofs.Common.{◌≡◌, ℕ, suc, ◌+◌, ◌-◌, ◌*◌, ◌/◌, ◌%◌, ◌^◌, ◌<◌, ◌≤◌, List, [], ◌∷◌, ◌++◌, length, get_or, take, set, sym, refl, ap, ◌∙◌, append_assoc, append-nil, add_comm, mul-le-mul_left, mul-zero, mul-suc, add-one, arith, length-append, length-take-le, take-suc, take_all}
use lib.Seq.{sets, length-sets}
use Rattle.hexadecimal.specs.Hex.{letter_of}
use Rattle.frames.specs.declared.write.Pen.{Pen}
use Rattle.frames.specs.Bytes.{chars_of, total, check_of}
use Rattle.frames.specs.Answers.{each}
use Rattle.frames.specs.Writing.{Wrote, fresh_pen, ending, line_for, LinePut}
use Rattle.frames.proofs.Lists.{sets-append, total-append, chars-append, length-chars}

module _ {l m n a b : List ℕ} {p q r : Pen} where
  pub and_then : Wrote l p a m q → Wrote m q b n r → Wrote l p (a ++ b) n r
  and_then x y = record {
    chars =
        y.chars
        ∙ ap (λ (s : List ℕ). sets s q.at (chars_of b)) x.chars
        ∙ ap (λ (k : ℕ). sets (sets l p.at (chars_of a)) k (chars_of b)) (omega (arith, x.moved, length-chars a))
        ∙ sym (sets-append (chars_of a) (chars_of b) l p.at)
        ∙ ap (sets l p.at) (sym (chars-append a b));
    moved = omega (arith, x.moved, y.moved, length-append a b);
    added = omega (arith, x.added, y.added, total-append a b);
  }

pub put_one : (l : List ℕ) (p : Pen) (b x y s : ℕ) → x ≡ letter_of (b / 16) → y ≡ letter_of (b % 16) → s ≡ (p.sum + b) % 2 ^ 8
    → Wrote l p (b ∷ []) (set (set l p.at x) (p.at + 1) y) (record { at = p.at + 2; sum = s })
unfolding chars_of total
put_one l p b x y s hx hy hs = record { chars = rw (hx, hy, add-one) refl; moved = omega arith; added = omega arith }

pub as_byte : {l m : List ℕ} {p q : Pen} {x y : ℕ} → x ≡ y → Wrote l p (x ∷ []) m q → Wrote l p (y ∷ []) m q
as_byte {l} {m} {p} {q} {x} {y} e w = rw e at w

-- the check byte k, and then a newline
pub end-put : {l m : List ℕ} {p q : Pen} {k : ℕ} → Wrote l p (k ∷ []) m q → (k + p.sum) % 2 ^ 8 ≡ 0 → k < 256
    → (q.at + 1 ≡ p.at + 3) × (set m q.at 10 ≡ sets l p.at (ending p.sum))
unfolding chars_of
end-put {l} {m} {p} {q} {k} w e h =
    let check : k ≡ (256 - p.sum % 256) % 256 = omega arith in
    let place : q.at ≡ p.at + length (chars_of (k ∷ [])) = omega (arith, w.moved) in (
      omega (arith, w.moved),
      ap (λ (s : List ℕ). set s q.at 10) w.chars
          ∙ ap (λ (i : ℕ). set (sets l p.at (chars_of (k ∷ []))) i 10) place
          ∙ sym (sets-append (chars_of (k ∷ [])) (10 ∷ []) l p.at)
          ∙ ap (λ (c : ℕ). sets l p.at (chars_of (c ∷ []) ++ (10 ∷ []))) check,
    )

pub same-room : {l m bs : List ℕ} {p q : Pen} → Wrote l p bs m q → length m ≡ length l
same-room {l} {m} {bs} {p} {q} w = ap length w.chars ∙ length-sets l p.at (chars_of bs)

module _ {A : Type 0} (bytes : A → List ℕ) where
  each_append : (xs ys : List A) → each bytes (xs ++ ys) ≡ each bytes xs ++ each bytes ys
  unfolding each
  each_append [] ys = refl
  each_append (x ∷ xs) ys = ap (λ (t : List ℕ). bytes x ++ t) (each_append xs ys) ∙ sym (append_assoc (bytes x) (each bytes xs) (each bytes ys))

  pub length-each : (k : ℕ) → ((x : A) → length (bytes x) ≡ k) → (xs : List A) → length (each bytes xs) ≡ k * length xs
  unfolding each
  length-each k e [] = sym (mul-zero k)
  length-each k e (x ∷ xs) = length-append (bytes x) (each bytes xs) ∙ rw (e x, length-each k e xs, mul-suc) (add_comm k (k * length xs))

  pub length_taken : (k : ℕ) → ((x : A) → length (bytes x) ≡ k) → (xs : List A) (n : ℕ) → n ≤ length xs → length (each bytes (take n xs)) ≡ k * n
  length_taken k e xs n h = length-each k e (take n xs) ∙ ap (λ (i : ℕ). k * i) (length-take-le n xs h)

  one_more : (xs : List A) (i : ℕ) (d : A) → i < length xs → each bytes (take (i + 1) xs) ≡ each bytes (take i xs) ++ bytes (get_or xs i d)
  unfolding each
  one_more xs i d h =
      ap (λ (k : ℕ). each bytes (take k xs)) (add-one i)
      ∙ ap (each bytes) (take-suc xs i d h)
      ∙ each_append (take i xs) (get_or xs i d ∷ [])
      ∙ ap (λ (t : List ℕ). each bytes (take i xs) ++ t) (append-nil (bytes (get_or xs i d)))

-- bytes, each written as itself
abbrev pub itself : ℕ → List ℕ
itself b = b ∷ []

pub each-itself : (bs : List ℕ) → each itself bs ≡ bs
unfolding each
each-itself [] = refl
each-itself (b ∷ bs) = ap (λ (t : List ℕ). b ∷ t) (each-itself bs)

-- a loop that writes a list, element by element: the first i are written
module _ {A : Type 0} (bytes : A → List ℕ) (xs : List A) {l : List ℕ} {p : Pen} where
  pub none_yet : p.sum < 256 → Wrote l p (each bytes (take 0 xs)) l p
  unfolding each chars_of total
  none_yet h = record { chars = refl; moved = omega arith; added = omega arith }

  module _ (i : ℕ) {m : List ℕ} {q : Pen} (w : Wrote l p (each bytes (take i xs)) m q) where
    pub turn : {m' : List ℕ} {q' : Pen} (d : A) → i < length xs → Wrote m q (bytes (get_or xs i d)) m' q' → Wrote l p (each bytes (take (i + 1) xs)) m' q'
    turn d h y = rw (one_more bytes xs i d h) (and_then w y)

    -- where each takes k bytes, and there was room for all, there is room for one more
    pub next-room : (k : ℕ) → ((x : A) → length (bytes x) ≡ k) → i < length xs → p.at + 2 * (k * length xs) ≤ length l → q.at + 2 * k ≤ length m
    next-room k e h room =
        let more : suc i ≤ length xs = omega arith in
        omega (
          arith,
          mul-suc k i,
          mul-le-mul_left k more,
          w.moved,
          same-room w,
          length_taken bytes k e xs i (omega arith),
        )

    pub whole : length xs ≤ i → Wrote l p (each bytes xs) m q
    whole h = rw (take_all i xs h) at w

length-ending : (s : ℕ) → length (ending s) ≡ 3
unfolding chars_of
length-ending s = refl

-- a line's end has room
pub end-room : {l m bs : List ℕ} {q : Pen} → Wrote l fresh_pen bs m q → 2 * length bs + 3 ≤ length l → q.at + 3 ≤ length m
end-room w h = omega (arith, w.moved, same-room w)

-- a line of any content, from what was written and its end
pub answered : {l m n bs content : List ℕ} {p : Pen} {r : ℕ} → content ≡ bs → Wrote l fresh_pen bs m p
    → (r ≡ p.at + 3) × (n ≡ sets m p.at (ending p.sum)) → LinePut l content n r
answered {l} {m} {n} {bs} {content} {p} {r} e w f =
    let same : check_of bs ≡ (256 - p.sum % 256) % 256 = omega (arith, w.added) in
    let shown : line_for content ≡ chars_of bs ++ ending p.sum =
    ap line_for e
    ∙ ap (λ (c : List ℕ). c ++ (10 ∷ [])) (chars-append bs (check_of bs ∷ []))
    ∙ append_assoc (chars_of bs) (chars_of (check_of bs ∷ [])) (10 ∷ [])
    ∙ ap (λ (k : ℕ). chars_of bs ++ (chars_of (k ∷ []) ++ (10 ∷ []))) same in
    record {
      line =
          f.1
          ∙ ap (λ (s : List ℕ). sets s p.at (ending p.sum)) w.chars
          ∙ ap (λ (k : ℕ). sets (sets l 0 (chars_of bs)) k (ending p.sum)) (omega (arith, w.moved, length-chars bs))
          ∙ sym (sets-append (chars_of bs) (ending p.sum) l 0)
          ∙ ap (sets l 0) (sym shown);
      count = omega (arith, f.0, w.moved, ap length shown, length-append (chars_of bs) (ending p.sum), length-chars bs, length-ending p.sum);
    }
