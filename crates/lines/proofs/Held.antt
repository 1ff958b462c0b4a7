-- What is pending after the characters of a line: these, while they are at most 64; and else that it is too long.
use mathlib.Core.Path.{◌≡◌, refl, ap, ◌∙◌}
use mathlib.Core.Bool.{Bool, true, false, cond}
use mathlib.Core.List.{List, [], ◌∷◌, ◌++◌, append-nil}
use Prim.Native.Nat.{ℕ, suc, ◌+◌, ◌≤◌, ◌<◌}
use native.Mathlib.Numerals.{add-one}
use native.Mathlib.Omega.{arith}
use lib.Dec.{ltb, leb}
use lib.ListN.{length, take, set, length-append, length-set}
use lib.Seq.{take-suc-set, append_snoc}
use borrow.Author.Tests.{lt-ltb, le-ltb, ltb-true, ltb-false, leb-true, leb-false}
use Rattle.lines.specs.declared.stream.Pending.{Pending}
use Rattle.lines.specs.Text.{Line, whole, long, line_of, last_of}
use Rattle.lines.specs.Stream.{empty, add_char, adds, ended}
use Rattle.lines.proofs.Adds.{adds-over}

-- what is pending is the characters s
pub record Holds (p : Pending) (s : List ℕ) : Type 0 where
  pub chars : take p.count p.bytes ≡ s
  pub many : p.count ≡ length s
  pub fits : p.over ≡ false
  pub room : length p.bytes ≡ 64

-- with room, a character is stored; with none, the line is too long
add-room : (p : Pending) (x : ℕ) → p.over ≡ false → p.count < 64
    → add_char p x ≡ record { bytes = set p.bytes p.count x; count = p.count + 1; over = p.over }
unfolding add_char
add-room p x o h = rw (o, lt-ltb p.count 64 h) refl

add-full : (p : Pending) (x : ℕ) → 64 ≤ p.count → (add_char p x).over ≡ true
unfolding add_char
add-full p x h = rw (le-ltb p.count 64 h) (either p.over p (record { bytes = p.bytes; count = p.count; over = true }) refl refl)
  where
    either : (b : Bool) (p q : Pending) → p.over ≡ b → q.over ≡ true → (cond b p q).over ≡ true
    either true p q e f = e
    either false p q e f = f

snoc-length : (s : List ℕ) (x : ℕ) → length (s ++ x ∷ []) ≡ length s + 1
snoc-length s x = length-append s (x ∷ [])

holds-add : (p : Pending) (s : List ℕ) (x : ℕ) → Holds p s → length s < 64 → Holds (add_char p x) (s ++ x ∷ [])
holds-add p s x h l =
    let n : p.count < 64 = omega (arith, h.many) in
    let r : p.count < length p.bytes = omega (arith, h.room) in
    rw (add-room p x h.fits n) (record {
      chars = rw (add-one p.count, take-suc-set p.bytes p.count x r, h.chars) refl;
      many = omega (arith, h.many, snoc-length s x);
      fits = h.fits;
      room = length-set p.bytes p.count x ∙ h.room;
    })

holds-adds : (p : Pending) (s t : List ℕ) → Holds p s → length s + length t ≤ 64 → Holds (adds p t) (s ++ t)
unfolding adds
holds-adds p s [] h l = rw (append-nil s) h
holds-adds p s (x ∷ t) h l =
    let n : length s < 64 = omega arith in
    let m : length (s ++ x ∷ []) + length t ≤ 64 = omega (arith, snoc-length s x) in
    rw (← append_snoc s x t) (holds-adds (add_char p x) (s ++ x ∷ []) t (holds-add p s x h n) m)

holds-none : Holds empty []
unfolding empty
holds-none = record { chars = refl; many = refl; fits = refl; room = refl }

-- from the empty line
pub holds : (a : List ℕ) → length a ≤ 64 → Holds (adds empty a) a
holds a h = holds-adds empty [] a holds-none (omega arith)

-- past 64 characters: by whether there was room, and by what the characters after x make of it
past_one : (p : Pending) (s : List ℕ) (x : ℕ) (t : List ℕ) → Holds p s → length s ≤ 64 → 64 < length s + suc (length t)
    → (Holds (add_char p x) (s ++ x ∷ []) → length (s ++ x ∷ []) ≤ 64 → 64 < length (s ++ x ∷ []) + length t → (adds (add_char p x) t).over ≡ true)
    → (b : Bool) → ltb (length s) 64 ≡ b → (adds (add_char p x) t).over ≡ true
past_one p s x t h l m more true e =
    let n : length s < 64 = ltb-true (length s) 64 e in
    more (holds-add p s x h n) (omega (arith, snoc-length s x)) (omega (arith, snoc-length s x))
past_one p s x t h l m more false e =
    let n : 64 ≤ p.count = omega (arith, ltb-false (length s) 64 e, h.many) in
    let o : (add_char p x).over ≡ true = add-full p x n in
    ap (λ (q : Pending). q.over) (adds-over (add_char p x) t o) ∙ o

past : (p : Pending) (s t : List ℕ) → Holds p s → length s ≤ 64 → 64 < length s + length t → (adds p t).over ≡ true
unfolding adds
past p s [] h l m = absurd (omega arith)
past p s (x ∷ t) h l m =
    past_one p s x t h l m (λ g k j. past (add_char p x) (s ++ x ∷ []) t g k j) (ltb (length s) 64) refl

pub too_long : (a : List ℕ) → 64 < length a → (adds empty a).over ≡ true
too_long a h = past empty [] a holds-none (omega arith) (omega arith)

-- what a newline makes of what is pending
unfoldable pub line_in : Pending → Line
line_in p = cond p.over long (whole (take p.count p.bytes))

pub line-in : (a : List ℕ) → line_in (adds empty a) ≡ line_of a
unfolding line_in line_of
line-in a = go (leb (length a) 64) refl
  where
    go : (b : Bool) → leb (length a) 64 ≡ b → line_in (adds empty a) ≡ cond (leb (length a) 64) (whole a) long
    go true e =
        let h = holds a (leb-true (length a) 64 e) in
        rw (e, h.fits, h.chars) refl
    go false e = rw (e, too_long a (leb-false (length a) 64 e)) refl

-- what the end of the input makes of it
count-pick : (a b : Bool) (p q r : Pending) → p.count ≤ q.count → p.count ≤ r.count → p.count ≤ (cond a p (cond b q r)).count
count-pick true b p q r g h = omega arith
count-pick false true p q r g h = g
count-pick false false p q r g h = h

count_add : (p : Pending) (x : ℕ) → p.count ≤ (add_char p x).count
unfolding add_char
count_add p x =
    count-pick
    p.over
    (ltb p.count 64)
    p
    (record { bytes = set p.bytes p.count x; count = p.count + 1; over = p.over })
    (record { bytes = p.bytes; count = p.count; over = true })
    (omega arith)
    (omega arith)

count-adds : (p : Pending) (s : List ℕ) → p.count ≤ (adds p s).count
unfolding adds
count-adds p [] = omega arith
count-adds p (x ∷ s) = omega (arith, count_add p x, count-adds (add_char p x) s)

count-first : (x : ℕ) → (add_char empty x).count ≡ 1
unfolding add_char empty
count-first x = refl

ended-none : ended empty ≡ []
unfolding ended empty
ended-none = refl

pub last-in : (a : List ℕ) → ended (adds empty a) ≡ last_of a
unfolding ended last_of adds
last-in [] = ended-none
last-in (x ∷ a) = rw (lt-ltb 0 (adds (add_char empty x) a).count (omega (arith, count-first x, count-adds (add_char empty x) a))) refl
