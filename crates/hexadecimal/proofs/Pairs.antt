-- What a character and two characters write, by what each is.
use Rattle.std.proofs.Common.{◌≡◌, ℕ, ◌+◌, ◌-◌, ◌*◌, ◌<◌, ◌≤◌, cond, Bool, true, false, ◌||◌, leb, Option, Some, None, refl, sym, ◌∙◌, arith, lt-ltb, le-ltb, ltb-true, ltb-false, le-leb}
use borrow.Author.Tests.{lt-leb}
use Rattle.hexadecimal.specs.Hex.{below, digit_of, pair_of}

some_at : (m n x : ℕ) → n ≡ x → x < m → ◌≡◌ {A = Option ℕ} (Some x) (below m n)
some_at m n x e h = rw (e, lt-ltb x m h) refl

letter-value : (c : ℕ) → 97 ≤ c → c < 103 → digit_of c ≡ c - 97 + 10
unfolding digit_of
letter-value c h k =
    let e : c - 87 ≡ c - 97 + 10 = omega arith in
    rw (le-ltb c 48 (omega arith), le-ltb c 58 (omega arith), le-ltb c 97 h, lt-ltb c 103 k) e

pub below_all : (c : ℕ) → c < 48 → ◌≡◌ {A = Option ℕ} None (below 16 (digit_of c))
unfolding digit_of
below_all c h = simp (lt-ltb c 48 h)

pub decimal : (c : ℕ) → 48 ≤ c → c < 58 → ◌≡◌ {A = Option ℕ} (Some (c - 48)) (below 16 (digit_of c))
unfolding digit_of
decimal c h k = simp (le-ltb c 48 h, lt-ltb c 58 k, lt-ltb (c - 48) 16 (omega arith))

pub between : (c : ℕ) → 58 ≤ c → c < 97 → ◌≡◌ {A = Option ℕ} None (below 16 (digit_of c))
unfolding digit_of
between c h k = simp (le-ltb c 48 (omega arith), le-ltb c 58 h, lt-ltb c 97 k)

pub from_a : (c : ℕ) → 97 ≤ c → c < 103 → ◌≡◌ {A = Option ℕ} (Some (c - 97 + 10)) (below 16 (digit_of c))
from_a c h k = some_at 16 (digit_of c) (c - 97 + 10) (letter-value c h k) (omega arith)

pub above_all : (c : ℕ) → 103 ≤ c → ◌≡◌ {A = Option ℕ} None (below 16 (digit_of c))
unfolding digit_of
above_all c h = simp (le-ltb c 48 (omega arith), le-ltb c 58 (omega arith), le-ltb c 97 (omega arith), le-ltb c 103 h)

either : (a : Bool) → (a || true) ≡ true
either true = refl
either false = refl

pub high-bad : (h l : ℕ) → 16 ≤ digit_of h → 256 ≡ pair_of h l
unfolding pair_of
high-bad h l b = rw (le-leb 16 (digit_of h) b) refl

pub low-bad : (h l : ℕ) → 16 ≤ digit_of l → 256 ≡ pair_of h l
unfolding pair_of
low-bad h l b = rw (le-leb 16 (digit_of l) b, either (leb 16 (digit_of h))) refl

pub both-good : (h l : ℕ) → digit_of h < 16 → digit_of l < 16 → digit_of h * 16 + digit_of l ≡ pair_of h l
unfolding pair_of
both-good h l a b = rw (lt-leb 16 (digit_of h) a, lt-leb 16 (digit_of l) b) refl

-- what stands below a bound: nothing, or the number
none-cond : (b : Bool) (n : ℕ) → ◌≡◌ {A = Option ℕ} None (cond b (Some n) None) → b ≡ false
none-cond false n e = refl
none-cond true n e = cc

some-cond : (b : Bool) (x n : ℕ) → ◌≡◌ {A = Option ℕ} (Some x) (cond b (Some n) None) → (x ≡ n) × (b ≡ true)
some-cond true x n e = (cc, refl)
some-cond false x n e = cc

pub none_below : (m n : ℕ) → ◌≡◌ {A = Option ℕ} None (below m n) → m ≤ n
none_below m n e = ltb-false n m (none-cond _ _ e)

pub some_below : (m n x : ℕ) → ◌≡◌ {A = Option ℕ} (Some x) (below m n) → (x ≡ n) × (n < m)
some_below m n x e =
    let both = some-cond _ _ _ e in
    (both.0, ltb-true n m both.1)

pub high-none : (h l : ℕ) → ◌≡◌ {A = Option ℕ} None (below 16 (digit_of h)) → ◌≡◌ {A = Option ℕ} None (below 256 (pair_of h l))
high-none h l e = rw (← high-bad h l (none_below 16 (digit_of h) e)) refl

pub low-none : (h l : ℕ) → ◌≡◌ {A = Option ℕ} None (below 16 (digit_of l)) → ◌≡◌ {A = Option ℕ} None (below 256 (pair_of h l))
low-none h l e = rw (← low-bad h l (none_below 16 (digit_of l) e)) refl

pub both-some : (h l a b : ℕ) → ◌≡◌ {A = Option ℕ} (Some a) (below 16 (digit_of h)) → ◌≡◌ {A = Option ℕ} (Some b) (below 16 (digit_of l))
    → ◌≡◌ {A = Option ℕ} (Some (a * 16 + b)) (below 256 (pair_of h l))
both-some h l a b eh el =
    let one = some_below _ _ _ eh in
    let other = some_below _ _ _ el in
    some_at 256 (pair_of h l) (a * 16 + b) (sym (both-good h l one.1 other.1) ∙ cc) (omega (arith, one, other))
