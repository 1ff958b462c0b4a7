-- What a test says: yes exactly when a statement holds. A test made of tests says what is made of their statements.
use mathlib.Core.Path.{◌≡◌, refl, sym, ap}
use mathlib.Core.Bool.{Bool, true, false, cond, not, ◌&&◌}
use Prim.Native.Nat.{ℕ, zero, suc, ◌<◌, ◌≤◌}
use native.Mathlib.Numerals.{add-one}
use native.Mathlib.Omega.{arith}
use lib.Dec.{eqb, ltb, leb}
use borrow.Author.Tests.{eqb-true, eqb-false, eq-eqb, ne_eqb, ltb-true, lt-ltb, leb-true, le-leb, not-true}
use Rattle.lists.specs.Search.{every}
use Rattle.lists.proofs.Scan.{and_left, and_right, every-at, every_more, every-none}
pub use Rattle.lists.proofs.Scan.{clash}

pub record Says (b : Bool) (P : Type 0) : Type 0 where
  pub says : b ≡ true → P
  pub passes : P → b ≡ true

-- the same statement in other words
pub worded : {b : Bool} {P Q : Type 0} → Says b P → (P → Q) → (Q → P) → Says b Q
worded s f g = record { says = λ e. f (s.says e); passes = λ q. s.passes (g q) }

pub eq-says : (a b : ℕ) → Says (eqb a b) (a ≡ b)
eq-says a b = record { says = eqb-true a b; passes = eq-eqb a b }

pub lt-says : (a b : ℕ) → Says (ltb a b) (a < b)
lt-says a b = record { says = ltb-true a b; passes = lt-ltb a b }

pub le-says : (a b : ℕ) → Says (leb a b) (a ≤ b)
le-says a b = record { says = leb-true a b; passes = le-leb a b }

-- a serial that is not 0
pub some-says : (a : ℕ) → Says (not (eqb a 0)) (0 < a)
some-says a =
    record {
      says = λ e. let n = eqb-false a 0 (not-true (eqb a 0) e) in omega arith;
      passes = λ h. ap not (ne_eqb a 0 (λ e. omega arith));
    }

pub true-says : {P : Type 0} → P → Says true P
true-says p = record { says = λ e. p; passes = λ q. refl }

pub false-says : Says false ⊥
false-says = record { says = clash; passes = λ z. absurd z }

pub and-says : {a b : Bool} {P Q : Type 0} → Says a P → Says b Q → Says (a && b) (P × Q)
and-says {a} {b} s r =
    record {
      says = λ e. (s.says (and_left a b e), r.says (and_right a b e));
      passes = λ h. rw (s.passes h.0) (r.passes h.1);
    }

-- the same, as a loop leaves early
pub guard-says : {a b : Bool} {P Q : Type 0} → Says a P → Says b Q → Says (cond a b false) (P × Q)
guard-says {a = true} s r = record { says = λ e. (s.says refl, r.says e); passes = λ h. r.passes h.1 }
guard-says {a = false} s r = record { says = λ e. absurd (clash e); passes = λ h. s.passes h.0 }

pub if-says : {a b c : Bool} {A P Q : Type 0} → Says a A → Says b P → Says c Q → Says (cond a b c) ((A → P) × ((A → ⊥) → Q))
if-says {a = true} s p q =
    record { says = λ e. ((λ x. p.says e), λ n. absurd (n (s.says refl))); passes = λ h. p.passes (h.0 (s.says refl)) }
if-says {a = false} s p q =
    record {
      says = λ e. ((λ x. absurd (clash (s.passes x))), λ m. q.says e);
      passes = λ h. q.passes (h.1 (λ x. clash (s.passes x)));
    }

-- a test that is made once another has passed
pub then-says : {a b : Bool} {P Q : Type 0} → Says a P → (P → Says b Q) → Says (a && b) (P × Q)
then-says {a = true} s r = record { says = λ e. let p = s.says refl in (p, (r p).says e); passes = λ h. (r h.0).passes h.1 }
then-says {a = false} s r = record { says = λ e. absurd (clash e); passes = λ h. absurd (clash (s.passes h.0)) }

pub itself-says : (b : Bool) → Says b (b ≡ true)
itself-says b = record { says = λ e. e; passes = λ e. e }

-- two tests of one statement agree
pub same-says : {a b : Bool} {P : Type 0} → Says a P → Says b P → a ≡ b
same-says {a = true} s r = sym (r.passes (s.says refl))
same-says {a = false} {b = true} s r = s.passes (r.says refl)
same-says {a = false} {b = false} s r = refl

pub every-says : {f : ℕ → Bool} {P : ℕ → Type 0} → ((i : ℕ) → Says (f i) (P i)) → (n : ℕ) → Says (every f n) ((i : ℕ) → i < n → P i)
every-says {f} {P} s n = record { says = λ e i h. (s i).says (every-at f n i e h); passes = all n }
  where
    all : (m : ℕ) → ((i : ℕ) → i < m → P i) → every f m ≡ true
    all zero h = every-none f
    all (suc m) h =
        rw (← add-one m) (every_more f m (all m (λ i l. h i (omega arith))) ((s m).passes (h m (omega arith))))
