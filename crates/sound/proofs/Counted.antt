-- The pass over the places: the tests of all places are the test of each place at every place; a turn of the pass; and its end.
use mathlib.Core.Path.{◌≡◌, refl, sym, ap, ◌∙◌}
use mathlib.Core.List.{List}
use mathlib.Core.Bool.{Bool, true, false, ◌&&◌}
use Prim.Native.Nat.{ℕ, zero, suc, ◌+◌, ◌-◌, ◌<◌, ◌≤◌}
use native.Mathlib.Numerals.{add-one}
use native.Mathlib.Omega.{arith}
use lib.Dec.{eqb, leb}
use lib.ListN.{get_or}
use borrow.Author.Tests.{ne_eqb, le-leb, lt-leb, leb-true, leb-false}
use Rattle.lists.specs.Search.{every}
use Rattle.lists.proofs.Scan.{and_left, and_right, and-false}
use Rattle.table.specs.declared.Node.{Node}
use Rattle.table.specs.Table.{at}
use Rattle.sound.specs.Columns.{areas_of, serials_of, kinds_of}
use Rattle.sound.specs.Places.{place_b, places_b}
use Rattle.sound.specs.Hung.{marked_at, marked_b}
use Rattle.sound.specs.Listed.{area_listed, covers_b, held_in, none_above_b}
use Rattle.sound.proofs.Lists.{covered_at}
use Rattle.sound.proofs.Sums.{none_left}
use Rattle.sound.proofs.Worth.{serial-at, kind_at, area-at}
use Rattle.sound.specs.Census.{node_b, held_one, used_by, census_b}

-- ---- tests taken together

-- two tests of each number are one
pub every-and : (f g : ℕ → Bool) (n : ℕ) → every (λ (i : ℕ). f i && g i) n ≡ (every f n && every g n)
unfolding every
every-and f g zero = refl
every-and f g (suc n) = rw (every-and f g n) (swap (every f n) (every g n) (f n) (g n))
  where
    swap : (a b c d : Bool) → ((a && b) && (c && d)) ≡ ((a && c) && (b && d))
    swap true true c d = refl
    swap true false true d = refl
    swap true false false d = refl
    swap false b c d = refl

pub every-same : {f g : ℕ → Bool} → ((i : ℕ) → f i ≡ g i) → (n : ℕ) → every f n ≡ every g n
unfolding every
every-same e zero = refl
every-same e (suc n) = rw (every-same e n, e n) refl

-- ---- the test of one place, at every place

-- the place i passes
abbrev pub pass_at : ℕ → List Node → ℕ → (free removable hung : List ℕ) → ℕ → Bool
pass_at limit t last free removable hung i = node_b limit last i (at t i) (get_or free i 0) (get_or removable i 0) (get_or hung i 0)

module _ (limit : ℕ) (t : List Node) (last : ℕ) (free removable hung : List ℕ) where
  placed : ℕ → Bool
  placed i = place_b limit (at t i)

  issued : ℕ → Bool
  issued i = leb (get_or (serials_of t) i 0) last

  hanging : ℕ → Bool
  hanging = marked_at (serials_of t) hung

  listed : Bool → List ℕ → ℕ → Bool
  listed b = covered_at b (serials_of t) (kinds_of t)

  -- the tests of the columns at i
  pass-is : (i : ℕ) → pass_at limit t last free removable hung i
      ≡ (placed i && (issued i && (hanging i && (listed true free i && listed false removable i))))
  unfolding node_b placed issued hanging listed
  pass-is i = rw (serial-at t i, kind_at t i) refl

  pub passes-are : every (pass_at limit t last free removable hung) limit
      ≡ (places_b limit t && (none_above_b limit (serials_of t) last && (marked_b limit (serials_of t) hung
      && (covers_b limit true (serials_of t) (kinds_of t) free && covers_b limit false (serials_of t) (kinds_of t) removable))))
  unfolding placed issued hanging listed places_b none_above_b marked_b covers_b
  passes-are =
      every-same pass-is limit
      ∙ every-and placed (λ i. issued i && (hanging i && (listed true free i && listed false removable i))) limit
      ∙ ap (λ (b : Bool). every placed limit && b)
      (every-and issued (λ i. hanging i && (listed true free i && listed false removable i)) limit
      ∙ ap (λ (b : Bool). every issued limit && b)
      (every-and hanging (λ i. listed true free i && listed false removable i) limit
      ∙ ap (λ (b : Bool). every hanging limit && b) (every-and (listed true free) (listed false removable) limit)))

-- ---- a turn

-- the tests and the sums of one place more
pub every-next : (f : ℕ → Bool) (i : ℕ) → every f (i + 1) ≡ (every f i && f i)
unfolding every
every-next f i = rw (add-one i) refl

module _ (t : List Node) (i : ℕ) where
  pub held_next : held_in (serials_of t) (i + 1) ≡ held_in (serials_of t) i + held_one (at t i)
  unfolding held_in
  held_next = rw (add-one i, serial-at t i) refl

  pub area-next : area_listed 1 (kinds_of t) (areas_of t) (i + 1) ≡ area_listed 1 (kinds_of t) (areas_of t) i + used_by (at t i)
  unfolding area_listed
  area-next = rw (add-one i, kind_at t i, area-at t i) refl

-- how the pass stands: all tests so far are passed and the sum is no more than `used`, or not; where the sum is no more, `left` is what it lacks
pub record Going (tests : Bool) (sum used : ℕ) (ok : Bool) (left : ℕ) : Type 0 where
  pub so_far : ok ≡ (tests && leb sum used)
  pub lacks : sum ≤ used → left + sum ≡ used

pub going-none : (used : ℕ) → Going true 0 used true used
going-none used = record { so_far = sym (le-leb 0 used (omega arith)); lacks = λ h. omega arith }

module _ {tests ok : Bool} {sum used left : ℕ} (g : Going tests sum used ok left) where
  pub test-passed : {b : Bool} → b ≡ true → Going (tests && b) sum used ok left
  test-passed {b} e = rw e (record { so_far = g.so_far ∙ ap (λ (x : Bool). x && leb sum used) (sym (and-true tests)); lacks = g.lacks })
    where
      and-true : (a : Bool) → (a && true) ≡ a
      and-true true = refl
      and-true false = refl

  pub test-failed : {b : Bool} → b ≡ false → Going (tests && b) sum used false left
  test-failed {b} e = record { so_far = rw (and-false tests b e) refl; lacks = g.lacks }

  pub part-taken : {part : ℕ} → part ≤ left → Going tests (sum + part) used ok (left - part)
  part-taken {part} h =
      record {
        so_far = g.so_far ∙ ap (λ (b : Bool). tests && b) (go (leb sum used) refl);
        lacks = λ e. let z = g.lacks (omega arith) in omega arith;
      }
    where
      go : (b : Bool) → leb sum used ≡ b → leb sum used ≡ leb (sum + part) used
      go true e = e ∙ sym (le-leb (sum + part) used (let z = g.lacks (leb-true sum used e) in omega arith))
      go false e = e ∙ sym (lt-leb (sum + part) used (let z = leb-false sum used e in omega arith))

  pub part-over : {part : ℕ} → left < part → Going tests (sum + part) used false left
  part-over {part} h =
      let over = go (leb sum used) refl in
      record {
        so_far = sym (and-false tests (leb (sum + part) used) (lt-leb (sum + part) used over));
        lacks = λ e. let no : ⊥ = omega arith in absurd no;
      }
    where
      go : (b : Bool) → leb sum used ≡ b → used < sum + part
      go true e = let z = g.lacks (leb-true sum used e) in omega arith
      go false e = let z = leb-false sum used e in omega arith

-- ---- the end

module _ {tests ok : Bool} {sum used left : ℕ} (g : Going tests sum used ok left) where
  -- nothing is left of `used` exactly where all is as it should be
  ends : (b : Bool) → (tests && (b && eqb sum used)) ≡ (ok && (b && eqb left 0))
  ends b = go ok refl
    where
      stopped : (a : Bool) → (a && leb sum used) ≡ false → (a && (b && eqb sum used)) ≡ false
      stopped true e = and-false b (eqb sum used) (ne_eqb sum used (let z = leb-false sum used e in λ q. omega arith))
      stopped false e = refl

      go : (o : Bool) → ok ≡ o → (tests && (b && eqb sum used)) ≡ (ok && (b && eqb left 0))
      go true o =
          let all = sym g.so_far ∙ o in
          let none = none_left left sum used (g.lacks (leb-true sum used (and_right tests (leb sum used) all))) in
          rw (o, and_left tests (leb sum used) all, none) refl
      go false o = rw o (stopped tests (sym g.so_far ∙ o))

-- the places before i are passed
pub record Counting (limit : ℕ) (t : List Node) (last used : ℕ) (free removable hung : List ℕ) (ok : Bool) (count left i : ℕ) : Type 0 where
  pub counted : count ≡ held_in (serials_of t) i
  pub going : Going (every (pass_at limit t last free removable hung) i) (area_listed 1 (kinds_of t) (areas_of t) i) used ok left

pub counting-none : (limit : ℕ) (t : List Node) (last used : ℕ) (free removable hung : List ℕ)
    → Counting limit t last used free removable hung true 0 used 0
unfolding every held_in area_listed
counting-none limit t last used free removable hung = record { counted = refl; going = going-none used }

module _ {limit : ℕ} {t : List Node} {last used : ℕ} {free removable hung : List ℕ} {ok : Bool} {count left : ℕ}
    (held : ℕ) (p : Counting limit t last used free removable hung ok count left limit) where
  pub census-is : census_b limit t last used held free removable hung ≡ (ok && (eqb count held && eqb left 0))
  unfolding census_b
  census-is = rw (← passes-are limit t last free removable hung, ← p.counted) (ends p.going (eqb count held))
