-- The marks of the rows: the turns of the loops that make them, and what a mark says. A mark stands exactly at the places that are among the
-- children of some place.
use mathlib.Core.Path.{◌≡◌, refl, sym, ap, ◌∙◌}
use mathlib.Core.List.{List}
use mathlib.Core.Bool.{Bool, true, false, cond}
use mathlib.Core.Logic.{◌⊎◌, inl, inr, ⊎_elim}
use Prim.Native.Nat.{ℕ, zero, suc, ◌+◌, ◌-◌, ◌<◌, ◌≤◌}
use native.Mathlib.Nat.{not-suc-le-zero}
use native.Mathlib.Numerals.{add-one}
use native.Mathlib.Omega.{arith}
use native.Mathlib.Decide.{ℕ_discrete}
use lib.Dec.{eqb, leb}
use lib.ListN.{length, get_or, set, replicate, length-set, length-replicate, get_or-map}
use lib.Seq.{get_or-set_same, get_or-set_other}
use borrow.Author.Tests.{eq-eqb, ne_eqb, eqb-true, le-leb, lt-leb, leb-false}
use Rattle.table.specs.declared.Node.{Node}
use Rattle.table.specs.Table.{at, Held, zero_node}
use Rattle.table.proofs.Linkage.{Among}
use Rattle.sound.specs.Columns.{firsts_of, nexts_of, serials_of}
use Rattle.sound.specs.Rows.{parent_b}
use Rattle.sound.specs.Hung.{mark_row, mark_rows, hang_row, hang_rows, marked_at, marked_b, hung_b}
use Rattle.lists.proofs.Scan.{every-all, every-at}

less_one : (n : ℕ) → suc n - 1 ≡ n
less_one n = omega arith

module _ (limit : ℕ) (next : List ℕ) where
  -- the walk is over: past the last sibling, or at the last turn
  pub row-over : (m p : ℕ) (f : List ℕ) → limit ≤ p → mark_row limit next m p f ≡ f
  unfolding mark_row
  row-over zero p f e = refl
  row-over (suc m) p f e = rw (le-leb limit p e) refl

  pub row_zero : (m p : ℕ) (f : List ℕ) → m ≤ 0 → mark_row limit next m p f ≡ f
  unfolding mark_row
  row_zero zero p f e = refl
  row_zero (suc m) p f e = absurd (not-suc-le-zero e)

  -- a turn
  pub row_on : (m p : ℕ) (f : List ℕ) → 0 < m → p < limit
      → mark_row limit next m p f ≡ mark_row limit next (m - 1) (get_or next p 0) (set f p 1)
  unfolding mark_row
  row_on zero p f h l = absurd (not-suc-le-zero h)
  row_on (suc m) p f h l = rw (lt-leb limit p l, less_one m) refl

  pub length-row : (m p : ℕ) (f : List ℕ) → length (mark_row limit next m p f) ≡ length f
  unfolding mark_row
  length-row zero p f = refl
  length-row (suc m) p f = go (leb limit p) (length-row m (get_or next p 0) (set f p 1) ∙ length-set f p 1)
    where
      go : (b : Bool) → length (mark_row limit next m (get_or next p 0) (set f p 1)) ≡ length f
          → length (cond b f (mark_row limit next m (get_or next p 0) (set f p 1))) ≡ length f
      go true ih = refl
      go false ih = ih

  -- a mark stays
  pub row_keeps : (m p : ℕ) (f : List ℕ) (i : ℕ) → length f ≡ limit → get_or f i 0 ≡ 1 → get_or (mark_row limit next m p f) i 0 ≡ 1
  unfolding mark_row
  row_keeps zero p f i len e = e
  row_keeps (suc m) p f i len e = go (leb limit p) refl (row_keeps m (get_or next p 0) (set f p 1) i)
    where
      kept : p < limit → Dec (i ≡ p) → get_or (set f p 1) i 0 ≡ 1
      kept l (yes z) = ap (λ (k : ℕ). get_or (set f p 1) k 0) z ∙ get_or-set_same f p 1 0 (omega arith)
      kept l (no z) = get_or-set_other f p i 1 0 z ∙ e

      go : (b : Bool) → leb limit p ≡ b
          → (length (set f p 1) ≡ limit → get_or (set f p 1) i 0 ≡ 1 → get_or (mark_row limit next m (get_or next p 0) (set f p 1)) i 0 ≡ 1)
          → get_or (cond b f (mark_row limit next m (get_or next p 0) (set f p 1))) i 0 ≡ 1
      go true x ih = e
      go false x ih = ih (length-set f p 1 ∙ len) (kept (leb-false limit p x) (ℕ_discrete i p))

  pub length-rows : (first : List ℕ) (n : ℕ) (f : List ℕ) → length (mark_rows limit first next n f) ≡ length f
  unfolding mark_rows
  length-rows first zero f = refl
  length-rows first (suc n) f = length-row limit (get_or first n 0) (mark_rows limit first next n f) ∙ length-rows first n f

pub next-at : (t : List Node) (p : ℕ) → get_or (nexts_of t) p 0 ≡ (at t p).next
next-at t p = get_or-map (λ (n : Node). n.next) t p zero_node

pub first-at : (t : List Node) (p : ℕ) → get_or (firsts_of t) p 0 ≡ (at t p).first
first-at t p = get_or-map (λ (n : Node). n.first) t p zero_node

zeros-unmarked : (n i : ℕ) → ◌≡◌ {A = ℕ} (get_or (replicate n 0) i 0) 1 → ⊥
zeros-unmarked zero i e = omega arith
zeros-unmarked (suc n) zero e = omega arith
zeros-unmarked (suc n) (suc i) e = zeros-unmarked n i e

-- the marks that `row_ok` makes as it walks
module _ (limit : ℕ) (t : List Node) where
  -- a turn along a row, and its end
  pub hang-on : (m p : ℕ) (f : List ℕ) → 0 < m → p < limit
      → mark_row limit (nexts_of t) m p f ≡ mark_row limit (nexts_of t) (m - 1) (at t p).next (set f p 1)
  hang-on m p f h l = row_on limit (nexts_of t) m p f h l ∙ rw (next-at t p) refl

  pub hang-over : (m p : ℕ) (f : List ℕ) → (limit ≤ p) ⊎ (m ≤ 0) → mark_row limit (nexts_of t) m p f ≡ f
  hang-over m p f = ⊎_elim (row-over limit (nexts_of t) m p f) (row_zero limit (nexts_of t) m p f)

  pub hang-none : (f : List ℕ) → hang_rows limit t 0 f ≡ f
  unfolding hang_rows
  hang-none f = refl

  pub hang-next : (n : ℕ) (f : List ℕ) → hang_rows limit t (n + 1) f ≡ hang_row limit t n (hang_rows limit t n f)
  unfolding hang_rows
  hang-next n f = rw (add-one n) refl

  -- a held structure's row is marked
  pub hang-here : (q : ℕ) (f : List ℕ) {a : Bool} → a ≡ parent_b (at t q) → a ≡ true
      → hang_row limit t q f ≡ mark_row limit (nexts_of t) limit (at t q).first f
  hang-here q f e y = rw (sym e ∙ y) refl

module _ (limit : ℕ) (t : List Node) where
  -- a mark of a row was there before, or is at one of the siblings
  pub row-says : (m p : ℕ) (f : List ℕ) (i : ℕ) → get_or (mark_row limit (nexts_of t) m p f) i 0 ≡ 1
      → (get_or f i 0 ≡ 1) ⊎ Among limit m t p i
  unfolding mark_row
  row-says zero p f i e = inl e
  row-says (suc m) p f i e = go (leb limit p) refl e (row-says m (get_or (nexts_of t) p 0) (set f p 1) i)
    where
      was : p < limit → Dec (i ≡ p) → get_or (set f p 1) i 0 ≡ 1 → (get_or f i 0 ≡ 1) ⊎ Among limit (suc m) t p i
      was l (yes z) e = inr (l, inl z)
      was l (no z) e = inl (sym (get_or-set_other f p i 1 0 z) ∙ e)

      go : (b : Bool) → leb limit p ≡ b → get_or (cond b f (mark_row limit (nexts_of t) m (get_or (nexts_of t) p 0) (set f p 1))) i 0 ≡ 1
          → (get_or (mark_row limit (nexts_of t) m (get_or (nexts_of t) p 0) (set f p 1)) i 0 ≡ 1
          → (get_or (set f p 1) i 0 ≡ 1) ⊎ Among limit m t (get_or (nexts_of t) p 0) i)
          → (get_or f i 0 ≡ 1) ⊎ Among limit (suc m) t p i
      go true x e ih = inl e
      go false x e ih =
          let l = leb-false limit p x in
          ⊎_elim (was l (ℕ_discrete i p)) (λ a. inr (l, inr (rw (next-at t p) at a))) (ih e)

  -- each of the siblings is marked
  pub row-marks : (m p : ℕ) (f : List ℕ) (i : ℕ) → length f ≡ limit → Among limit m t p i
      → get_or (mark_row limit (nexts_of t) m p f) i 0 ≡ 1
  unfolding mark_row
  row-marks zero p f i len a = absurd a
  row-marks (suc m) p f i len a =
      rw (lt-leb limit p a.0) (go a.1 (row-marks m (at t p).next (set f p 1) i (length-set f p 1 ∙ len)))
    where
      go : (i ≡ p) ⊎ Among limit m t (at t p).next i
          → (Among limit m t (at t p).next i → get_or (mark_row limit (nexts_of t) m (at t p).next (set f p 1)) i 0 ≡ 1)
          → get_or (mark_row limit (nexts_of t) m (get_or (nexts_of t) p 0) (set f p 1)) i 0 ≡ 1
      go (inl z) ih =
          row_keeps limit (nexts_of t) m (get_or (nexts_of t) p 0) (set f p 1) i (length-set f p 1 ∙ len)
          (ap (λ (k : ℕ). get_or (set f p 1) k 0) z ∙ get_or-set_same f p 1 0 (let l = a.0 in omega arith))
      go (inr b) ih = rw (next-at t p) (ih b)

  -- i is among the children of some place below n
  abbrev pub Hangs : ℕ → ℕ → Type 0
  Hangs n i = (q : ℕ) × (q < n) × Among limit limit t (at t q).first i

  pub rows-say : (n : ℕ) (f : List ℕ) (i : ℕ) → get_or (mark_rows limit (firsts_of t) (nexts_of t) n f) i 0 ≡ 1
      → (get_or f i 0 ≡ 1) ⊎ Hangs n i
  unfolding mark_rows
  rows-say zero f i e = inl e
  rows-say (suc n) f i e =
      ⊎_elim
      (λ x. ⊎_elim inl (λ b. inr (b.0, (let l = b.1 in omega arith), b.2)) (rows-say n f i x))
      (λ x. inr (n, omega arith, rw (first-at t n) at x))
      (row-says limit (get_or (firsts_of t) n 0) (mark_rows limit (firsts_of t) (nexts_of t) n f) i e)

  pub rows-mark : (n : ℕ) (f : List ℕ) (i : ℕ) → length f ≡ limit → Hangs n i
      → get_or (mark_rows limit (firsts_of t) (nexts_of t) n f) i 0 ≡ 1
  unfolding mark_rows
  rows-mark zero f i len b = absurd (not-suc-le-zero b.1)
  rows-mark (suc n) f i len b = go (ℕ_discrete b.0 n) (rows-mark n f i len)
    where
      go : Dec (b.0 ≡ n) → (Hangs n i → get_or (mark_rows limit (firsts_of t) (nexts_of t) n f) i 0 ≡ 1)
          → get_or (mark_row limit (nexts_of t) limit (get_or (firsts_of t) n 0) (mark_rows limit (firsts_of t) (nexts_of t) n f)) i 0 ≡ 1
      go (yes z) ih =
          row-marks limit (get_or (firsts_of t) n 0) (mark_rows limit (firsts_of t) (nexts_of t) n f) i
          (length-rows limit (nexts_of t) (firsts_of t) n f ∙ len)
          (rw (first-at t n, ← z) b.2)
      go (no z) ih =
          row_keeps limit (nexts_of t) limit (get_or (firsts_of t) n 0) (mark_rows limit (firsts_of t) (nexts_of t) n f) i
          (length-rows limit (nexts_of t) (firsts_of t) n f ∙ len)
          (ih (b.0, (let l = b.1 in omega arith), b.2))

  -- the marks of all rows, from none
  abbrev pub marks : List ℕ
  marks = mark_rows limit (firsts_of t) (nexts_of t) limit (replicate limit 0)

  pub marked-says : (i : ℕ) → get_or marks i 0 ≡ 1 → Hangs limit i
  marked-says i e = ⊎_elim (λ z. absurd (zeros-unmarked limit i z)) (λ b. b) (rows-say limit (replicate limit 0) i e)

  pub marked-shown : (i : ℕ) → Hangs limit i → get_or marks i 0 ≡ 1
  marked-shown i b = rows-mark limit (replicate limit 0) i (length-replicate limit 0) b

  -- "all nodes hang under it": each held place but the top is among the children of some place
  pub hung-says : hung_b limit (serials_of t) (firsts_of t) (nexts_of t) ≡ true → (i : ℕ) → i < limit → (i ≡ 0 → ⊥) → Held t i → Hangs limit i
  unfolding hung_b marked_b
  hung-says e i h z s = marked-says i (eqb-true (get_or marks i 0) 1 (go (every-at (marked_at (serials_of t) marks) limit i e h)))
    where
      held : get_or (serials_of t) i 0 ≡ 0 → ⊥
      held w = let v = sym (get_or-map (λ (n : Node). n.datum.serial) t i zero_node) ∙ w in omega arith

      go : marked_at (serials_of t) marks i ≡ true → eqb (get_or marks i 0) 1 ≡ true
      go x = rw (ne_eqb i 0 z, ne_eqb (get_or (serials_of t) i 0) 0 held) at x

  pub hung-shown : ((i : ℕ) → i < limit → (i ≡ 0 → ⊥) → Held t i → Hangs limit i) → hung_b limit (serials_of t) (firsts_of t) (nexts_of t) ≡ true
  unfolding hung_b marked_b
  hung-shown h = every-all (marked_at (serials_of t) marks) limit each
    where
      serial : (i : ℕ) → get_or (serials_of t) i 0 ≡ (at t i).datum.serial
      serial i = get_or-map (λ (n : Node). n.datum.serial) t i zero_node

      go : (i : ℕ) → i < limit → Dec (i ≡ 0) → Dec (get_or (serials_of t) i 0 ≡ 0) → marked_at (serials_of t) marks i ≡ true
      go i l (yes z) d = rw (eq-eqb i 0 z) refl
      go i l (no z) (yes d) = rw (ne_eqb i 0 z, eq-eqb (get_or (serials_of t) i 0) 0 d) refl
      go i l (no z) (no d) =
          rw (ne_eqb i 0 z, ne_eqb (get_or (serials_of t) i 0) 0 d)
          (eq-eqb (get_or marks i 0) 1 (marked-shown i (h i l z (omega (arith, serial i, d)))))

      each : (i : ℕ) → i < limit → marked_at (serials_of t) marks i ≡ true
      each i l = go i l (ℕ_discrete i 0) (ℕ_discrete (get_or (serials_of t) i 0) 0)
