-- The walk of the classes: what is known of those that are done, and of the places of one that were visited, down to a bound. Assumes nothing.
use mathlib.Core.Path.{◌≡◌, sym, ap, ◌∙◌}
use mathlib.Core.List.{List}
use mathlib.Core.Bool.{true, false}
use mathlib.Core.Logic.{◌⊎◌, inl, inr}
use Prim.Native.Nat.{ℕ, ◌+◌, ◌/◌, ◌%◌, ◌<◌, ◌≤◌}
use native.Mathlib.Nat.{not-suc-le-zero}
use native.Mathlib.Omega.{arith}
use native.Mathlib.Decide.{ℕ_discrete, dec_le}
use lib.ListN.{length, get_or, set}
use Rattle.lists.specs.Lists.{limit, zeros}
use Rattle.lists.specs.Search.{differ, apart_below}
use Rattle.lists.specs.Inner.{Low, class_at}
use Rattle.lists.proofs.Scan.{every-fails}
use Rattle.lists.proofs.Look.{twice}
use Rattle.lists.proofs.Found.{differ-all}
use Rattle.lists.proofs.Padded.{get_or-zeros, length-zeros}
use Rattle.lists.proofs.Chains.{Leads}
use Rattle.lists.proofs.Stamps.{residue_at, Some, Stamped, stamped-same, stamped-more, stamps-low}

-- serials of one class and one residue are equal
same : (a b : ℕ) → a / 4096 ≡ b / 4096 → a % 4096 ≡ b % 4096 → a ≡ b
same a b q r = omega arith

module _ (s : List ℕ) where
  -- ---- the classes that are done

  -- the serials of the classes below h stand once, and no stamp is above h
  pub record Done (h : ℕ) (stamp : List ℕ) : Type 0 where
    pub size : length stamp ≡ 4096
    pub low : (r : ℕ) → get_or stamp r 0 ≤ h
    pub once : (i j : ℕ) → i < limit → j < limit → class_at s i < h → Some s i → get_or s i 0 ≡ get_or s j 0 → i ≡ j

  pub done_none : Done 0 (zeros 4096)
  done_none =
      record {
        size = length-zeros 4096;
        low = none 4096;
        once = λ i j a b h. absurd (not-suc-le-zero h);
      }
    where
      none : (n r : ℕ) → get_or (zeros n) r 0 ≤ 0
      none n r = let z = get_or-zeros n r in omega arith

  pub done_all : Low s → {h : ℕ} {stamp : List ℕ} → 256 ≤ h → Done h stamp → differ limit s ≡ true
  done_all low {h} b d = differ-all limit s (λ i j x y. d.once i j x y (small i x))
    where
      small : (i : ℕ) → i < limit → class_at s i < h
      small i x = let l = low i x in omega arith

  -- ---- the places of a class

  -- a place of class h, at b or behind
  abbrev pub Member : ℕ → ℕ → ℕ → Type 0
  Member h b i = (b ≤ i) × (i < limit) × (class_at s i ≡ h)

  -- those have stamped their residues, no two the same, and no stamp is above theirs
  pub record Visited (h b : ℕ) (stamp : List ℕ) : Type 0 where
    pub stamped : Stamped s (h + 1) (Member h b) stamp
    pub low : (r : ℕ) → get_or stamp r 0 ≤ h + 1
    pub once : (i j : ℕ) → Member h b i → Member h b j → Some s i → get_or s i 0 ≡ get_or s j 0 → i ≡ j

  module _ (h : ℕ) where
    pub visited-none : {stamp : List ℕ} → Done h stamp → Visited h limit stamp
    visited-none {stamp} d =
        record {
          stamped = record {
            size = d.size;
            stands = λ i m. absurd (none i m.0 m.1);
            from = λ r e. absurd (unstamped r e);
          };
          low = λ r. let l = d.low r in omega arith;
          once = λ i j m. absurd (none i m.0 m.1);
        }
      where
        none : (i : ℕ) → limit ≤ i → i < limit → ⊥
        none i a b = omega arith

        unstamped : (r : ℕ) → get_or stamp r 0 ≡ h + 1 → ⊥
        unstamped r e = let l = d.low r in omega arith

    -- on to the next place of the class
    pub visited-on : {b c : ℕ} {stamp : List ℕ} → Leads s h b c → Visited h b stamp → Visited h c stamp
    visited-on {b} {c} {stamp} l v =
        record {
          stamped = stamped-same wider v.stamped (λ i m n. back i m);
          low = v.low;
          once = λ i j m n. v.once i j (back i m) (back j n);
        }
      where
        wider : (i : ℕ) → Member h b i → Member h c i
        wider i m = let k = l.most in (omega arith, m.1, m.2)

        back : (i : ℕ) → Member h c i → Member h b i
        back i m = go (dec_le b i)
          where
            go : Dec (b ≤ i) → Member h b i
            go (yes a) = (a, m.1, m.2)
            go (no a) = absurd (l.past i m.0 (omega arith) m.2)

    -- the place p is visited
    module _ (p : ℕ) {c : ℕ} (next : c ≡ p + 1) {stamp : List ℕ} (u : Visited h c stamp) where
      v : Visited h (p + 1) stamp
      v = rw next at u

      wider : (i : ℕ) → Member h (p + 1) i → Member h p i
      wider i m = (omega arith, m.1, m.2)

      back : (i : ℕ) → Member h p i → Member h (p + 1) i ⊎ (i ≡ p)
      back i m = go (ℕ_discrete i p)
        where
          go : Dec (i ≡ p) → Member h (p + 1) i ⊎ (i ≡ p)
          go (yes e) = inr e
          go (no e) = inl (omega arith, m.1, m.2)

      pub visited-zero : get_or s p 0 ≡ 0 → Visited h p stamp
      visited-zero z =
          record {
            stamped = stamped-same wider v.stamped (λ i m n. held i (back i m) n);
            low = v.low;
            once = λ i j m n q e. v.once i j (held i (back i m) q) (held j (back j n) (λ y. q (e ∙ y))) q e;
          }
        where
          held : (i : ℕ) → Member h (p + 1) i ⊎ (i ≡ p) → Some s i → Member h (p + 1) i
          held i (inl m) n = m
          held i (inr e) n = absurd (n (ap (λ (k : ℕ). get_or s k 0) e ∙ z))

      module _ (b : p < limit) (k : class_at s p ≡ h) (m : Some s p) where
        pub visited-more : (get_or stamp (residue_at s p) 0 ≡ h + 1 → ⊥) → Visited h p (set stamp (residue_at s p) (h + 1))
        visited-more new =
            record {
              stamped = stamped-more wider v.stamped p (omega arith, b, k) m back;
              low = stamps-low stamp (residue_at s p) (h + 1) v.low (let z = v.stamped.size in omega arith);
              once = λ i j x y. alone i j (back i x) (back j y);
            }
          where
            fresh : (i : ℕ) → Member h (p + 1) i → get_or s i 0 ≡ get_or s p 0 → ⊥
            fresh i x e =
                new
                (ap (λ (a : ℕ). get_or stamp (a % 4096) 0) (sym e) ∙ v.stamped.stands i x (λ z. m (sym e ∙ z)))

            alone : (i j : ℕ) → Member h (p + 1) i ⊎ (i ≡ p) → Member h (p + 1) j ⊎ (j ≡ p) → Some s i → get_or s i 0 ≡ get_or s j 0 → i ≡ j
            alone i j (inl x) (inl y) n e = v.once i j x y n e
            alone i j (inl x) (inr y) n e = absurd (fresh i x (e ∙ ap (λ (a : ℕ). get_or s a 0) y))
            alone i j (inr x) (inl y) n e = absurd (fresh j y (sym e ∙ ap (λ (a : ℕ). get_or s a 0) x))
            alone i j (inr x) (inr y) n e = x ∙ sym y

        -- its stamp stands already
        pub visited-twice : get_or stamp (residue_at s p) 0 ≡ h + 1 → differ limit s ≡ false
        unfolding differ
        visited-twice e =
            let w = v.stamped.from (residue_at s p) e in
            let q = same (get_or s p 0) (get_or s w.0 0) (k ∙ sym w.1.2) (sym w.3) in
            every-fails (apart_below s) limit w.0 w.1.1 (twice s w.0 p (omega (arith, w.1.0)) w.2 q)

    pub done_more : {stamp stamp' : List ℕ} → Done h stamp → Visited h 0 stamp' → Done (h + 1) stamp'
    done_more d v =
        record {
          size = v.stamped.size;
          low = v.low;
          once = λ i j a b c n e. go i j a b c n e (ℕ_discrete (class_at s i) h);
        }
      where
        go : (i j : ℕ) → i < limit → j < limit → class_at s i < h + 1 → Some s i → get_or s i 0 ≡ get_or s j 0 → Dec (class_at s i ≡ h) → i ≡ j
        go i j a b c n e (no q) = d.once i j a b (omega arith) n e
        go i j a b c n e (yes q) =
            v.once i j (omega arith, a, q) (omega arith, b, ap (λ (x : ℕ). x / 4096) (sym e) ∙ q) n e
