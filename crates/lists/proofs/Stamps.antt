-- Residues are stamped with a mark: by the pass over all serials, where the mark is 1, and by the walk of a class, where it is the class's own.
-- Assumes nothing.
use mathlib.Core.Path.{◌≡◌, sym, ap, ◌∙◌}
use mathlib.Core.List.{List}
use mathlib.Core.Logic.{◌⊎◌, inl, inr}
use Prim.Native.Nat.{ℕ, ◌%◌, ◌<◌, ◌≤◌}
use native.Mathlib.Omega.{arith}
use native.Mathlib.Decide.{ℕ_discrete}
use lib.ListN.{length, get_or, set, length-set}
use lib.Seq.{get_or-set_same, get_or-set_other}

-- the residue of the serial at i
abbrev pub residue_at : List ℕ → ℕ → ℕ
residue_at s i = get_or s i 0 % 4096

abbrev pub Some : List ℕ → ℕ → Type 0
Some s i = get_or s i 0 ≡ 0 → ⊥

-- the mark stands exactly at the residues of the serials other than 0 at the places that were passed
pub record Stamped (s : List ℕ) (mark : ℕ) (Past : ℕ → Type 0) (stamp : List ℕ) : Type 0 where
  pub size : length stamp ≡ 4096
  pub stands : (i : ℕ) → Past i → Some s i → get_or stamp (residue_at s i) 0 ≡ mark
  pub from : (r : ℕ) → get_or stamp r 0 ≡ mark → (i : ℕ) × Past i × Some s i × (residue_at s i ≡ r)

module _ {s : List ℕ} {mark : ℕ} {Past Next : ℕ → Type 0} (wider : (i : ℕ) → Past i → Next i) {stamp : List ℕ} (z : Stamped s mark Past stamp) where
  -- nothing but unheld places is passed
  pub stamped-same : ((i : ℕ) → Next i → Some s i → Past i) → Stamped s mark Next stamp
  stamped-same back =
      record {
        size = z.size;
        stands = λ i n m. z.stands i (back i n m) m;
        from = λ r e. let w = z.from r e in (w.0, wider w.0 w.1, w.2, w.3);
      }

  -- one place more is passed
  module _ (p : ℕ) (here : Next p) (m : Some s p) (back : (i : ℕ) → Next i → Past i ⊎ (i ≡ p)) where
    at : get_or (set stamp (residue_at s p) mark) (residue_at s p) 0 ≡ mark
    at = let l = z.size in get_or-set_same stamp (residue_at s p) mark 0 (omega arith)

    stood : (i : ℕ) → Past i ⊎ (i ≡ p) → Some s i → get_or (set stamp (residue_at s p) mark) (residue_at s i) 0 ≡ mark
    stood i (inr e) n = ap (λ (k : ℕ). get_or (set stamp (residue_at s p) mark) (residue_at s k) 0) e ∙ at
    stood i (inl o) n = go (ℕ_discrete (residue_at s i) (residue_at s p))
      where
        go : Dec (residue_at s i ≡ residue_at s p) → get_or (set stamp (residue_at s p) mark) (residue_at s i) 0 ≡ mark
        go (yes e) = ap (λ (k : ℕ). get_or (set stamp (residue_at s p) mark) k 0) e ∙ at
        go (no e) = get_or-set_other stamp (residue_at s p) (residue_at s i) mark 0 e ∙ z.stands i o n

    came : (r : ℕ) → Dec (r ≡ residue_at s p) → get_or (set stamp (residue_at s p) mark) r 0 ≡ mark
        → (i : ℕ) × Next i × Some s i × (residue_at s i ≡ r)
    came r (yes e) q = (p, here, m, sym e)
    came r (no e) q =
        let w = z.from r (sym (get_or-set_other stamp (residue_at s p) r mark 0 e) ∙ q) in
        (w.0, wider w.0 w.1, w.2, w.3)

    pub stamped-more : Stamped s mark Next (set stamp (residue_at s p) mark)
    stamped-more =
        record {
          size = length-set stamp (residue_at s p) mark ∙ z.size;
          stands = λ i n. stood i (back i n);
          from = λ r. came r (ℕ_discrete r (residue_at s p));
        }

-- no stamp is above the mark, before and after
pub stamps-low : (stamp : List ℕ) (p mark : ℕ) → ((r : ℕ) → get_or stamp r 0 ≤ mark) → p < length stamp
    → (r : ℕ) → get_or (set stamp p mark) r 0 ≤ mark
stamps-low stamp p mark low h r = go (ℕ_discrete r p)
  where
    go : Dec (r ≡ p) → get_or (set stamp p mark) r 0 ≤ mark
    go (yes e) = rw e (let y = get_or-set_same stamp p mark 0 h in omega arith)
    go (no e) = rw (get_or-set_other stamp p r mark 0 e) (low r)
