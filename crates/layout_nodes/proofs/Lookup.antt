-- The column that says where each place of a list stands: the loop that makes it, the look-up in it, and what becomes of it when the final entry
-- goes into a hole. It rests on what `lists` says of a search. Assumes nothing.
use mathlib.Core.Path.{◌≡◌, refl, sym, ap, ◌∙◌}
use mathlib.Core.List.{List}
use mathlib.Core.Logic.{◌⊎◌, inl, inr, ⊎_elim}
use Prim.Native.Nat.{ℕ, suc, ◌+◌, ◌-◌, ◌<◌, ◌≤◌}
use native.Mathlib.Omega.{arith}
use native.Mathlib.Decide.{ℕ_discrete, dec_lt}
use borrow.Author.Tests.{eq-eqb, ne_eqb}
use lib.ListN.{get_or, set, length, replicate, length-set, length-replicate, get_or-replicate}
use lib.Seq.{ext_get_or, get_or-set_same, get_or-set_other}
use Rattle.tree.specs.ListSteps.{strike_all}
use Rattle.lists.specs.Lists.{limit, swap_out}
use Rattle.lists.specs.Search.{first_from, stands_at, index_of}
use Rattle.lists.proofs.Found.{index-most, index-holds, index-found}
use Rattle.lists.proofs.Named.{length-column, get_or-column}
use Rattle.lists.proofs.Padded.{length-padded}
use Rattle.layout_nodes.specs.declared.listing.Listing.{Listing}
use Rattle.layout_nodes.specs.Listings.{Kept, entries_of}
use Rattle.layout_nodes.specs.Spots.{spots_of}
use Rattle.layout_nodes.specs.Inner.{Single, Spotted}
use Rattle.layout_nodes.proofs.Listed.{get_or-entries, length-entries, padded-entries, room-entries, strike-none, strike-one}
use Rattle.layout_nodes.proofs.Listed.{strike-each, Left, left-start, left-more}

-- ---- the column is made

-- the entries from i on are passed
pub record Spotting (l : List ℕ) (n i : ℕ) (spots : List ℕ) : Type 0 where
  pub size : length spots ≡ limit
  pub at : (p : ℕ) → p < limit → get_or spots p 0 ≡ first_from (stands_at l p) (n - i) i

module _ (l : List ℕ) (n : ℕ) where
  pub spotting-none : Spotting l n n (replicate limit n)
  unfolding first_from
  spotting-none =
      let z : n - n ≡ 0 = omega arith in
      record { size = length-replicate limit n; at = λ p h. get_or-replicate limit p n 0 h ∙ rw z refl }

  -- one entry more
  module _ (j : ℕ) (h : j < n) where
    here : (p : ℕ) → get_or l j 0 ≡ p → first_from (stands_at l p) (n - j) j ≡ j
    unfolding first_from
    here p e = let z : n - j ≡ suc (n - (j + 1)) = omega arith in rw (z, eq-eqb (get_or l j 0) p e) refl

    on : (p : ℕ) → (get_or l j 0 ≡ p → ⊥) → first_from (stands_at l p) (n - j) j ≡ first_from (stands_at l p) (n - (j + 1)) (j + 1)
    unfolding first_from
    on p e = let z : n - j ≡ suc (n - (j + 1)) = omega arith in rw (z, ne_eqb (get_or l j 0) p e) refl

    module _ {i : ℕ} (next : i ≡ j + 1) {spots : List ℕ} (s : Spotting l n i spots) where
      old : (p : ℕ) → p < limit → (get_or l j 0 ≡ p → ⊥) → get_or spots p 0 ≡ first_from (stands_at l p) (n - j) j
      old p b e = s.at p b ∙ ap (λ (k : ℕ). first_from (stands_at l p) (n - k) k) next ∙ sym (on p e)

      pub spotting-more : get_or l j 0 < limit → Spotting l n j (set spots (get_or l j 0) j)
      spotting-more low =
          record {
            size = length-set spots (get_or l j 0) j ∙ s.size;
            at = λ p b. go p b (ℕ_discrete p (get_or l j 0));
          }
        where
          go : (p : ℕ) → p < limit → Dec (p ≡ get_or l j 0) → get_or (set spots (get_or l j 0) j) p 0 ≡ first_from (stands_at l p) (n - j) j
          go p b (yes e) =
              let z = s.size in
              rw (here p (sym e), e) (get_or-set_same spots (get_or l j 0) j 0 (omega arith))
          go p b (no e) = get_or-set_other spots (get_or l j 0) p j 0 e ∙ old p b (λ f. e (sym f))

      pub spotting-past : limit ≤ get_or l j 0 → Spotting l n j spots
      spotting-past high = record { size = s.size; at = λ p b. old p b (λ e. omega arith) }

  pub spots-size : length (spots_of l n) ≡ limit
  unfolding spots_of
  spots-size = length-column (index_of l n) limit 0

  pub spots-at : (p : ℕ) → p < limit → get_or (spots_of l n) p 0 ≡ index_of l n p
  unfolding spots_of
  spots-at p b = get_or-column (index_of l n) limit 0 p b ∙ ap (index_of l n) (omega arith)

  pub spotting-all : {i : ℕ} {spots : List ℕ} → i ≡ 0 → Spotting l n i spots → spots ≡ spots_of l n
  unfolding index_of
  spotting-all {i} {spots} e s =
      ext_get_or 0 spots (spots_of l n) (s.size ∙ sym spots-size) (λ p b. let z = s.size in one p (omega arith))
    where
      one : (p : ℕ) → p < limit → get_or spots p 0 ≡ get_or (spots_of l n) p 0
      one p b = let z : n - i ≡ n = omega arith in (rw (z, e) at (s.at p b)) ∙ sym (spots-at p b)

-- ---- a place is looked up

module _ {l spots : List ℕ} {n : ℕ} (s : Spotted l n spots) (p : ℕ) where
  says : (k : ℕ) → k < n → get_or l k 0 ≡ p → (p < limit) × (get_or spots p 0 ≡ k)
  says k b e = (rw e at (s.low k b), rw e at (s.back k b))

  pub spot-found : get_or spots p 0 < n → get_or l (get_or spots p 0) 0 ≡ p → get_or spots p 0 ≡ index_of l n p
  spot-found b e =
      let f = index-found l n p (get_or spots p 0) b e in
      let c : index_of l n p < n = omega arith in
      (says (index_of l n p) c (index-holds l n p c)).1

  pub spot-missing : (p < limit → get_or spots p 0 < n → get_or l (get_or spots p 0) 0 ≡ p → ⊥) → n ≡ index_of l n p
  spot-missing none = go (dec_lt (index_of l n p) n)
    where
      go : Dec (index_of l n p < n) → n ≡ index_of l n p
      go (yes b) =
          let e = index-holds l n p b in
          let c = says (index_of l n p) b e in
          absurd (none c.0 (rw c.1 b) (rw c.1 e))
      go (no b) = let m = index-most l n p in omega arith

-- ---- the final entry goes into a hole

-- the array of a list that is held so
pub kept-size : {m : Listing} → Kept m → length m.list ≡ limit
kept-size {m} kept = ap length (padded-entries kept) ∙ length-padded limit (entries_of m) (room-entries kept)

module _ {m : Listing} (kept : Kept m) (single : Single (entries_of m)) where
  pub spotted-start : Spotted m.list m.count (spots_of m.list m.count)
  spotted-start = record { low = low; back = back }
    where
      l : List ℕ
      l = m.list

      n : ℕ
      n = m.count

      in-entries : (k : ℕ) → k < n → k < length (entries_of m)
      in-entries k b = let z = length-entries kept in omega arith

      low : (k : ℕ) → k < n → get_or l k 0 < limit
      low k b = rw (get_or-entries kept k) (single.low k (in-entries k b))

      back : (k : ℕ) → k < n → get_or (spots_of l n) (get_or l k 0) 0 ≡ k
      back k b =
          let p = get_or l k 0 in
          let f = index-found l n p k b refl in
          let c : index_of l n p < n = omega arith in
          spots-at l n p (low k b)
          ∙ single.once (index_of l n p) k (in-entries (index_of l n p) c) (in-entries k b)
          (sym (get_or-entries kept (index_of l n p)) ∙ index-holds l n p c ∙ get_or-entries kept k)

module _ {l spots : List ℕ} {n : ℕ} (s : Spotted l n spots) (size : length spots ≡ limit) (room : n ≤ length l) (k : ℕ) (b : k < n) where
  abbrev final : ℕ
  final = get_or l (n - 1) 0

  -- what stands at j then
  stands : (j : ℕ) → j < n - 1 → ((j ≡ k) × (get_or (swap_out l n k) j 0 ≡ final)) ⊎ ((j ≡ k → ⊥) × (get_or (swap_out l n k) j 0 ≡ get_or l j 0))
  unfolding swap_out
  stands j c = go (ℕ_discrete j k)
    where
      outer : get_or (set (set l k final) (n - 1) 0) j 0 ≡ get_or (set l k final) j 0
      outer = get_or-set_other (set l k final) (n - 1) j 0 0 (λ e. omega arith)

      go : Dec (j ≡ k) → ((j ≡ k) × (get_or (set (set l k final) (n - 1) 0) j 0 ≡ final))
          ⊎ ((j ≡ k → ⊥) × (get_or (set (set l k final) (n - 1) 0) j 0 ≡ get_or l j 0))
      go (yes e) = inl (e, outer ∙ rw e (get_or-set_same l k final 0 (omega arith)))
      go (no e) = inr (e, outer ∙ get_or-set_other l k j final 0 e)

  pub spotted-swap : Spotted (swap_out l n k) (n - 1) (set spots (get_or l (n - 1) 0) k)
  spotted-swap = record { low = low; back = back }
    where
      low : (j : ℕ) → j < n - 1 → get_or (swap_out l n k) j 0 < limit
      low j c = ⊎_elim (λ e. rw e.1 (s.low (n - 1) (omega arith))) (λ e. rw e.1 (s.low j (omega arith))) (stands j c)

      -- the final entry stands nowhere else
      apart : (j : ℕ) → j < n - 1 → get_or l j 0 ≡ final → ⊥
      apart j c e =
          let f = s.back j (omega arith) in
          let g = s.back (n - 1) (omega arith) in
          let h : j ≡ n - 1 = sym f ∙ ap (λ (p : ℕ). get_or spots p 0) e ∙ g in
          omega arith

      back : (j : ℕ) → j < n - 1 → get_or (set spots final k) (get_or (swap_out l n k) j 0) 0 ≡ j
      back j c =
          ⊎_elim
          (λ e. let d = s.low (n - 1) (omega arith) in
          rw e.1 (get_or-set_same spots final k 0 (omega arith) ∙ sym e.0))
          (λ e. rw e.1 (get_or-set_other spots final (get_or l j 0) k 0 (apart j c) ∙ s.back j (omega arith)))
          (stands j c)

-- ---- the loop that strikes places out

-- m is what the first i places of the order leave of xs, and the column says where each entry stands
pub record Struck (xs order : List ℕ) (i : ℕ) (m : Listing) (spots : List ℕ) : Type 0 where
  pub left : Left strike_all xs order i m
  pub spotted : Spotted m.list m.count spots
  pub size : length spots ≡ limit

pub struck-start : (order : List ℕ) {m : Listing} → Kept m → Single (entries_of m) → {spots : List ℕ} → spots ≡ spots_of m.list m.count
    → Struck (entries_of m) order 0 m spots
struck-start order {m} kept single e =
    record {
      left = left-start strike-each order kept;
      spotted = rw e (spotted-start kept single);
      size = rw e (spots-size m.list m.count);
    }

module _ {xs order : List ℕ} {i : ℕ} {m : Listing} {spots : List ℕ} (w : Struck xs order i m spots) {at : ℕ}
    (f : at ≡ index_of m.list m.count (get_or order i 0)) where
  pub struck-one : at < m.count → {v : ℕ} → v ≡ get_or m.list (m.count - 1) 0 → {list : List ℕ} → list ≡ swap_out m.list m.count at
      → Struck xs order (i + 1) (record { list = list; count = m.count - 1 }) (set spots v at)
  struck-one b {v} g {list} e =
      record {
        left = left-more strike-each order w.left (strike-one w.left.kept (get_or order i 0) f b e);
        spotted =
            let n = kept-size w.left.kept in
            rw (g, e) (spotted-swap w.spotted w.size (omega (arith, w.left.kept.room)) at b);
        size = length-set spots v at ∙ w.size;
      }

  pub struck-none : m.count ≤ at → Struck xs order (i + 1) m spots
  struck-none b =
      record {
        left = left-more strike-each order w.left (strike-none w.left.kept (get_or order i 0) f b);
        spotted = w.spotted;
        size = w.size;
      }
