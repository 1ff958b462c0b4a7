-- The turns of the loop in `read::decode`.
use Rattle.std.proofs.Common.{◌≡◌, ℕ, suc, ◌+◌, ◌*◌, ◌/◌, ◌%◌, ◌^◌, ◌<◌, ◌≤◌, true, false, Some, None, List, [], ◌∷◌, ◌++◌, length, get_or, take, drop, set, replicate, sym, refl, ap, ◌∙◌, add-one, arith, length-take-le, take_all, take-suc, le-ltb, lt-ltb}
use lib.Seq.{split_at}
use Rattle.hexadecimal.specs.Hex.{pair_of}
use Rattle.frames.specs.Bytes.{pairs, all_bytes, total}
use Rattle.frames.specs.Framing.{padded_bytes}
use Rattle.frames.specs.Inner.{Decodes}
use Rattle.frames.proofs.Lists.{sets-append, length_pairs, pair-at, total-append, all_append}

-- the first i bytes are read
pub record Read (line bytes : List ℕ) (sum i : ℕ) : Type 0 where
  pub within : i ≤ length line / 2
  pub stored : bytes ≡ padded_bytes (take i (pairs line))
  pub added : sum ≡ total (take i (pairs line)) % 256
  pub digits : all_bytes (take i (pairs line)) ≡ true

pub none_read : (line : List ℕ) → Read line (replicate 32 0) 0 0
unfolding total all_bytes
none_read line = record { within = omega arith; stored = refl; added = refl; digits = refl }

module _ (line bytes : List ℕ) (sum i : ℕ) (r : Read line bytes sum i) (more : i < length line / 2) where
  inside : i < length (pairs line)
  inside = omega (arith, length_pairs line)

  length-read : length (take i (pairs line)) ≡ i
  length-read = length-take-le i (pairs line) (omega (arith, length_pairs line))

  one_more : take (i + 1) (pairs line) ≡ take i (pairs line) ++ (get_or (pairs line) i 0 ∷ [])
  one_more = rw add-one (take-suc (pairs line) i 0 inside)

  module _ (b : ℕ) (e : b ≡ pair_of (get_or line (i * 2) 0) (get_or line (i * 2 + 1) 0)) where
    here : get_or (pairs line) i 0 ≡ b
    here = pair-at line i more ∙ sym e

    taken : take (i + 1) (pairs line) ≡ take i (pairs line) ++ (b ∷ [])
    taken = one_more ∙ ap (λ (x : ℕ). take i (pairs line) ++ (x ∷ [])) here

    pub next-read : (s : ℕ) → b < 256 → s ≡ (sum + b) % 2 ^ 8 → Read line (set bytes i b) s (i + 1)
    unfolding total all_bytes
    next-read s small n = record {
      within = omega arith;
      stored =
          ap (λ (l : List ℕ). set l i b) r.stored
          ∙ ap (λ (k : ℕ). set (padded_bytes (take i (pairs line))) k b) (sym length-read ∙ omega arith)
          ∙ sym (sets-append (take i (pairs line)) (b ∷ []) (replicate 32 0) 0)
          ∙ ap padded_bytes (sym taken);
      added = omega (arith, ap total taken, total-append (take i (pairs line)) (b ∷ []), r.added);
      digits = ap all_bytes taken ∙ all_append (take i (pairs line)) (b ∷ []) ∙ simp (r.digits, lt-ltb b 256 small);
    }

  pub no-digits : 256 ≤ pair_of (get_or line (i * 2) 0) (get_or line (i * 2 + 1) 0) → all_bytes (pairs line) ≡ false
  unfolding all_bytes
  no-digits large =
      ap all_bytes (split_at (pairs line) i 0 inside)
      ∙ all_append (take i (pairs line)) (get_or (pairs line) i 0 ∷ drop (suc i) (pairs line))
      ∙ simp (r.digits, pair-at line i more, le-ltb (pair_of (get_or line (i * 2) 0) (get_or line (i * 2 + 1) 0)) 256 large)

pub not-decoded : (line : List ℕ) → all_bytes (pairs line) ≡ false → Decodes line None
not-decoded line e = record { good = sym e; bytes = tt; sum = tt }

pub decoded : (line bytes : List ℕ) (sum i : ℕ) → Read line bytes sum i → length line / 2 ≤ i
    → Decodes line (Some (record { bytes = bytes; sum = sum }))
decoded line bytes sum i r h =
    let all : take i (pairs line) ≡ pairs line = take_all i (pairs line) (omega (arith, length_pairs line)) in
    record {
      good = sym (ap all_bytes (sym all) ∙ r.digits);
      bytes = r.stored ∙ ap padded_bytes all;
      sum = r.added ∙ ap (λ (l : List ℕ). total l % 256) all;
    }
