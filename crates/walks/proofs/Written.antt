-- Writing a list piece by piece into a lent slice, over `sets` of lib.Seq: "written here, the rest unchanged". Assumes nothing.
use mathlib.Core.Path.{◌≡◌, refl, sym, ap, ◌∙◌}
use mathlib.Core.List.{List, [], ◌++◌}
use Prim.Native.Nat.{ℕ, ◌+◌, ◌≤◌}
use native.Mathlib.Omega.{arith}
use lib.ListN.{length, length-append}
use lib.Seq.{sets, length-sets}
pub use Rattle.lists.proofs.Fill.{sets-append}

-- `all` was to be written into l₀ from k₀ on; l is what stands there now, and `rest` is still to be written from k on
pub record Left (all l₀ : List ℕ) (k₀ : ℕ) (rest l : List ℕ) (k : ℕ) : Type 0 where
  pub writes : sets l k rest ≡ sets l₀ k₀ all
  pub counts : k + length rest ≡ k₀ + length all
  pub room : k + length rest ≤ length l

pub begin : {all l : List ℕ} {k : ℕ} → k + length all ≤ length l → Left all l k all l k
begin h = record { writes = refl; counts = refl; room = h }

module _ {all l₀ l : List ℕ} {k₀ k : ℕ} where
  -- one piece
  pub piece : (a rest : List ℕ) {l' : List ℕ} {k' : ℕ} → Left all l₀ k₀ (a ++ rest) l k → l' ≡ sets l k a → k' ≡ k + length a
      → Left all l₀ k₀ rest l' k'
  piece a rest e w i =
      let n = length-append a rest in
      let m = length-sets l k a in
      record {
        writes = rw (w, i) (sym (sets-append a rest l k) ∙ e.writes);
        counts = omega (arith, n, e.counts);
        room = omega (arith, n, m, ap length w, e.room);
      }

  -- there is room for it
  pub piece-room : (a rest : List ℕ) → Left all l₀ k₀ (a ++ rest) l k → k + length a ≤ length l
  piece-room a rest e = omega (arith, length-append a rest, e.room)

  -- the slice stays as long as it was
  pub as_long : (rest : List ℕ) → Left all l₀ k₀ rest l k → length l ≡ length l₀
  as_long rest e = sym (length-sets l k rest) ∙ ap length e.writes ∙ length-sets l₀ k₀ all

  -- the last piece
  pub end : (a : List ℕ) {l' : List ℕ} {k' : ℕ} → Left all l₀ k₀ a l k → l' ≡ sets l k a → k' ≡ k + length a
      → (l' ≡ sets l₀ k₀ all) × (k' ≡ k₀ + length all)
  end a e w i = (w ∙ e.writes, i ∙ e.counts)

  -- nothing is left
  pub done : Left all l₀ k₀ [] l k → (l ≡ sets l₀ k₀ all) × (k ≡ k₀ + length all)
  done e = (e.writes, omega (arith, e.counts))
