-- The serials after a removal: the new free piece has the next one. It rests on the pieces that a removal leaves (Pieces).
use mathlib.Core.Path.{◌≡◌, refl, sym, ap, ◌∙◌}
use mathlib.Core.List.{List}
use mathlib.Core.Logic.{◌⊎◌, inl, inr, ⊎_elim}
use Prim.Native.Nat.{ℕ, ◌+◌, ◌≤◌}
use native.Mathlib.Omega.{arith}
use Rattle.piece.specs.declared.node.Datum.{Datum}
use Rattle.piece.specs.declared.node.Kind.TheVariants.{Free}
use Rattle.piece.specs.declared.settings.Settings.{Settings}
use Rattle.tree.specs.Tree.{Tree, In, At}
use Rattle.tree.specs.Sound.{Sound}
use Rattle.tree.specs.Removal.{remove, cleared}
use Rattle.tree.specs.Apart.{Removable}
use Rattle.tree.specs.Pieces.{Serials, max_serial}
use Rattle.tree.proofs.Stays.{cleared_at}
use Rattle.table.specs.declared.Node.{Node}
use Rattle.table.specs.Table.{Holds}
use Rattle.removal.specs.Remove.{new_free}
use Rattle.removal.proofs.Pieces.{remove-pieces}

-- what the new piece is
pub new-serial : (t : List Node) (x last : ℕ) → (new_free t x last).serial ≡ last + 1
unfolding new_free
new-serial t x last = refl

pub new-free : (t : List Node) (x last : ℕ) → (new_free t x last).kind ≡ Free
unfolding new_free
new-free t x last = refl

module _ (limit : ℕ) (settings : Settings) (t : List Node) (w : Tree) (sound : Sound limit settings w) (h : Holds limit t w)
    (x : ℕ) (z : Removable x w) (n last : ℕ) (unheld : In n (cleared x w) → ⊥) (serials : Serials w last) where
  abbrev w' : Tree
  w' = remove x n (last + 1) w

  -- a piece has a serial of before, or is the new one and has the next
  serial-is : (i : ℕ) (e : Datum) → At i e w' → At i e w ⊎ ((i ≡ n) × (e.serial ≡ last + 1))
  serial-is i e y =
      ⊎_elim (λ v. inl (cleared_at i e x w v))
      (λ v. inr (v.0, ap (λ (f : Datum). f.serial) v.1 ∙ new-serial t x last))
      (remove-pieces limit settings t w sound h x z n last unheld i e y)

  pub remove-serials : last + 1 ≤ max_serial → Serials w' (last + 1)
  remove-serials room =
      record {
        differ = λ i j d e y v s. differ i j d e s (serial-is i d y) (serial-is j e v);
        least = λ i d y. ⊎_elim (serials.least i d) (λ v. let e = v.1 in omega arith) (serial-is i d y);
        most = λ i d y. ⊎_elim (λ v. let m = serials.most i d v in omega arith) (λ v. let e = v.1 in omega arith) (serial-is i d y);
        spent = room;
      }
    where
      differ : (i j : ℕ) (d e : Datum) → d.serial ≡ e.serial → At i d w ⊎ ((i ≡ n) × (d.serial ≡ last + 1))
          → At j e w ⊎ ((j ≡ n) × (e.serial ≡ last + 1)) → i ≡ j
      differ i j d e s (inl y) (inl v) = serials.differ i j d e y v s
      differ i j d e s (inl y) (inr v) = let m = serials.most i d y in omega arith
      differ i j d e s (inr y) (inl v) = let m = serials.most j e v in omega arith
      differ i j d e s (inr y) (inr v) = y.0 ∙ sym v.0
