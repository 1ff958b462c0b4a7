-- Booking: the block that takes the place of a free piece keeps the tree as it must be, and its places are new.
use mathlib.Core.Path.{◌≡◌, ◌∙◌}
use mathlib.Core.Logic.{◌⊎◌, inl, inr, ⊎_elim}
use Prim.Native.Nat.{ℕ}
use Rattle.piece.specs.declared.node.Datum.{Datum}
use Rattle.piece.specs.declared.node.Kind.TheVariants.{Free}
use Rattle.piece.specs.declared.settings.Settings.{Settings}
use Rattle.piece.specs.Row.{grow}
use Rattle.tree.specs.Tree.{Tree, In, At, Distinct, change, rest}
use Rattle.tree.specs.Sound.{Children, Topped}
use Rattle.tree.specs.Booking.{Booking, block, booked_row, book}
use Rattle.tree.specs.Accepted.{Fitting, Fresh}
use Rattle.tree.proofs.Rows.{in-eq, after-nil, in_after, distinct-after}
use Rattle.tree.proofs.Kept.{Alone, only, not_top, free-alone, Exchange, topped}
use Rattle.tree.proofs.Places.{in-less, gone, distinct-change}
use Rattle.tree.proofs.Blocks.{New, block_in, block-distinct, block-exchange}

booked-exchange : (settings : Settings) (b : Booking) (d : Datum) → Fitting settings d b → (q e : Datum) (y : ℕ) (k r : Tree)
    → Alone d e k r → Children settings q (grow y e k r) → Exchange settings q (grow y e k r) (booked_row b e r)
booked-exchange settings b d f q e y k r z = rw (z.0, z.1, z.2, after-nil (block b d)) (block-exchange settings b q d y f)

pub book-topped : (settings : Settings) (x : ℕ) (d : Datum) (b : Booking) (t : Tree) → Topped settings t → Distinct t → At x d t
    → d.kind ≡ Free → Fitting settings d b → Topped settings (book x b t)
book-topped settings x d b t h u i a f =
    topped settings x (booked_row b) (Alone d) (booked-exchange settings b d f) t h
    (not_top settings x d t h (only x d t u i) a) (free-alone settings x d t h u i a)

-- the places of the row with the block
pub booked-in : (b : Booking) (i : ℕ) (d : Datum) (r : Tree) → In i (booked_row b d r) → In i (rest d r) ⊎ New b i
booked-in b i d r h = ⊎_elim (λ z. inr (block_in b d i z)) inl (in_after i (block b d) r h)

pub book-distinct : (limit x : ℕ) (b : Booking) (t : Tree) → Distinct t → Fresh limit x b t → Distinct (book x b t)
book-distinct limit x b t u f =
    distinct-change x rest (booked_row b) (New b) (booked-in b) (λ i d r h. h)
    (λ d r v m. distinct-after (block b d) r (block-distinct b d f.apart) v (λ i h g. m i (block_in b d i h) g)) t u
    (λ i z h. gone x rest (λ j d r o. o) t u (in-eq (change x rest t) (held i z (in-less x rest (λ j d r o. o) i t h)) h))
  where
    held : (i : ℕ) → New b i → In i t → i ≡ x
    held i z h = z.2 ∙ f.unheld z.0 z.1 (in-eq t z.2 h)
