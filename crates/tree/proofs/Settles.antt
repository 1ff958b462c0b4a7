-- A piece that settles in a row: of two rows that are one but for the marks it makes two that are; and it may settle before or after a walk over the row that
-- takes some of its pieces out and leaves the others where they are. Tidying (Tidied) and many deeds at once (AtOnce) are such walks. Assumes nothing.
use mathlib.Core.Path.{◌≡◌, refl, sym, ◌∙◌}
use mathlib.Core.Bool.{Bool, true, false, cond, ◌&&◌}
use mathlib.Core.Logic.{◌⊎◌, inl, inr}
use mathlib.Core.Option.{some}
use Prim.Native.Nat.{ℕ}
use Rattle.piece.specs.declared.orientation.Orientation.{Orientation}
use Rattle.piece.specs.declared.size.Size.{Size}
use Rattle.piece.specs.declared.node.Datum.{Datum}
use Rattle.piece.specs.declared.settings.Settings.{Settings}
use Rattle.piece.specs.Row.{nil, grow}
use Rattle.piece.specs.Kinds.{is_free}
use Rattle.tree.specs.Tree.{Tree, is_nil, after}
use Rattle.tree.specs.Sound.{Child, Children}
use Rattle.tree.specs.Snapshot.{shape, unmarked}
use Rattle.tree.specs.Removal.{freed, spare, board, last_free, without_last, settled}
use Rattle.tree.proofs.Kept.{free-kind}
use Rattle.tree.proofs.Removals.{settled-past, settled-join, shape-settled, twice}

-- What settles in two rows of one shape is of one shape.

nil-shape : (r : Tree) → is_nil (shape r) ≡ is_nil r
nil-shape nil = refl
nil-shape (grow p d k r) = refl

shape-without : (r : Tree) → shape (without_last r) ≡ without_last (shape r)
shape-without nil = refl
shape-without (grow p d k r) = rw (nil-shape r) (go (is_free d.kind && is_nil r) (shape-without r))
  where
    go : (b : Bool) → shape (without_last r) ≡ without_last (shape r)
        → shape (cond b nil (grow p d k (without_last r))) ≡ cond b nil (grow 0 (unmarked d) (shape k) (without_last (shape r)))
    go true ih = refl
    go false ih = rw ih refl

spare-shape : (c : Orientation) (r : Tree) → spare c (last_free (shape r)) ≡ spare c (last_free r)
spare-shape c nil = refl
spare-shape c (grow p d k r) = rw (nil-shape r) (go (is_free d.kind && is_nil r) (spare-shape c r))
  where
    go : (b : Bool) → spare c (last_free (shape r)) ≡ spare c (last_free r)
        → spare c (cond b (some (unmarked d)) (last_free (shape r))) ≡ spare c (cond b (some d) (last_free r))
    go true ih = refl
    go false ih = ih

settled-of-shape : (n s : ℕ) (d : Datum) (r : Tree)
    → shape (settled n s d r) ≡ after (without_last (shape r)) (grow 0 (unmarked (freed 0 d (board d (last_free (shape r))))) nil nil)
unfolding board
settled-of-shape n s d r = shape-settled n s d r ∙ rw (shape-without r, spare-shape d.cut r) refl

pub settled-shape : (n s : ℕ) (d : Datum) (a b : Tree) → shape a ≡ shape b → shape (settled n s d a) ≡ shape (settled n s d b)
settled-shape n s d a b e = settled-of-shape n s d a ∙ rw e (sym (settled-of-shape n s d b))

-- A walk W over rows, at a piece that is not free: it stays before what is behind it, with other children perhaps; or it is taken out of that.
abbrev pub Keeps : (Tree → Tree) → ℕ → Datum → Tree → Type 0
Keeps W p e k = (l : Tree) × ((r : Tree) → W (grow p e k r) ≡ grow p e l (W r))

abbrev pub TakesOut : (Tree → Tree) → ℕ → Datum → Tree → Type 0
TakesOut W p e k = (m : ℕ) × (u : ℕ) × ((r : Tree) → W (grow p e k r) ≡ settled m u e (W r))

-- The piece d of a row of q's children settles, and then the walk goes over the row; or the other way round. `Row` is what is known of the row.
module _ (settings : Settings) (n s n' s' : ℕ) (q d : Datum) (a : Child settings q d) (W : Tree → Tree) (Row : Tree → Type 0)
    (behind : (p : ℕ) (e : Datum) (k r : Tree) → Row (grow p e k r) → Row r)
    (end : W nil ≡ nil)
    -- it leaves the free pieces: the new one, and the one that was there
    (new : (z : Size) → W (grow n (freed s d z) nil nil) ≡ grow n (freed s d z) nil nil)
    (free : (p : ℕ) (e : Datum) → is_free e.kind ≡ true → Row (grow p e nil nil) → W (grow p e nil nil) ≡ grow p e nil nil)
    (solid : (p : ℕ) (e : Datum) (k r : Tree) → is_free e.kind ≡ false → Row (grow p e k r) → Keeps W p e k ⊎ TakesOut W p e k) where
  abbrev Settles : Tree → Type 0
  Settles r = shape (W (settled n s d r)) ≡ shape (settled n' s' d (W r))

  pub settles : (r : Tree) → Children settings q r → Row r → Settles r
  unfolding settled
  settles nil w o = rw (new (board d (last_free nil)), end) refl
  settles (grow p e k r) w o = go (is_free e.kind) refl (settles r w.beside (behind p e k r o))
    where
      at : is_free e.kind ≡ false → Settles r → Keeps W p e k ⊎ TakesOut W p e k → Settles (grow p e k r)
      at f ih (inl z) = rw (settled-past n s d p e k r f, z.1 (settled n s d r), z.1 r, settled-past n' s' d p e z.0 (W r) f, ih)
      at f ih (inr z) =
          rw (settled-past n s d p e k r f, z.2 (settled n s d r), z.2 r)
          (settled-shape z.0 z.1 e (W (settled n s d r)) (settled n' s' d (W r)) ih
          ∙ twice settings n' s' z.0 z.1 n' s' z.0 z.1 q d e (W r) a w.child)

      go : (b : Bool) → is_free e.kind ≡ b → Settles r → Settles (grow p e k r)
      go true f ih =
          let l = free-kind e.kind e k r f w.kinded in
          let known : Row (grow p e nil nil) = rw (l.childless, l.last) at o in
          rw (l.childless, l.last, settled-join n s d p e f, new (board d (some e)), free p e f known, settled-join n' s' d p e f) refl
      go false f ih = at f ih (solid p e k r f o)
