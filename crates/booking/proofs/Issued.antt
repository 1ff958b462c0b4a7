-- The marks of a booking's new nodes: the i-th that is made has the i-th place and the i-th serial. So the serials of a booked tree are right.
use mathlib.Core.Path.{◌≡◌, refl, sym, ap, ◌∙◌}
use mathlib.Core.Logic.{◌⊎◌, inl, inr, ⊎_elim}
use Prim.Native.Nat.{ℕ, ◌+◌, ◌≤◌, ◌<◌}
use native.Mathlib.Omega.{arith}
use Rattle.piece.specs.declared.orientation.Orientation.{Orientation}
use Rattle.piece.specs.declared.size.Size.{Size}
use Rattle.piece.specs.declared.node.Datum.{Datum}
use Rattle.piece.specs.declared.node.Kind.TheVariants.{Free}
use Rattle.piece.specs.declared.insertion_blueprint.InsertionShape.{InsertionShape}
use Rattle.piece.specs.declared.insertion_blueprint.InsertionShape.TheVariants.{AlongCurrentCut, AcrossCurrentCut, AlongThenAcross, AcrossThenAlong}
use Rattle.piece.specs.declared.settings.Settings.{Settings}
use Rattle.piece.specs.Sides.{other}
use Rattle.piece.specs.Row.{Row, nil, grow}
use Rattle.piece.specs.Insertion.{Made, block_of, table, new_nodes}
use Rattle.tree.specs.Tree.{Tree, In, At, count}
use Rattle.tree.specs.Sound.{Sound}
use Rattle.tree.specs.Booking.{Booking, planted, block, book}
use Rattle.tree.specs.Steps.{less}
use Rattle.tree.specs.Pieces.{max_serial, Serials}
use Rattle.tree.proofs.Numbered.{Numbered, numbered-in}
use Rattle.tree.proofs.BookPieces.{less-was, book-pieces}

-- the nodes of a block are numbered in the order of creation
pub block-numbered : (s : InsertionShape) (blade : ℕ) (c : Orientation) (piece part : Size) → Numbered 0 (block_of s blade c piece part)
unfolding block_of table
block-numbered AlongCurrentCut blade c piece part = omega arith
block-numbered AcrossCurrentCut blade c piece part = omega arith
block-numbered AlongThenAcross blade c piece part = omega arith
block-numbered AcrossThenAlong blade c piece part = omega arith

block-nodes : (s : InsertionShape) (blade : ℕ) (c : Orientation) (piece part : Size) → count (block_of s blade c piece part) ≡ new_nodes s
unfolding block_of table
block-nodes AlongCurrentCut blade c piece part = refl
block-nodes AcrossCurrentCut blade c piece part = refl
block-nodes AlongThenAcross blade c piece part = refl
block-nodes AcrossThenAlong blade c piece part = refl

-- the piece e at i is the j-th new node
abbrev pub Nth : Booking → ℕ → ℕ → Datum → Type 0
Nth b j i e = (i ≡ b.place j) × (e.serial ≡ b.serial + j)

planted-marks : (b : Booking) (l : ℕ) (c : Orientation) (i : ℕ) (e : Datum) (w : Row Made) → At i e (planted b l c w)
    → (j : ℕ) × In j w × Nth b j i e
planted-marks b l c i e nil h = absurd h
planted-marks b l c i e (grow j m k r) (inl z) = (j, inl refl, (z.0, ap (λ (n : Datum). n.serial) z.1))
planted-marks b l c i e (grow j m k r) (inr (inl h)) =
    let z = planted-marks b (l + 1) (other c) i e k h in (z.0, inr (inl z.1), z.2)
planted-marks b l c i e (grow j m k r) (inr (inr h)) = let z = planted-marks b l c i e r h in (z.0, inr (inr z.1), z.2)

pub block-marks : (b : Booking) (d : Datum) (i : ℕ) (e : Datum) → At i e (block b d) → (j : ℕ) × (j < new_nodes b.shape) × Nth b j i e
unfolding block
block-marks b d i e h =
    let s = block_of b.shape b.blade d.cut d.size b.size in
    let z = planted-marks b d.level d.cut i e s h in
    let y = numbered-in 0 z.0 s (block-numbered b.shape b.blade d.cut d.size b.size) z.1 in
    (z.0, omega (arith, block-nodes b.shape b.blade d.cut d.size b.size), z.2)

-- the new serials come after all others, "they rise by one per node in creation order"
module _ (limit : ℕ) (settings : Settings) (w : Tree) (sound : Sound limit settings w) (x : ℕ) (d : Datum) (there : At x d w)
    (free : d.kind ≡ Free) (b : Booking) (last : ℕ) (marked : Serials w last) (next : b.serial ≡ last + 1) where
  was : (i : ℕ) (e : Datum) → At i e (less x w) → At i e w
  was i e h = (less-was limit settings w sound x d there free i e h).0

  -- a piece that is left has an older serial, and a new one its own
  pub older : (i : ℕ) (e : Datum) → At i e (less x w) → e.serial ≤ last
  older i e h = marked.most i e (was i e h)

  pub newer : (i : ℕ) (e : Datum) → At i e (block b d) → last < e.serial
  newer i e h = let z = block-marks b d i e h in let s : e.serial ≡ b.serial + z.0 = z.2.1 in omega arith

  newest : (i : ℕ) (e : Datum) → At i e (block b d) → e.serial ≤ last + new_nodes b.shape
  newest i e h =
      let z = block-marks b d i e h in let s : e.serial ≡ b.serial + z.0 = z.2.1 in let m = z.1 in omega arith

  pub book-serials : last + new_nodes b.shape ≤ max_serial → Serials (book x b w) (last + new_nodes b.shape)
  book-serials room = record { differ = differ; least = least; most = most; spent = room }
    where
      parts : (i : ℕ) (e : Datum) → At i e (book x b w) → At i e (less x w) ⊎ At i e (block b d)
      parts = book-pieces limit settings w sound x d there free b

      differ : (i j : ℕ) (e f : Datum) → At i e (book x b w) → At j f (book x b w) → e.serial ≡ f.serial → i ≡ j
      differ i j e f g h s = go (parts i e g) (parts j f h)
        where
          go : At i e (less x w) ⊎ At i e (block b d) → At j f (less x w) ⊎ At j f (block b d) → i ≡ j
          go (inl y) (inl z) = marked.differ i j e f (was i e y) (was j f z) s
          go (inl y) (inr z) = let a = older i e y in let c = newer j f z in omega arith
          go (inr y) (inl z) = let a = older j f z in let c = newer i e y in omega arith
          go (inr y) (inr z) =
              let a = block-marks b d i e y in
              let c = block-marks b d j f z in
              let same : a.0 ≡ c.0 = let u = a.2.1 in let v = c.2.1 in omega arith in
              a.2.0 ∙ ap b.place same ∙ sym c.2.0

      least : (i : ℕ) (e : Datum) → At i e (book x b w) → 1 ≤ e.serial
      least i e h = ⊎_elim (λ y. marked.least i e (was i e y)) (λ y. let c = newer i e y in omega arith) (parts i e h)

      most : (i : ℕ) (e : Datum) → At i e (book x b w) → e.serial ≤ last + new_nodes b.shape
      most i e h = ⊎_elim (λ y. let c = older i e y in omega arith) (newest i e) (parts i e h)
