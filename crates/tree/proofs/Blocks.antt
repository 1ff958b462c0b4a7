-- The block of a booking: the tables of "Insertion" as rows of the free piece's parent, which fill what the free piece filled.
use mathlib.Core.Path.{◌≡◌, refl, sym, ◌∙◌}
use mathlib.Core.Bool.{Bool, true, false, cond, ◌&&◌, and-eq-true_iff}
use mathlib.Core.Logic.{inl, inr, ⊎_elim}
use mathlib.Core.List.Memᴰ
use mathlib.Core.List.{List, [], ◌∷◌, ◌++◌, Memᴰ}
use Prim.Native.Nat.{ℕ, ◌+◌, ◌-◌, ◌≤◌, ◌<◌}
use native.Mathlib.Omega.{arith}
use lib.Dec.{ltb}
use borrow.Author.Tests.{ltb-true, ltb-false}
use Rattle.piece.specs.declared.orientation.Orientation.{Orientation}
use Rattle.piece.specs.declared.node.Datum.{Datum}
use Rattle.piece.specs.declared.node.Kind.{Kind}
use Rattle.piece.specs.declared.node.Kind.TheVariants.{Free, Part, Structure}
use Rattle.piece.specs.declared.insertion_blueprint.InsertionShape.{InsertionShape}
use Rattle.piece.specs.declared.insertion_blueprint.InsertionShape.TheVariants.{AlongCurrentCut, AcrossCurrentCut, AlongThenAcross, AcrossThenAlong}
use Rattle.piece.specs.declared.settings.Settings.{Settings}
use Rattle.piece.specs.Sides.{other, laid}
use Rattle.piece.specs.Row.{Row, nil, grow}
use Rattle.piece.specs.Insertion.{Made, left_behind, eaten_behind, cut_from, table, laid_made, laid_all, block_of, new_nodes}
use Rattle.piece.specs.Offers.{only, shapes}
use Rattle.piece.proofs.Sizes.{other-twice, laid-twice, laid-other}
use Rattle.tree.specs.Tree.{Tree, In, Distinct, count}
use Rattle.tree.specs.Sound.{extent, PartPiece, StructurePiece, Child, Children, max_number}
use Rattle.tree.specs.Booking.{Booking, planted_datum, planted, block}
use Rattle.tree.specs.Accepted.{Fitting}
use Rattle.tree.proofs.Rows.{in-eq}
use Rattle.tree.proofs.Numbered.{Numbered, numbered-in, numbered-distinct}
use Rattle.tree.proofs.Pieces.{not_last, sided, free-piece, part-piece, structure-piece, child}
use Rattle.tree.proofs.Laying.{laid-sided, laid-fits}
use Rattle.tree.proofs.Kept.{Exchange}

-- how many levels a shape goes down from the free piece's
abbrev pub deep : InsertionShape → ℕ
deep AlongCurrentCut = 0
deep AcrossCurrentCut = 1
deep AlongThenAcross = 1
deep AcrossThenAlong = 2

-- The shapes that are offered stay within the stages.
mem-cond : (P : InsertionShape → Type 0) (b : Bool) (a s : InsertionShape) (l : List InsertionShape) → (b ≡ true → P a)
    → (Memᴰ s l → P s) → Memᴰ s (cond b (a ∷ []) l) → P s
mem-cond P true a s l f g m = rw (Memᴰ.eq_of_singleton m) (f refl)
mem-cond P false a s l f g m = g m

pub offered-deep : (al ac : Bool) (level stages : ℕ) (s : InsertionShape) → level ≤ stages → Memᴰ s (shapes al ac level stages)
    → level + deep s ≤ stages
unfolding shapes
offered-deep al ac level stages s h m = mem-cond Within al AlongCurrentCut s _ (λ e. omega arith) across m
  where
    Within : InsertionShape → Type 0
    Within z = level + deep z ≤ stages

    none : Memᴰ s [] → level + deep s ≤ stages
    none z = absurd (Memᴰ.not-nil z)

    first : Memᴰ s (only (ltb level stages) AlongThenAcross) → level + deep s ≤ stages
    first = mem-cond Within (ltb level stages) AlongThenAcross s [] (λ e. omega (arith, ltb-true level stages e)) none

    second : Memᴰ s (only (ltb (level + 1) stages) AcrossThenAlong) → level + deep s ≤ stages
    second = mem-cond Within (ltb (level + 1) stages) AcrossThenAlong s [] (λ e. omega (arith, ltb-true (level + 1) stages e)) none

    both : Memᴰ s (only (ltb level stages) AlongThenAcross ++ only (ltb (level + 1) stages) AcrossThenAlong) → level + deep s ≤ stages
    both z = ⊎_elim first second (Memᴰ.append_cases _ z)

    across : Memᴰ s
        (cond (ac && ltb level stages) (AcrossCurrentCut ∷ [])
        (only (ltb level stages) AlongThenAcross ++ only (ltb (level + 1) stages) AcrossThenAlong)) → level + deep s ≤ stages
    across =
        mem-cond Within (ac && ltb level stages) AcrossCurrentCut s _
        (λ e. omega (arith, ltb-true level stages ((and-eq-true_iff ac (ltb level stages)).0 e).1)) both

-- a node of a block at this level and with the cut e: u x v as the table writes it for the cut c, with z eaten behind it
abbrev node : Booking → Orientation → ℕ → ℕ → Orientation → Kind → ℕ → ℕ → ℕ → Datum
node b c i l e a u v z = planted_datum b i l e (laid_made c (cut_from a u v z))

-- The four tables, under the parent q, for a free piece of level l and cut c that is W x H as they write it, and a part w x h that fits.
module _ (settings : Settings) (b : Booking) (q : Datum) (l : ℕ) (c : Orientation) (W H w h : ℕ)
    (level : l ≡ q.level + 1) (stage : l ≤ settings.stages) (cut : c ≡ other q.cut) (side : H ≡ (laid c q.size).height)
    (numbered : b.number ≤ max_number) (bladed : b.blade ≡ settings.blade) (w₁ : 1 ≤ w) (h₁ : 1 ≤ h) (wide : w ≤ W) (tall : h ≤ H) where
  -- what is eaten beside the part and below it, and what is left there
  abbrev beside-eaten : ℕ
  beside-eaten = eaten_behind b.blade (W - w)

  abbrev below-eaten : ℕ
  below-eaten = eaten_behind b.blade (H - h)

  abbrev beside-left : ℕ
  beside-left = left_behind b.blade (W - w)

  abbrev below_left : ℕ
  below_left = left_behind b.blade (H - h)

  -- in the free piece's row; in a piece of that row; and below once more
  row-child : (i : ℕ) (a : Kind) (u z : ℕ) → z ≤ settings.blade → Child settings q (node b c i l c a u H z)
  row-child i a u z e = child level stage cut (rw laid-twice side) e

  inner-child : (i j : ℕ) (a : Kind) (u v v' y z : ℕ) → l + 1 ≤ settings.stages → z ≤ settings.blade
      → Child settings (node b c i l c Structure u v y) (node b c j (l + 1) (other c) a u v' z)
  inner-child i j a u v v' y z m e = child refl m refl (simp (laid-other c)) e

  strip-child : (i j : ℕ) (a : Kind) (u u' v y z : ℕ) → l + 2 ≤ settings.stages → z ≤ settings.blade
      → Child settings (node b c i (l + 1) (other c) Structure u v y) (node b c j (l + 1 + 1) (other (other c)) a u' v z)
  strip-child i j a u u' v y z m e = child refl (omega arith) refl (simp (other-twice, laid-twice)) e

  part : (i m : ℕ) (e : Orientation) (u v z : ℕ) → 1 ≤ u → 1 ≤ v → PartPiece (node b c i m e Part u v z) nil
  part i m e u v z u₁ v₁ = part-piece refl (laid-sided c (sided u₁ v₁)) numbered

  -- a structure u x H in that row, with a piece u x h and a free piece below it
  split : (i j n : ℕ) (a : Kind) (u y : ℕ) (k : Tree) → 1 ≤ u
      → StructurePiece (node b c i l c Structure u H y)
      (grow (b.place j) (node b c j (l + 1) (other c) a u h below-eaten) k
      (grow (b.place n) (node b c n (l + 1) (other c) Free u below_left 0) nil nil))
  split i j n a u y k u₁ =
      structure-piece (omega arith) (laid-sided c (sided u₁ (omega arith))) (simp (laid-other c) (omega arith)) refl

  -- the part u x h and the free piece that such a structure has
  column : (i j n u y : ℕ) → 1 ≤ u → l + 1 ≤ settings.stages
      → Children settings (node b c i l c Structure u H y)
      (grow (b.place j) (node b c j (l + 1) (other c) Part u h below-eaten) nil
      (grow (b.place n) (node b c n (l + 1) (other c) Free u below_left 0) nil nil))
  column i j n u y u₁ m = record {
    child = inner-child i j Part u H h y below-eaten m (omega arith);
    kinded = part j (l + 1) (other c) u h below-eaten u₁ h₁;
    ends = not_last;
    below = tt;
    beside = record {
      child = inner-child i n Free u H below_left y 0 m (omega arith);
      kinded = free-piece refl refl refl;
      ends = λ z. refl;
      below = tt;
      beside = tt;
    };
  }

  table-children : (s : InsertionShape) → l + deep s ≤ settings.stages → Children settings q (planted b l c (laid_all c (table s b.blade W H w h)))
  unfolding table
  table-children AlongCurrentCut m = record {
    child = row-child 0 Part w beside-eaten (omega arith);
    kinded = part 0 l c w H beside-eaten w₁ (omega arith);
    ends = not_last;
    below = tt;
    beside = record { child = row-child 1 Free beside-left 0 (omega arith); kinded = free-piece refl refl refl; ends = λ z. refl; below = tt; beside = tt };
  }
  table-children AcrossCurrentCut m = record {
    child = row-child 0 Structure W 0 (omega arith);
    kinded = split 0 1 2 Part W 0 nil (omega arith);
    ends = λ z. refl;
    below = column 0 1 2 W 0 (omega arith) m;
    beside = tt;
  }
  table-children AlongThenAcross m = record {
    child = row-child 0 Structure w beside-eaten (omega arith);
    kinded = split 0 1 2 Part w beside-eaten nil w₁;
    ends = not_last;
    below = column 0 1 2 w beside-eaten w₁ m;
    beside = record { child = row-child 3 Free beside-left 0 (omega arith); kinded = free-piece refl refl refl; ends = λ z. refl; below = tt; beside = tt };
  }
  table-children AcrossThenAlong m = record {
    child = row-child 0 Structure W 0 (omega arith);
    kinded = split 0 1 4 Structure W 0 _ (omega arith);
    ends = λ z. refl;
    below = record {
      child = inner-child 0 1 Structure W H h 0 below-eaten (omega arith) (omega arith);
      kinded = structure-piece (omega arith) (laid-sided c (sided (omega arith) h₁)) (simp (other-twice, laid-twice) (omega arith)) refl;
      ends = not_last;
      below = record {
        child = strip-child 1 2 Part W w h below-eaten beside-eaten m (omega arith);
        kinded = part 2 (l + 1 + 1) (other (other c)) w h beside-eaten w₁ h₁;
        ends = not_last;
        below = tt;
        beside = record {
          child = strip-child 1 3 Free W beside-left h below-eaten 0 m (omega arith);
          kinded = free-piece refl refl refl;
          ends = λ z. refl;
          below = tt;
          beside = tt;
        };
      };
      beside = record {
        child = inner-child 0 4 Free W H below_left 0 0 (omega arith) (omega arith);
        kinded = free-piece refl refl refl;
        ends = λ z. refl;
        below = tt;
        beside = tt;
      };
    };
    beside = tt;
  }

-- the pieces of the first row and what was eaten between them fill the free piece
table-extent : (b : Booking) (n l : ℕ) (c : Orientation) (W H w h : ℕ) → w ≤ W → (s : InsertionShape)
    → extent c (planted b l c (laid_all c (table s n W H w h))) ≡ W
unfolding table
table-extent b n l c W H w h wide AlongCurrentCut = simp laid-twice (omega arith)
table-extent b n l c W H w h wide AcrossCurrentCut = simp laid-twice (omega arith)
table-extent b n l c W H w h wide AlongThenAcross = simp laid-twice (omega arith)
table-extent b n l c W H w h wide AcrossThenAlong = simp laid-twice (omega arith)

-- The nodes of a block: as many as the shape makes, each at its own place.
planted-count : (b : Booking) (l : ℕ) (c e : Orientation) (w : Row Made) → count (planted b l c (laid_all e w)) ≡ count w
planted-count b l c e nil = refl
planted-count b l c e (grow i m k r) = rw (planted-count b (l + 1) (other c) e k, planted-count b l c e r)

planted-in : (b : Booking) (l : ℕ) (c e : Orientation) (i : ℕ) (w : Row Made) → In i (planted b l c (laid_all e w))
    → (j : ℕ) × In j w × (i ≡ b.place j)
planted-in b l c e i nil h = absurd h
planted-in b l c e i (grow j m k r) (inl z) = (j, inl refl, z)
planted-in b l c e i (grow j m k r) (inr (inl h)) = let z = planted-in b (l + 1) (other c) e i k h in (z.0, inr (inl z.1), z.2)
planted-in b l c e i (grow j m k r) (inr (inr h)) = let z = planted-in b l c e i r h in (z.0, inr (inr z.1), z.2)

planted-distinct : (b : Booking) (l : ℕ) (c e : Orientation) (w : Row Made)
    → ((i j : ℕ) → In i w → In j w → b.place i ≡ b.place j → i ≡ j) → Distinct w → Distinct (planted b l c (laid_all e w))
planted-distinct b l c e nil f u = tt
planted-distinct b l c e (grow i m k r) f u = record {
  not_below = λ h. let z = planted-in b (l + 1) (other c) e (b.place i) k h in
      u.not_below (in-eq k (sym (f i z.0 (inl refl) (inr (inl z.1)) z.2)) z.1);
  not_beside = λ h. let z = planted-in b l c e (b.place i) r h in u.not_beside (in-eq r (sym (f i z.0 (inl refl) (inr (inr z.1)) z.2)) z.1);
  apart = λ p h g. let z = planted-in b (l + 1) (other c) e p k h in
      let y = planted-in b l c e p r g in
      u.apart y.0 (in-eq k (f z.0 y.0 (inr (inl z.1)) (inr (inr y.1)) (sym z.2 ∙ y.2)) z.1) y.1;
  below = planted-distinct b (l + 1) (other c) e k (λ p o y z. f p o (inr (inl y)) (inr (inl z))) u.below;
  beside = planted-distinct b l c e r (λ p o y z. f p o (inr (inr y)) (inr (inr z))) u.beside;
}

table-numbered : (s : InsertionShape) (n W H w h : ℕ) → Numbered 0 (table s n W H w h)
unfolding table
table-numbered AlongCurrentCut n W H w h = omega arith
table-numbered AcrossCurrentCut n W H w h = omega arith
table-numbered AlongThenAcross n W H w h = omega arith
table-numbered AcrossThenAlong n W H w h = omega arith

table-count : (s : InsertionShape) (n W H w h : ℕ) → count (table s n W H w h) ≡ new_nodes s
unfolding table
table-count AlongCurrentCut n W H w h = refl
table-count AcrossCurrentCut n W H w h = refl
table-count AlongThenAcross n W H w h = refl
table-count AcrossThenAlong n W H w h = refl

table_below : (s : InsertionShape) (n W H w h j : ℕ) → In j (table s n W H w h) → j < new_nodes s
table_below s n W H w h j i =
    let z = numbered-in 0 j (table s n W H w h) (table-numbered s n W H w h) i in
    omega (arith, table-count s n W H w h)

-- the place i is that of a new node
abbrev pub New : Booking → ℕ → Type 0
New b i = (j : ℕ) × (j < new_nodes b.shape) × (i ≡ b.place j)

-- the table that a booking uses for the free piece d
abbrev table_of : Booking → Datum → Row Made
table_of b d =
    table b.shape b.blade (laid d.cut d.size).width (laid d.cut d.size).height (laid d.cut b.size).width
    (laid d.cut b.size).height

pub block-count : (b : Booking) (d : Datum) → count (block b d) ≡ new_nodes b.shape
unfolding block block_of
block-count b d = planted-count b d.level d.cut d.cut (table_of b d) ∙ table-count b.shape _ _ _ _ _

pub block_in : (b : Booking) (d : Datum) (i : ℕ) → In i (block b d) → New b i
unfolding block block_of
block_in b d i h =
    let z = planted-in b d.level d.cut d.cut i (table_of b d) h in
    (z.0, table_below b.shape _ _ _ _ _ z.0 z.1, z.2)

pub block-distinct : (b : Booking) (d : Datum) → ((i j : ℕ) → i < j → j < new_nodes b.shape → b.place i ≡ b.place j → ⊥) → Distinct (block b d)
unfolding block block_of
block-distinct b d f =
    planted-distinct b d.level d.cut d.cut (table_of b d)
    (λ i j h g. one i j (table_below b.shape _ _ _ _ _ i h) (table_below b.shape _ _ _ _ _ j g))
    (numbered-distinct 0 (table_of b d) (table-numbered b.shape _ _ _ _ _))
  where
    one : (i j : ℕ) → i < new_nodes b.shape → j < new_nodes b.shape → b.place i ≡ b.place j → i ≡ j
    one i j h g e = go (ltb i j) (ltb j i) refl refl
      where
        go : (a c : Bool) → ltb i j ≡ a → ltb j i ≡ c → i ≡ j
        go true c y z = absurd (f i j (ltb-true i j y) g e)
        go false true y z = absurd (f j i (ltb-true j i z) h (sym e))
        go false false y z = omega (arith, ltb-false i j y, ltb-false j i z)

pub some-new : (s : InsertionShape) → 1 ≤ new_nodes s
some-new AlongCurrentCut = omega arith
some-new AcrossCurrentCut = omega arith
some-new AlongThenAcross = omega arith
some-new AcrossThenAlong = omega arith

pub block-exchange : (settings : Settings) (b : Booking) (q d : Datum) (y : ℕ) → Fitting settings d b → Children settings q (grow y d nil nil)
    → Exchange settings q (grow y d nil nil) (block b d)
unfolding block block_of
block-exchange settings b q d y f h =
    let s = laid-sided d.cut f.sided in
    let i = laid-fits d.cut d.size b.size f.inside in
    let e = table-extent b b.blade d.level d.cut _ (laid d.cut d.size).height _ (laid d.cut b.size).height i.0 b.shape in
    record {
      children = table-children settings b q d.level d.cut _ _ _ _ h.child.level h.child.stage h.child.cut h.child.side f.numbered
          f.bladed s.wide s.tall i.0 i.1 b.shape (offered-deep _ _ d.level settings.stages b.shape h.child.stage f.offered);
      same = rw (← h.child.cut) (omega (arith, h.ends refl));
      some = λ z. omega (arith, block-count b d, some-new b.shape);
    }
