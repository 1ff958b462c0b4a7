-- What a booking does to sums over the tree: how many pieces there are, and the areas of parts and of free pieces. The block has one part, and
-- that has the booked size.
use mathlib.Core.Path.{◌≡◌, refl, sym, ap, ◌∙◌}
use mathlib.Core.Bool.{Bool, true, false, cond, ◌&&◌, and-eq-true_iff}
use mathlib.Core.Logic.{◌⊎◌, inl, inr, ⊎_elim}
use mathlib.Core.List.Memᴰ
use mathlib.Core.List.{List, [], ◌∷◌, ◌++◌, Memᴰ}
use Prim.Native.Nat.{ℕ, ◌+◌}
use native.Mathlib.Omega.{arith}
use lib.Dec.{ltb}
use borrow.Author.Tests.{ne_eqb, eq-eqb, eqb-true}
use Rattle.piece.specs.declared.orientation.Orientation.{Orientation}
use Rattle.piece.specs.declared.size.Size.{Size}
use Rattle.piece.specs.declared.node.Datum.{Datum}
use Rattle.piece.specs.declared.node.Kind.{Kind}
use Rattle.piece.specs.declared.node.Kind.TheVariants.{Free}
use Rattle.piece.specs.declared.insertion_blueprint.InsertionShape.{InsertionShape}
use Rattle.piece.specs.declared.insertion_blueprint.InsertionShape.TheVariants.{AlongCurrentCut, AcrossCurrentCut, AlongThenAcross, AcrossThenAlong}
use Rattle.piece.specs.Sides.{sized, laid, area}
use Rattle.piece.specs.Row.{nil, grow}
use Rattle.piece.specs.Insertion.{block_of, table, new_nodes}
use Rattle.piece.specs.declared.settings.Settings.{Settings}
use Rattle.piece.specs.Offers.{along, across, only, shapes}
use Rattle.piece.specs.Kinds.{is_part}
use Rattle.piece.proofs.Sizes.{laid-twice}
use Rattle.tree.specs.Tree.{Tree, In, At, Distinct, count}
use Rattle.tree.specs.Sound.{Sound}
use Rattle.tree.specs.Booking.{Booking, planted, block, book}
use Rattle.tree.specs.Accepted.{Fitting}
use Rattle.tree.specs.Figures.{area_of_kind, part_area}
use Rattle.tree.specs.Steps.{less}
use Rattle.tree.proofs.Rows.{same?, at_in, after-nil}
use Rattle.tree.proofs.Kept.{Where, Alone, free-alone}
use Rattle.tree.proofs.Counts.{count-book}
use Rattle.tree.proofs.Changes.{pass-absent}

-- ---- a sum over the pieces

-- h changes the tree at x alone, where d stands without children and last of its row; and what it puts there has the sum n
module _ (m : Tree → ℕ) (g : Datum → ℕ) (none : m nil ≡ 0)
    (some : (p : ℕ) (d : Datum) (k r : Tree) → m (grow p d k r) ≡ g d + (m k + m r)) (x : ℕ) (d : Datum) (h : Tree → Tree) (end : h nil ≡ nil)
    (pass : (p : ℕ) (e : Datum) (k r : Tree) → (p ≡ x → ⊥) → h (grow p e k r) ≡ grow p e (h k) (h r)) (n : ℕ)
    (here : m (h (grow x d nil nil)) ≡ n) where
  sum-change : (w : Tree) → Where x (Alone d) w → Distinct w → In x w → m (h w) + g d ≡ m w + n
  sum-change nil a u o = absurd o
  sum-change (grow y c k r) a u o = go (same? y x) o (sum-change k a.1 u.below) (sum-change r a.2 u.beside)
    where
      go : (y ≡ x) ⊎ (y ≡ x → ⊥) → In x (grow y c k r) → (In x k → m (h k) + g d ≡ m k + n) → (In x r → m (h r) + g d ≡ m r + n)
          → m (h (grow y c k r)) + g d ≡ m (grow y c k r) + n
      go (inl z) v ik ir =
          let s = a.0 z in rw (z, s.0, s.1, s.2, here, some x d nil nil, none) (omega arith)
      go (inr e) (inl v) ik ir = absurd (e (sym v))
      go (inr e) (inr (inl v)) ik ir =
          let z = ik v in
          rw (pass y c k r e, some y c (h k) (h r), some y c k r, pass-absent x h end pass r (u.apart x v)) (omega arith)
      go (inr e) (inr (inr v)) ik ir =
          let z = ir v in
          rw (pass y c k r e, some y c (h k) (h r), some y c k r, pass-absent x h end pass k (λ i. u.apart x i v)) (omega arith)

-- ---- the block's part

-- which fits a shape asks for
abbrev Suits : Bool → Bool → InsertionShape → Type 0
Suits al ac AlongCurrentCut = al ≡ true
Suits al ac AcrossCurrentCut = ac ≡ true
Suits al ac AlongThenAcross = Unit {0}
Suits al ac AcrossThenAlong = Unit {0}

module _ (al ac : Bool) where
  suits-cond : (c : Bool) (a s : InsertionShape) (l : List InsertionShape) → (c ≡ true → Suits al ac a) → (Memᴰ s l → Suits al ac s)
      → Memᴰ s (cond c (a ∷ []) l) → Suits al ac s
  suits-cond true a s l f g i = rw (Memᴰ.eq_of_singleton i) (f refl)
  suits-cond false a s l f g i = g i

  offered-suits : (level stages : ℕ) (s : InsertionShape) → Memᴰ s (shapes al ac level stages) → Suits al ac s
  unfolding shapes
  offered-suits level stages s i = suits-cond al AlongCurrentCut s _ (λ e. e) second i
    where
      none : Memᴰ s [] → Suits al ac s
      none z = absurd (Memᴰ.not-nil z)

      third : Memᴰ s (only (ltb level stages) AlongThenAcross ++ only (ltb (level + 1) stages) AcrossThenAlong) → Suits al ac s
      third z =
          ⊎_elim (suits-cond (ltb level stages) AlongThenAcross s [] (λ e. tt) none)
          (suits-cond (ltb (level + 1) stages) AcrossThenAlong s [] (λ e. tt) none) (Memᴰ.append_cases _ z)

      second : Memᴰ s
          (cond (ac && ltb level stages) (AcrossCurrentCut ∷ [])
          (only (ltb level stages) AlongThenAcross ++ only (ltb (level + 1) stages) AcrossThenAlong)) → Suits al ac s
      second = suits-cond (ac && ltb level stages) AcrossCurrentCut s _ (λ e. ((and-eq-true_iff ac (ltb level stages)).0 e).0) third

-- the part is as wide as the table writes it, and as high
same-sides : (c : Orientation) (part : Size) (w h : ℕ) → w ≡ (laid c part).width → h ≡ (laid c part).height → laid c (sized w h) ≡ part
same-sides c part w h e f = rw (e, f) (laid-twice c part)

module _ (c : Orientation) (piece part : Size) where
  -- the size of the part in the table of a shape that suits
  abbrev part_side : InsertionShape → Size
  part_side AlongCurrentCut = sized (laid c part).width (laid c piece).height
  part_side AcrossCurrentCut = sized (laid c piece).width (laid c part).height
  part_side AlongThenAcross = laid c part
  part_side AcrossThenAlong = laid c part

  part-side : (s : InsertionShape) → Suits (along c piece part) (across c piece part) s → laid c (part_side s) ≡ part
  part-side AlongCurrentCut e = same-sides c part _ _ refl (eqb-true _ _ e)
  part-side AcrossCurrentCut e = same-sides c part _ _ (eqb-true _ _ e) refl
  part-side AlongThenAcross e = laid-twice c part
  part-side AcrossThenAlong e = laid-twice c part

  table-part : (b : Booking) (l : ℕ) (s : InsertionShape) → part_area (planted b l c (block_of s b.blade c piece part)) ≡ area (laid c (part_side s))
  unfolding block_of table
  table-part b l AlongCurrentCut = omega arith
  table-part b l AcrossCurrentCut = omega arith
  table-part b l AlongThenAcross = omega arith
  table-part b l AcrossThenAlong = omega arith

module _ (settings : Settings) (d : Datum) (b : Booking) (fit : Fitting settings d b) where
  side : laid d.cut (part_side d.cut d.size b.size b.shape) ≡ b.size
  side = part-side d.cut d.size b.size b.shape (offered-suits _ _ d.level settings.stages b.shape fit.offered)

  -- the block has one part, and that has the booked size
  pub block-part-area : part_area (block b d) ≡ area b.size
  unfolding block
  block-part-area = table-part d.cut d.size b.size b d.level b.shape ∙ ap area side

-- ---- the sums of a booked tree

module _ (limit : ℕ) (settings : Settings) (w : Tree) (sound : Sound limit settings w) (x : ℕ) (d : Datum) (there : At x d w)
    (free : d.kind ≡ Free) where
  alone : Where x (Alone d) w
  alone = free-alone settings x d w sound.topped sound.distinct there free

  pub less-count : count (less x w) + 1 ≡ count w
  less-count =
      let z = sum-change count (λ e. 1) refl (λ p e k r. refl) x d (less x) refl (λ p e k r n. rw (ne_eqb p x n)) 0 (rw (eq-eqb x x refl)) w
      alone sound.distinct (at_in x d w there)
      in
      omega arith

  module _ (b : Booking) where
    pub book-count : count (book x b w) + 1 ≡ count w + new_nodes b.shape
    book-count = count-book limit settings w x d b sound there free

    -- the areas of the pieces of a kind
    book-area : (f : Kind → Bool) → area_of_kind f (book x b w) + cond (f d.kind) (area d.size) 0 ≡ area_of_kind f w + area_of_kind f (block b d)
    book-area f =
        sum-change (area_of_kind f) (λ e. cond (f e.kind) (area e.size) 0) refl (λ p e k r. refl) x d (book x b) refl
        (λ p e k r n. rw (ne_eqb p x n)) (area_of_kind f (block b d)) (rw (eq-eqb x x refl, after-nil (block b d))) w alone sound.distinct
        (at_in x d w there)

    module _ (fit : Fitting settings d b) where
      pub book-part-area : part_area (book x b w) ≡ part_area w + area b.size
      book-part-area =
          let z = book-area is_part in
          let y : cond (is_part d.kind) (area d.size) 0 ≡ 0 = rw free in
          omega (arith, block-part-area settings d b fit)
