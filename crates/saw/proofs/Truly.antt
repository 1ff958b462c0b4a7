-- What the list of saw cuts says of kinds is true (change request 3): a sawyer who believes it runs the whole list, and in the end each piece was
-- said to be what it is, or to be the structure that holds it alone. Rests on Fills: the rows of a sound tree fill their boards. Sawn has the saw.
use mathlib.Core.Path.{◌≡◌, refl, sym, ap, ap₂, ◌∙◌, subst, subst⁻¹}
use mathlib.Core.Bool.{Bool, true, false, not, ◌&&◌, ◌||◌, or-true}
use mathlib.Core.Logic.{◌⊎◌, ⊎_elim, inl, inr}
use mathlib.Core.Option.{Option, some}
use mathlib.Core.List.{List, [], ◌∷◌, ◌++◌, map, map-append, append_assoc, append-nil}
use Prim.Native.Nat.{ℕ, ◌+◌}
use native.Mathlib.Omega.{arith}
use lib.ListN.{length, length-append, length-map}
use borrow.Author.Tests.{eq-eqb}
use Rattle.piece.specs.declared.orientation.Orientation.{Orientation}
use Rattle.piece.specs.declared.orientation.Orientation.TheVariants.{Horizontal, Vertical}
use Rattle.piece.specs.declared.size.Size.{Size}
use Rattle.piece.specs.declared.node.Datum.{Datum}
use Rattle.piece.specs.declared.node.Kind.{Kind}
use Rattle.piece.specs.declared.node.Kind.TheVariants.{Free, Part, Structure}
use Rattle.piece.specs.declared.settings.Settings.{Settings}
use Rattle.piece.specs.Sides.{other}
use Rattle.piece.specs.Row.{nil, grow}
use Rattle.piece.specs.Kinds.{is_structure}
use Rattle.piece.specs.Numbers.{kind_no, cut_no}
use Rattle.piece.proofs.Sizes.{other-twice}
use Rattle.tree.specs.Tree.{Tree}
use Rattle.tree.specs.Sound.{Sound}
use Rattle.saw.specs.declared.cut.Cut.{Cut}
use Rattle.saw.specs.Saw.{side, with_area, cuts_b, and_then}
use Rattle.saw.specs.Cuts.{without_empty, left_no, cut_off, piles_of, row_cuts, cuts, own_board, boards}
use Rattle.saw.specs.Sawyer.{Piece, named_by, sizes, saids, same_way, may_cut, parted, sawyer_at, sawyer}
use Rattle.saw.specs.Sawyer.{single, nested_row, nested_in, name_no, own_kind, row_kinds, board_kinds, uncut}
use Rattle.saw.proofs.Slices.{with-area, remnant, off-can}
use Rattle.saw.proofs.Fills.{Below, Share, Fills, boards-kept, structure-fills}

-- ---- tests

or_left : (a b : Bool) → a ≡ true → (a || b) ≡ true
or_left a b e = ap (λ (c : Bool). c || b) e

or_right : (a b : Bool) → b ≡ true → (a || b) ≡ true
or_right a b e = ap (λ (c : Bool). a || c) e ∙ or-true a

-- a piece that a cut of the other way made
turned : (way : Orientation) (x : Piece) → x.way ≡ other way → not (same_way way x) ≡ true
turned Horizontal x e = rw e refl
turned Vertical x e = rw e refl

-- a structure is said to be one, alone or not
called-structure : (alone : Bool) → name_no alone Structure ≡ 2
called-structure true = refl
called-structure false = refl

-- ---- pieces with area, said to be n and made by a cut of this way

abbrev named : ℕ → Orientation → Size → List Piece
named n way s = map (named_by n way) (with_area s)

pub sizes-named : (n : ℕ) (way : Orientation) (l : List Size) → sizes (map (named_by n way) l) ≡ l
sizes-named n way [] = refl
sizes-named n way (s ∷ l) = ap (λ (r : List Size). s ∷ r) (sizes-named n way l)

saids-named : (n : ℕ) (way : Orientation) (l : List Size) → saids (map (named_by n way) l) ≡ map (λ (s : Size). n) l
saids-named n way [] = refl
saids-named n way (s ∷ l) = ap (λ (r : List ℕ). n ∷ r) (saids-named n way l)

module _ (nested : Bool) where
  -- the cuts l of what lies at the place i of a pile, a piece or nothing, make these boards of it, said to be of these kinds
  pub record Makes (i : ℕ) (l : List Cut) (xs : List Piece) (made : List Size) (kinds : List ℕ) : Type 0 where
    pub pile : List Piece
    pub size : sizes pile ≡ made
    pub said : saids pile ≡ kinds
    pub runs : (a b : List Piece) (cs : List Cut) → length a ≡ i → sawyer nested (l ++ cs) (a ++ (xs ++ b)) ≡ sawyer nested cs (a ++ (pile ++ b))

  -- ---- one cut

  sawyer-at : (c : Cut) (x : Piece) (a b : List Piece) → may_cut nested c.way x ≡ true → cuts_b c x.size ≡ true
      → sawyer_at nested c (length a) (a ++ x ∷ b) ≡ some (a ++ (parted c x.size ++ b))
  sawyer-at c x [] b may can = rw (may, can) refl
  sawyer-at c x (y ∷ a) b may can =
      ap (λ (o : Option (List Piece)). and_then o (λ (p : List Piece). some (y ∷ p))) (sawyer-at c x a b may can)

  one-cut : (c : Cut) (x : Piece) (cs : List Cut) (a b : List Piece) → length a ≡ c.place → may_cut nested c.way x ≡ true
      → cuts_b c x.size ≡ true → sawyer nested (c ∷ cs) (a ++ x ∷ b) ≡ sawyer nested cs (a ++ (parted c x.size ++ b))
  one-cut c x cs a b at may can =
      ap (λ (o : Option (List Piece)). and_then o (sawyer nested cs))
      (ap (λ (i : ℕ). sawyer_at nested c i (a ++ x ∷ b)) (sym at) ∙ sawyer-at c x a b may can)

  -- the cuts of what lies side by side: those of the second come at the place behind what the first has become
  two-boards : (i : ℕ) {k r : List Cut} {ys zs : List Piece} {m n : List Size} {u v : List ℕ} (f : Makes i k ys m u)
      (g : Makes (i + length m) r zs n v)
      → (a b : List Piece) (cs : List Cut) → length a ≡ i
      → sawyer nested ((k ++ r) ++ cs) (a ++ ((ys ++ zs) ++ b)) ≡ sawyer nested cs (a ++ ((f.pile ++ g.pile) ++ b))
  two-boards i {k} {r} {ys} {zs} f g a b cs at =
      ap₂ (λ (l : List Cut) (x : List Piece). sawyer nested l (a ++ x)) (append_assoc k r cs) (append_assoc ys zs b)
      ∙ f.runs a (zs ++ b) (r ++ cs) at
      ∙ ap (sawyer nested (r ++ cs)) (sym (append_assoc a f.pile (zs ++ b)))
      ∙ g.runs (a ++ f.pile) b cs
      (omega (arith, length-append a f.pile, ap length f.size, length-map f.pile (λ (w : Piece). w.size)))
      ∙ ap (sawyer nested cs) (simp append_assoc)

  cut-in-two : (c : Cut) (x : Piece) {ys zs : List Piece} {k r : List Cut} {m n : List Size} {u v : List ℕ} → may_cut nested c.way x ≡ true
      → cuts_b c x.size ≡ true → parted c x.size ≡ ys ++ zs → Makes c.place k ys m u → Makes (c.place + length m) r zs n v
      → Makes c.place (c ∷ (k ++ r)) (x ∷ []) (m ++ n) (u ++ v)
  cut-in-two c x {k = k} {r = r} may can h f g =
      record {
        pile = f.pile ++ g.pile;
        size = map-append (λ (w : Piece). w.size) f.pile g.pile ∙ ap₂ (λ (p q : List Size). p ++ q) f.size g.size;
        said = map-append (λ (w : Piece). w.said) f.pile g.pile ∙ ap₂ (λ (p q : List ℕ). p ++ q) f.said g.said;
        runs =
            λ a b cs at. one-cut c x ((k ++ r) ++ cs) a b at may can
            ∙ ap (λ (l : List Piece). sawyer nested ((k ++ r) ++ cs) (a ++ (l ++ b))) h
            ∙ two-boards c.place f g a b cs at;
      }

  -- ---- what was said of a piece that a row fills, under a cut of this way

  -- x was said to be a piece of this kind, and if that isn't alone in its row it was cut off this way
  abbrev Named : Bool → Kind → Orientation → Piece → Type 0
  Named alone κ way x = (x.said ≡ name_no alone κ) × ((alone ≡ true) ⊎ (x.way ≡ way))

  -- a row of one was named as its piece, and one of several can be cut
  abbrev Fair : Bool → Orientation → Piece → Tree → Type 0
  Fair alone way x nil = Unit {0}
  Fair alone way x (grow p d k nil) = Named alone d.kind way x
  Fair alone way x (grow p d k (grow p' d' k' r')) = (alone ≡ false) × (may_cut nested way x ≡ true)

  -- the children of what was said to be a structure
  fair-below : (way : Orientation) (x : Piece) (k : Tree) → x.said ≡ 2 → (nested || not (same_way way x)) ≡ true → Fair (single k) way x k
  fair-below way x nil e h = tt
  fair-below way x (grow p d k nil) e h = (e, inl refl)
  fair-below way x (grow p d k (grow p' d' k' r')) e h =
      (refl, rw e h)

  fair-left : (alone : Bool) (way : Orientation) (s : Size) (p : ℕ) (d : Datum) (k r : Tree) → alone ≡ false
      → Fair alone way (named_by (left_no d r) way s) (grow p d k r)
  fair-left alone way s p d k nil e = (sym (ap (λ (b : Bool). name_no b d.kind) e), inr refl)
  fair-left alone way s p d k (grow p' d' k' r') e = (e, eq-eqb (cut_no way) (cut_no way) refl)

  -- ---- a row

  -- the cuts of a board of this size, whatever was fairly said of it
  abbrev Done : (i : ℕ) (l : List Cut) (s : Size) (made : List Size) (kinds : List ℕ) (F : Piece → Type 0) → Type 0
  Done i l s made kinds F = (n : ℕ) (from : Orientation) → F (named_by n from s) → Makes i l (named n from s) made kinds

  -- a board that isn't cut is left as it is
  left-whole : (i n : ℕ) (from : Orientation) (s : Size) (m : List Size) (j : ℕ) → with_area s ≡ m → n ≡ j
      → Makes i [] (named n from s) (m ++ []) (map (λ (z : Size). j) m ++ [])
  left-whole i n from s m j e h =
      record {
        pile = named n from s;
        size = sizes-named n from (with_area s) ∙ e ∙ sym (append-nil m);
        said = saids-named n from (with_area s) ∙ rw (e, h) (sym (append-nil (map (λ (z : Size). j) m)));
        runs = λ a b cs at. refl;
      }

  -- a part or a free piece is left as it is
  piece-makes : (κ : Kind) (alone : Bool) (way : Orientation) (i : ℕ) (s : Size) (k : Tree) → Below κ s k (Fills (other way) s k)
      → ((alone && is_structure κ) ≡ true → nested ≡ true)
      → (Fills (other way) s k
      → Done i (row_cuts (other way) i k) s (boards k) (row_kinds (single k) k) (λ (x : Piece). Fair (single k) (other way) x k))
      → Done i (row_cuts (other way) i k) s (own_board κ s ++ boards k) (own_kind alone κ s ++ row_kinds (single k) k) (Named alone κ way)
  unfolding row_cuts
  piece-makes Free alone way i s k f n below m from h =
      subst⁻¹
      (λ (t : Tree). Makes i (row_cuts (other way) i t) (named m from s) (with_area s ++ boards t) (own_kind alone Free s ++ row_kinds (single t) t)) f
      (left-whole i m from s (with_area s) (name_no alone Free) refl h.0)
  piece-makes Part alone way i s k f n below m from h =
      subst⁻¹
      (λ (t : Tree). Makes i (row_cuts (other way) i t) (named m from s) (s ∷ boards t) (name_no alone Part ∷ row_kinds (single t) t)) f.1
      (left-whole i m from s (s ∷ []) (name_no alone Part) (with-area f.0) h.0)
  piece-makes Structure alone way i s k f n below m from h =
      let x = named_by m from s in
      let turns : (nested || not (same_way (other way) x)) ≡ true =
      ⊎_elim
      (λ z. or_left nested _ (n (ap (λ (c : Bool). c && true) z)))
      (λ z. or_right nested _ (turned (other way) x (z ∙ sym (other-twice way))))
      h.1
      in
      below f m from (fair-below (other way) x k (h.0 ∙ called-structure alone) turns)

  -- a piece that is made into m, and the rest of its row
  row_step : (alone : Bool) (way : Orientation) (i : ℕ) (s : Size) (p : ℕ) (d : Datum) (below r : Tree) (k : List Cut) (m : List Size) (u : List ℕ)
      → Share way s d r (Fills way (remnant way s d) r)
      → Done i k d.size m u (Named alone d.kind way)
      → (Fills way (remnant way s d) r
      → Done (i + length m) (row_cuts way (i + length m) r) (remnant way s d) (boards r) (row_kinds alone r) (λ (x : Piece). Fair alone way x r))
      → Done i (cut_off way i d r ++ (k ++ row_cuts way (i + length m) r)) s (m ++ boards r) (u ++ row_kinds alone r)
      (λ (x : Piece). Fair alone way x (grow p d below r))
  unfolding row_cuts
  row_step alone way i s p d below nil k m u e f g n from h =
      rw (append-nil k, append-nil m, append-nil u) (subst (λ (z : Size). Makes i k (named n from z) m u) e (f n from h))
  row_step alone way i s p d below (grow p' d' k' r') k m u o f g n from h =
      let c : Cut =
      record { place = i; way = way; distance = side way d.size; piece = kind_no d.kind; remainder = left_no d' r'; eaten = d.eaten } in
      let x = named_by n from s in
      let first = f (kind_no d.kind) way (sym (ap (λ (q : Bool). name_no q d.kind) h.0), inr refl) in
      let rest = g o.1 (left_no d' r') way (fair-left alone way (remnant way s d) p' d' k' r' h.0) in
      rw (with-area o.0.board)
      (cut-in-two c x h.1 (off-can o.0)
      (ap (λ (z : Size). named (kind_no d.kind) way z ++ named (left_no d' r') way (remnant way s d)) (sym o.0.part)) first rest)

  row_makes : (alone : Bool) (way : Orientation) (s : Size) (r : Tree) (i : ℕ) → Fills way s r → (nested_row alone r ≡ true → nested ≡ true)
      → Done i (row_cuts way i r) s (boards r) (row_kinds alone r) (λ (x : Piece). Fair alone way x r)
  unfolding row_cuts
  row_makes alone way s nil i f n = absurd f
  row_makes alone way s (grow p d k r) i f n =
      let own = own_board d.kind d.size in
      let kind = own_kind alone d.kind d.size in
      let here = alone && is_structure d.kind in
      let under = nested_row (single k) k in
      let rest = nested_row alone r in
      let piece =
      piece-makes d.kind alone way i d.size k f.0
      (λ e. n (or_left here (under || rest) e))
      (λ g. row_makes (single k) (other way) d.size k i g (λ e. n (or_right here (under || rest) (or_left under rest e))))
      in
      rw (← append_assoc own (boards k) (boards r), ← append_assoc kind (row_kinds (single k) k) (row_kinds alone r))
      (row_step alone way i s p d k r (row_cuts (other way) i k) (own ++ boards k) (kind ++ row_kinds (single k) k) f.1 piece
      (λ g. row_makes alone way (remnant way s d) r (i + piles_of d k) g (λ e. n (or_right here (under || rest) (or_right under rest e)))))

-- ---- the tree

tree-makes : {limit : ℕ} {settings : Settings} (t : Tree) → Sound limit settings t
    → Makes (nested_in t) 0 (cuts t) (uncut t settings.sheet ∷ []) (boards t) (board_kinds t)
tree-makes nil h = absurd h.topped
tree-makes {settings} (grow p d k r) h =
    let top = h.topped.0 in
    let row = without_empty k in
    let nested = nested_row (single row) row || false in
    let x = named_by 2 (other d.cut) d.size in
    let made =
    row_makes nested (single row) d.cut d.size row 0 (structure-fills settings d k top.piece h.topped.1)
    (λ e. or_left (nested_row (single row) row) false e)
    2 (other d.cut) (fair-below nested d.cut x row refl (or_right nested _ (turned d.cut x refl)))
    in
    rw (top.kind, top.alone, append-nil (boards k), append-nil (row_kinds (single row) row), ← boards-kept settings d 0 k h.topped.1, ← top.size)
    (rw (with-area top.piece.sided) at made)

-- the sawyer who believes the list of a sound tree can run it; he gets the boards of the tree, and what was said of each is true
pub sawyer-believes : {limit : ℕ} {settings : Settings} (t : Tree) → Sound limit settings t
    → (pile : List Piece) × (sawyer (nested_in t) (cuts t) (uncut t settings.sheet ∷ []) ≡ some pile) × (sizes pile ≡ boards t) × (saids pile ≡ board_kinds t)
sawyer-believes {settings} t h =
    let made = tree-makes t h in
    let runs =
    ap (λ (l : List Cut). sawyer (nested_in t) l (uncut t settings.sheet ∷ [])) (sym (append-nil (cuts t)))
    ∙ made.runs [] [] [] refl
    ∙ ap (λ (l : List Piece). some l) (append-nil made.pile)
    in
    (made.pile, runs, made.size, made.said)
