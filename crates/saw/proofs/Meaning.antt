-- On the columns of a table that holds a sound tree the routine lists the cuts of the tree. The law stands at the end. It rests on what `table` says
-- of a table that holds a row (Rep, Holds), and on Fills: an offcut of area 0 stands last in its row and has nothing of the side that the cut divides,
-- as no other piece: so the routine, which looks at that side, leaves out what specs/Cuts.antt does, and counts the pieces of the pile.
-- Assumes nothing.
use mathlib.Core.Path.{◌≡◌, refl, sym, ap, ◌∙◌}
use mathlib.Core.List.{List, [], ◌∷◌, ◌++◌, map, append-nil}
use mathlib.Core.Bool.{Bool, true, false, cond, not, ◌&&◌, ◌||◌}
use mathlib.Core.Logic.{⊎_elim}
use Prim.Native.Nat.{ℕ, zero, suc, ◌+◌, ◌≤◌, ◌<◌}
use native.Mathlib.Nat.{le_refl}
use native.Mathlib.Omega.{arith}
use lib.Dec.{eqb}
use lib.ListN.{length, get_or, length-append, get_or-map}
use borrow.Author.Tests.{le-leb, lt-leb}
use Rattle.piece.specs.declared.orientation.Orientation.{Orientation}
use Rattle.piece.specs.declared.orientation.Orientation.TheVariants.{Horizontal, Vertical}
use Rattle.piece.specs.declared.size.Size.{Size}
use Rattle.piece.specs.declared.node.Datum.{Datum}
use Rattle.piece.specs.declared.node.Kind.{Kind}
use Rattle.piece.specs.declared.node.Kind.TheVariants.{Free, Part, Structure}
use Rattle.piece.specs.declared.settings.Settings.{Settings}
use Rattle.piece.specs.Sides.{area, other}
use Rattle.piece.specs.Row.{nil, grow}
use Rattle.piece.specs.Kinds.{is_free}
use Rattle.piece.specs.Numbers.{kind_no}
use Rattle.tree.specs.Tree.{Tree, count}
use Rattle.tree.specs.Sound.{Sided, StructurePiece, Kinded, Children, Sound}
use Rattle.lists.proofs.Scan.{test, and_left}
use Rattle.table.specs.declared.Node.{Node}
use Rattle.table.specs.Table.{zero_node, at, head, Rep, Holds}
use Rattle.walks.specs.Columns.{firsts_of, nexts_of, kinds_of, eatens_of, columns_of}
use Rattle.saw.specs.Saw.{side}
use Rattle.saw.specs.Cuts.{is_empty, kept_after, without_empty, own_board, boards, left_no, cut_off, piles_of, row_cuts, cuts}
use Rattle.saw.specs.Listed.{sides_of, rest_of, left_along, cut_before, own_listed, piles_listed, cuts_listed, listed_in, piles_in}
use Rattle.saw.proofs.Slices.{sided-side}
use Rattle.saw.proofs.Fills.{empty-side, empty-gone, empty-extent, boards-kept, count_kept, piece-sided}

-- ---- a row whose pieces are all listed

-- what the routine reads of a piece under a cut of this way, where k and r are its children and its later siblings
record Piece (limit : ℕ) (t : List Node) (way : Orientation) (p : ℕ) (d : Datum) (k r : Tree) : Type 0 where
  placed : p < limit
  first : get_or (firsts_of t) p 0 ≡ head limit k
  rest : rest_of limit (nexts_of t) (sides_of way t) (eatens_of t) p ≡ head limit r
  kind : get_or (kinds_of t) p 0 ≡ kind_no d.kind
  distance : get_or (sides_of way t) p 0 ≡ side way d.size
  amount : get_or (eatens_of t) p 0 ≡ d.eaten
  own : own_listed (kinds_of t) (sides_of way t) p ≡ length (own_board d.kind d.size)

-- of each piece of a row and below it
abbrev Seen : ℕ → List Node → Orientation → Tree → Type 0
Seen limit t way nil = Unit {0}
Seen limit t way (grow p d k r) = Piece limit t way p d k r × Seen limit t (other way) k × Seen limit t way r

module _ (limit : ℕ) (t : List Node) where
  -- the kind of what is left
  left-seen : (way : Orientation) (p : ℕ) (d : Datum) (k r : Tree) → Piece limit t way p d k r → Seen limit t way r
      → left_along limit (nexts_of t) (kinds_of t) (sides_of way t) (eatens_of t) p ≡ left_no d r
  left-seen way p d k nil e f = rw (e.rest, le-leb limit limit (le_refl limit)) e.kind
  left-seen way p d k (grow x g y z) e f = rw (e.rest, lt-leb limit x f.0.placed) refl

  -- the cut that takes a piece off
  cut-seen : (way : Orientation) (i p : ℕ) (d : Datum) (k r : Tree) → Piece limit t way p d k r → Seen limit t way r
      → cut_before limit (nexts_of t) (kinds_of t) (sides_of way t) (eatens_of t) way i p (head limit r) ≡ cut_off way i d r
  cut-seen way i p d k nil e f = rw (le-leb limit limit (le_refl limit)) refl
  cut-seen way i p d k (grow x g y z) e f =
      rw (lt-leb limit x f.0.placed, e.distance, e.kind, e.amount, left-seen way x g y z f.0 f.2) refl

  -- the pieces of the pile that a row becomes
  no-piles : (way : Orientation) (n : ℕ) → piles_in limit (columns_of t) way n limit ≡ 0
  unfolding piles_listed
  no-piles way zero = refl
  no-piles way (suc m) = rw (le-leb limit limit (le_refl limit)) refl

  piles-seen : (r : Tree) (way : Orientation) (n : ℕ) → Seen limit t way r → count r ≤ n
      → piles_in limit (columns_of t) way n (head limit r) ≡ length (boards r)
  unfolding piles_listed
  piles-seen nil way n e h = no-piles way n
  piles-seen (grow p d k r) way zero e h = let none : ⊥ = omega arith in absurd none
  piles-seen (grow p d k r) way (suc m) e h =
      rw (
        lt-leb limit p e.0.placed,
        e.0.rest,
        e.0.first,
        e.0.own,
        piles-seen k (other way) m e.1 (omega arith),
        piles-seen r way m e.2 (omega arith),
        length-append (own_board d.kind d.size) (boards k ++ boards r),
        length-append (boards k) (boards r),
      )
      (omega arith)

  -- a piece with what follows it, from what is listed below it and behind it
  piece-seen : (way : Orientation) (m i p : ℕ) (d : Datum) (k r : Tree) → Piece limit t way p d k r → Seen limit t way r
      → piles_in limit (columns_of t) (other way) m (head limit k) ≡ length (boards k)
      → listed_in limit (columns_of t) (other way) m i (head limit k) ≡ row_cuts (other way) i k
      → ((j : ℕ) → listed_in limit (columns_of t) way m j (head limit r) ≡ row_cuts way j r)
      → listed_in limit (columns_of t) way (suc m) i p ≡ row_cuts way i (grow p d k r)
  unfolding cuts_listed row_cuts
  piece-seen way m i p d k r e f piles below behind =
      rw (
        lt-leb limit p e.placed,
        e.rest,
        e.first,
        e.own,
        piles,
        below,
        cut-seen way i p d k r e f,
        ← length-append (own_board d.kind d.size) (boards k),
        behind (i + piles_of d k),
      )
      refl

  none_seen : (way : Orientation) (n i : ℕ) → listed_in limit (columns_of t) way n i limit ≡ row_cuts way i nil
  unfolding cuts_listed row_cuts
  none_seen way zero i = refl
  none_seen way (suc m) i = rw (le-leb limit limit (le_refl limit)) refl

  row_seen : (r : Tree) (way : Orientation) (n i : ℕ) → Seen limit t way r → count r ≤ n
      → listed_in limit (columns_of t) way n i (head limit r) ≡ row_cuts way i r
  row_seen nil way n i e h = none_seen way n i
  row_seen (grow p d k r) way zero i e h = let none : ⊥ = omega arith in absurd none
  row_seen (grow p d k r) way (suc m) i e h =
      piece-seen way m i p d k r e.0 e.2
      (piles-seen k (other way) m e.1 (omega arith))
      (row_seen k (other way) m i e.1 (omega arith))
      (λ j. row_seen r way m j e.2 (omega arith))

-- ---- what is left of a row

-- whether a piece itself comes to lie in the pile, by whether it has something of the side
own-by : (c : Kind) (s : Size) (n : ℕ) → (is_free c && eqb (area s) 0) ≡ eqb n 0
    → cond (eqb (kind_no c) 1 || (eqb (kind_no c) 0 && not (eqb n 0))) 1 0 ≡ length (own_board c s)
own-by Free s n e = ap (λ (b : Bool). cond (not b) 1 0) (sym e) ∙ go (eqb (area s) 0)
  where
    go : (b : Bool) → cond (not b) 1 0 ≡ length (cond b [] (s ∷ []))
    go true = refl
    go false = refl
own-by Part s n e = refl
own-by Structure s n e = refl

module _ (limit : ℕ) (settings : Settings) where
  -- the first piece of a row that fills a side is no such offcut
  first-kept : (q : Datum) (r : Tree) → StructurePiece q r → Children settings q r → head limit r ≡ head limit (without_empty r)
  first-kept q nil s e = refl
  first-kept q (grow p d k r) s e =
      ⊎_elim
      (λ b. let none : ⊥ = omega (arith, s.filled, empty-extent p d k r s.sided e b, sided-side q.cut s.sided) in absurd none)
      (λ b. rw b refl)
      (test (is_empty d))

  children-kept : (c : Kind) (d : Datum) (k r : Tree) → Kinded c d k r → Children settings d k → head limit k ≡ head limit (without_empty k)
  children-kept Free d k r f e = rw f.childless refl
  children-kept Part d k r f e = rw f.childless refl
  children-kept Structure d k r f e = first-kept d k f e

  module _ (t : List Node) where
    -- a column at a place is that field of the node there
    column : (f : Node → ℕ) (p : ℕ) (n : Node) → at t p ≡ n → get_or (map f t) p (f zero_node) ≡ f n
    column f p n e = get_or-map f t p zero_node ∙ ap f e

    sides-at : (way : Orientation) (p : ℕ) (n : Node) → at t p ≡ n → get_or (sides_of way t) p 0 ≡ side way n.datum.size
    sides-at Horizontal p n e = column (λ (x : Node). x.datum.size.height) p n e
    sides-at Vertical p n e = column (λ (x : Node). x.datum.size.width) p n e

    -- the later sibling that is left on the board, where so much was eaten before it
    rest-kept : (q : Datum) (way : Orientation) (before o p : ℕ) (r : Tree) → way ≡ q.cut → Sided q.size → Children settings q r → Rep limit t o p r
        → get_or (nexts_of t) p 0 ≡ head limit r
        → get_or (eatens_of t) p 0 ≡ before
        → rest_of limit (nexts_of t) (sides_of way t) (eatens_of t) p ≡ head limit (kept_after before r)
    rest-kept q way before o p nil cut sided c e n b = rw (n, le-leb limit limit (le_refl limit)) refl
    rest-kept q way before o p (grow x d k r) cut sided c e n b =
        rw
        (n, b, lt-leb limit x e.0, sides-at way x _ e.1, ← empty-side way cut sided c.child d.kind k r c.kinded)
        (go (is_empty d && eqb before 0) refl)
      where
        go : (b : Bool) → (is_empty d && eqb before 0) ≡ b
            → cond b limit x ≡ head limit (cond b (without_empty r) (grow x d (without_empty k) (kept_after d.eaten r)))
        go true z = rw (empty-gone d.kind d k r c.kinded (and_left (is_empty d) (eqb before 0) z)).2 refl
        go false z = refl

    own_at : (q : Datum) (way : Orientation) (p : ℕ) (d : Datum) (k r : Tree) → way ≡ q.cut → Sided q.size → Children settings q (grow p d k r)
        → get_or (kinds_of t) p 0 ≡ kind_no d.kind
        → get_or (sides_of way t) p 0 ≡ side way d.size
        → own_listed (kinds_of t) (sides_of way t) p ≡ length (own_board d.kind d.size)
    own_at q way p d k r cut sided c kind distance =
        rw (kind, distance) (own-by d.kind d.size (side way d.size) (empty-side way cut sided c.child d.kind k r c.kinded))

    -- a piece in the columns
    piece_of : (q : Datum) (way : Orientation) (o pv p : ℕ) (d : Datum) (k r : Tree) → way ≡ q.cut → Sided q.size
        → Children settings q (grow p d k r) → Rep limit t o pv (grow p d k r)
        → Piece limit t way p d (without_empty k) (kept_after d.eaten r)
    piece_of q way o pv p d k r cut sided c e =
        let kind = column (λ (x : Node). kind_no x.datum.kind) p _ e.1 in
        let distance = sides-at way p _ e.1 in
        let amount = column (λ (x : Node). x.datum.eaten) p _ e.1 in
        record {
          placed = e.0;
          first = column (λ (x : Node). x.first) p _ e.1 ∙ children-kept d.kind d k r c.kinded c.below;
          rest = rest-kept q way d.eaten o p r cut sided c.beside e.3 (column (λ (x : Node). x.next) p _ e.1) amount;
          kind = kind;
          distance = distance;
          amount = amount;
          own = own_at q way p d k r cut sided c kind distance;
        }

    -- a table that holds a row shows what is left of it
    shown : (r : Tree) (q : Datum) (way : Orientation) (before o pv : ℕ) → way ≡ q.cut → (1 ≤ count r → Sided q.size) → Children settings q r
        → Rep limit t o pv r → Seen limit t way (kept_after before r)
    shown nil q way before o pv cut sided c e = tt
    shown (grow p d k r) q way before o pv cut sided c e =
        ⊎_elim
        (λ z. rw z (shown r q way 0 o p cut (λ h. sided (omega arith)) c.beside e.3))
        (λ z. rw z (
          piece_of q way o pv p d k r cut (sided (omega arith)) c e,
          shown k d (other way) 0 p limit (ap other cut ∙ sym c.child.cut)
              (λ h. piece-sided d.kind d k r c.kinded (λ x y. let none : ⊥ = omega (arith, ap count x) in absurd none)) c.below e.2,
          shown r q way d.eaten o p cut (λ h. sided (omega arith)) c.beside e.3,
        ))
        (test (is_empty d && eqb before 0))

-- The laws. `n` is the fuel: the count of nodes held is enough.
module _ (limit : ℕ) (settings : Settings) (t : List Node) where
  -- of a row of children that the table holds
  module _ (r : Tree) (q : Datum) (way : Orientation) (n o pv : ℕ) (cut : way ≡ q.cut) (sided : Sided q.size) (c : Children settings q r)
      (e : Rep limit t o pv r) (h : count r ≤ n) where
    pub listed-row : (i : ℕ) → listed_in limit (columns_of t) way n i (head limit (without_empty r)) ≡ row_cuts way i (without_empty r)
    listed-row i =
        row_seen limit t (without_empty r) way n i (shown limit settings t r q way 0 o pv cut (λ z. sided) c e) (omega (arith, count_kept 0 r))

    pub piles-row : piles_in limit (columns_of t) way n (head limit (without_empty r)) ≡ length (boards r)
    piles-row =
        piles-seen limit t (without_empty r) way n (shown limit settings t r q way 0 o pv cut (λ z. sided) c e) (omega (arith, count_kept 0 r))
        ∙ ap length (boards-kept settings q 0 r c)

  -- of the tree, from the top's first child on
  pub listed-tree : (w : Tree) (n : ℕ) → Sound limit settings w → Holds limit t w → count w ≤ n
      → listed_in limit (columns_of t) (at t 0).datum.cut n 0 (at t 0).first ≡ cuts w
  listed-tree nil n s h e = absurd s.topped
  listed-tree (grow p d k r) n s h e =
      let top = s.topped.0 in
      let c = s.topped.1 in
      ap (λ (x : Node). listed_in limit (columns_of t) x.datum.cut n 0 x.first) (ap (at t) (sym top.place) ∙ h.rep.1)
      ∙ ap (λ (y : ℕ). listed_in limit (columns_of t) d.cut n 0 y) (first-kept limit settings d k top.piece c)
      ∙ listed-row k d d.cut n p limit refl top.piece.sided c h.rep.2 (omega arith) 0

  -- and the pieces of the pile that the sheet becomes
  pub piled-tree : (w : Tree) (n : ℕ) → Sound limit settings w → Holds limit t w → count w ≤ n
      → piles_in limit (columns_of t) (at t 0).datum.cut n (at t 0).first ≡ length (boards w)
  piled-tree nil n s h e = absurd s.topped
  piled-tree (grow p d k r) n s h e =
      let top = s.topped.0 in
      let c = s.topped.1 in
      ap (λ (x : Node). piles_in limit (columns_of t) x.datum.cut n x.first) (ap (at t) (sym top.place) ∙ h.rep.1)
      ∙ ap (λ (y : ℕ). piles_in limit (columns_of t) d.cut n y) (first-kept limit settings d k top.piece c)
      ∙ piles-row k d d.cut n p limit refl top.piece.sided c h.rep.2 (omega arith)
      ∙ rw (top.kind, top.alone, append-nil (boards k)) refl
