-- The rows of a sound tree without its empty free pieces fill the boards that they are cut of, piece by piece, with what was eaten behind each: what the
-- saw's law goes by. Nothing of it is said of a cut's way but through Slices.
use mathlib.Core.Path.{◌≡◌, refl, sym, ap, ap₂, ◌∙◌, subst, subst⁻¹}
use mathlib.Core.Bool.{true, false, cond, ◌&&◌}
use mathlib.Core.Logic.{⊎_elim}
use mathlib.Core.List.{List, [], ◌++◌}
use Prim.Native.Nat.{ℕ, ◌+◌, ◌*◌, ◌-◌, ◌≤◌}
use native.Mathlib.Nat.{eq-zero-or-pos, one-le-mul, zero-mul}
use native.Mathlib.Decide.{ℕ_discrete}
use native.Mathlib.Omega.{arith}
use lib.Dec.{eqb}
use borrow.Author.Tests.{eq-eqb, ne_eqb, eqb-true}
use Rattle.piece.specs.declared.orientation.Orientation.{Orientation}
use Rattle.piece.specs.declared.size.Size.{Size}
use Rattle.piece.specs.declared.node.Datum.{Datum}
use Rattle.piece.specs.declared.node.Kind.{Kind}
use Rattle.piece.specs.declared.node.Kind.TheVariants.{Free, Part, Structure}
use Rattle.piece.specs.declared.settings.Settings.{Settings}
use Rattle.piece.specs.Sides.{area, laid, other}
use Rattle.piece.specs.Row.{nil, grow}
use Rattle.piece.specs.Kinds.{is_free}
use Rattle.tree.specs.Tree.{Tree, count}
use Rattle.tree.specs.Sound.{Sided, extent, StructurePiece, Kinded, Child, Children}
use Rattle.tree.proofs.Areas.{area-laid}
use Rattle.tree.proofs.Laying.{laid-sided}
use Rattle.tree.proofs.Read.{Readable}
use Rattle.lists.proofs.Scan.{test, clash, and_left}
use Rattle.saw.specs.Saw.{side}
use Rattle.saw.specs.Cuts.{is_empty, kept_after, without_empty, own_board, boards}
use Rattle.saw.proofs.Slices.{slice-side, slice-height, is_slice, is_whole, sided-area, sided-side, flat-area, sides-sided, remnant, Off}

-- a part or a free piece has no children, and a structure has what is said of them; a part has two sides
abbrev pub Below : Kind → Size → Tree → Type 0 → Type 0
Below Free s k below = k ≡ nil
Below Part s k below = Sided s × (k ≡ nil)
Below Structure s k below = below

-- a piece that is the last of its row is the board; one with more behind it is cut off, and of what is left the rest is said
abbrev pub Share : Orientation → Size → Datum → Tree → Type 0 → Type 0
Share way s d nil rest = d.size ≡ s
Share way s d (grow p e k r) rest = Off way s d × rest

-- a row fills a board, under a cut of this way, and so below
abbrev pub Fills : Orientation → Size → Tree → Type 0
Fills way s nil = ⊥
Fills way s (grow p d k r) = Below d.kind d.size k (Fills (other way) d.size k) × Share way s d r (Fills way (remnant way s d) r)

-- ---- a free piece of area 0

-- where one side is something, there is no area exactly if there is nothing of the other
nothing : (a b : ℕ) → 1 ≤ b → eqb (a * b) 0 ≡ eqb a 0
nothing a b h = go (ℕ_discrete a 0)
  where
    go : Dec (a ≡ 0) → eqb (a * b) 0 ≡ eqb a 0
    go (yes e) = rw (e, zero-mul b) refl
    go (no m) =
        let some : 1 ≤ a * b = one-le-mul (omega arith) h in
        ne_eqb (a * b) 0 (λ z. omega arith) ∙ sym (ne_eqb a 0 m)

-- a piece of a row whose parent has sides of at least 1: it is a free piece of area 0 exactly if it has nothing of the side that the parent's cut divides
module _ {settings : Settings} {q d : Datum} (way : Orientation) (cut : way ≡ q.cut) (sided : Sided q.size) (child : Child settings q d) where
  across : 1 ≤ (laid (other way) d.size).height
  across =
      let e : (laid (other way) d.size).height ≡ (laid (other way) q.size).height = rw (child.cut, ← cut) at child.side in
      omega (arith, (laid-sided (other way) sided).tall)

  some-side : Sided d.size → false ≡ eqb (side way d.size) 0
  some-side h = sym (ne_eqb (side way d.size) 0 (λ z. omega (arith, sided-side way h)))

  pub empty-side : (c : Kind) (k r : Tree) → Kinded c d k r → (is_free c && eqb (area d.size) 0) ≡ eqb (side way d.size) 0
  empty-side Free k r f =
      rw (← area-laid (other way) d.size) (nothing (side way d.size) (laid (other way) d.size).height across)
  empty-side Part k r f = some-side f.sided
  empty-side Structure k r f = some-side f.sided

-- it has no board, nothing below it and nothing behind it
pub empty-gone : (κ : Kind) (d : Datum) (k r : Tree) → Kinded κ d k r → (is_free κ && eqb (area d.size) 0) ≡ true
    → (own_board κ d.size ≡ []) × (k ≡ nil) × (r ≡ nil)
empty-gone Free d k r f e = (rw e refl, f.childless, f.last)
empty-gone Part d k r f e = absurd (clash e)
empty-gone Structure d k r f e = absurd (clash e)

-- a row whose first piece is one takes nothing of the side
pub empty-extent : {settings : Settings} {q : Datum} (p : ℕ) (d : Datum) (k r : Tree) → Sided q.size → Children settings q (grow p d k r)
    → is_empty d ≡ true → extent (other q.cut) (grow p d k r) ≡ 0
empty-extent {q = q} p d k r sided h e =
    let gone = empty-gone d.kind d k r h.kinded e in
    let none = eqb-true (side q.cut d.size) 0 (sym (empty-side q.cut refl sided h.child d.kind k r h.kinded) ∙ e) in
    omega (arith, none, h.ends gone.2, ap (extent (other q.cut)) gone.2)

-- ---- what is left out

-- a row that takes nothing of the side, with nothing eaten before it, is left out
flat-gone : (κ : Kind) (p : ℕ) (d : Datum) (k r : Tree) → Kinded κ d k r → area d.size ≡ 0
    → cond ((is_free κ && eqb (area d.size) 0) && eqb 0 0) (without_empty r) (grow p d (without_empty k) (kept_after d.eaten r)) ≡ nil
flat-gone Free p d k r f e = rw (eq-eqb (area d.size) 0 e, f.last) refl
flat-gone Part p d k r f e = absurd (sided-area f.sided e)
flat-gone Structure p d k r f e = absurd (sided-area f.sided e)

none_left : (settings : Settings) (q : Datum) (r : Tree) → Children settings q r → extent (other q.cut) r ≡ 0 → without_empty r ≡ nil
none_left settings q nil h e = refl
none_left settings q (grow p d k r) h e = flat-gone d.kind p d k r h.kinded (flat-area (other q.cut) d.size (omega arith))

pub boards-kept : (settings : Settings) (q : Datum) (before : ℕ) (r : Tree) → Children settings q r → boards (kept_after before r) ≡ boards r
boards-kept settings q before nil h = refl
boards-kept settings q before (grow p d k r) h =
    let below = boards-kept settings d 0 k h.below in
    ⊎_elim
    (λ e. let gone = empty-gone d.kind d k r h.kinded (and_left (is_empty d) (eqb before 0) e) in rw (e, gone.0, gone.1)
    (boards-kept settings q 0 r h.beside))
    (λ e. rw e (ap₂ (λ (u v : List Size). own_board d.kind d.size ++ (u ++ v)) below (boards-kept settings q d.eaten r h.beside)))
    (test (is_empty d && eqb before 0))

pub count_kept : (before : ℕ) (r : Tree) → count (kept_after before r) ≤ count r
count_kept before nil = omega arith
count_kept before (grow p d k r) =
    let below = count_kept 0 k in
    ⊎_elim
    (λ e. rw e (omega (arith, count_kept 0 r)))
    (λ e. rw e (omega (arith, count_kept d.eaten r)))
    (test (is_empty d && eqb before 0))

pub readable-kept : (before l : ℕ) (r : Tree) → Readable l r → Readable l (kept_after before r)
readable-kept before l nil h = tt
readable-kept before l (grow p d k r) h =
    let below = readable-kept 0 (l + 1) k h.1 in
    ⊎_elim
    (λ e. rw e (readable-kept 0 l r h.2))
    (λ e. rw e (h.0, below, readable-kept d.eaten l r h.2))
    (test (is_empty d && eqb before 0))

-- ---- a sound tree's rows fill their boards

-- a free piece has no children and is the last of its row; the others have two sides
pub piece-sided : (κ : Kind) (d : Datum) (k r : Tree) → Kinded κ d k r → (k ≡ nil → r ≡ nil → Sided d.size) → Sided d.size
piece-sided Free d k r f alone = alone f.childless f.last
piece-sided Part d k r f alone = f.sided
piece-sided Structure d k r f alone = f.sided

piece-below : (κ : Kind) (d : Datum) (k r : Tree) (F : Type 0) → Kinded κ d k r → (StructurePiece d k → F) → Below κ d.size (without_empty k) F
piece-below Free d k r F f below = ap without_empty f.childless
piece-below Part d k r F f below = (f.sided, ap without_empty f.childless)
piece-below Structure d k r F f below = below f

share-more : (way : Orientation) (s : Size) (d : Datum) (r : Tree) → Off way s d → Fills way (remnant way s d) r
    → Share way s d r (Fills way (remnant way s d) r)
share-more way s d nil o f = absurd f
share-more way s d (grow p e k r) o f = (o, f)

share-last : (way : Orientation) (s : Size) (d : Datum) (r : Tree) (F : Type 0) → r ≡ nil → d.size ≡ s → Share way s d r F
share-last way s d r F e f = subst⁻¹ (λ (t : Tree). Share way s d t F) e f

-- a row of children of q, before which so much was eaten, is as long as the board s, which has q's other side. Where there is nothing of the board,
-- something was eaten before the row, and a free piece of area 0 is there
record Spans (q : Datum) (before : ℕ) (r : Tree) (s : Size) : Type 0 where
  sided : Sided q.size
  height : (laid (other q.cut) s).height ≡ (laid (other q.cut) q.size).height
  length : extent (other q.cut) r ≡ side q.cut s
  some : 1 ≤ before + side q.cut s
  ends : r ≡ nil → before ≡ 0

-- the children of a structure are as long as it
spans-own : (d : Datum) (k : Tree) → StructurePiece d k → Spans d 0 k d.size
spans-own d k g =
    record { sided = g.sided; height = refl; length = g.filled; some = omega (arith, sided-side d.cut g.sided); ends = λ e. refl }

spans-some : (q : Datum) (before : ℕ) (s : Size) → Spans q before nil s → ⊥
spans-some q before s a = omega (arith, a.length, a.some, a.ends refl)

module _ (settings : Settings) (q : Datum) (before p : ℕ) (d : Datum) (k r : Tree) (s : Size) (h : Children settings q (grow p d k r))
    (a : Spans q before (grow p d k r) s) where
  height : (laid (other q.cut) d.size).height ≡ (laid (other q.cut) s).height
  height = (rw h.child.cut at h.child.side) ∙ sym a.height

  lengths : side q.cut d.size + d.eaten + extent (other q.cut) r ≡ side q.cut s
  lengths = a.length

  -- a free piece of area 0 is the whole row, and stays since something was eaten before it
  empty-before : is_empty d ≡ true → 1 ≤ before
  empty-before e = omega (arith, a.length, a.some, empty-extent p d k r a.sided h e)

  stays : kept_after before (grow p d k r) ≡ grow p d (without_empty k) (kept_after d.eaten r)
  stays =
      ⊎_elim
      (λ e. rw (e, ne_eqb before 0 (λ z. omega (arith, empty-before e))) refl)
      (λ e. rw e refl)
      (test (is_empty d))

  -- with nothing behind it the piece is the board
  whole : d.eaten + extent (other q.cut) r ≡ 0 → d.size ≡ s
  whole z = is_whole q.cut d.size s height (omega (arith, lengths))

  -- and if not it has two sides, as no free piece with something behind it
  two-sides : 1 ≤ d.eaten + extent (other q.cut) r → Sided d.size
  two-sides z =
      piece-sided d.kind d k r h.kinded
      (λ x y. let none : ⊥ = omega (arith, h.ends y, ap (extent (other q.cut)) y) in absurd none)

  off : 1 ≤ d.eaten + extent (other q.cut) r → Off q.cut s d
  off z =
      let some = sided-side q.cut (two-sides z) in
      record {
        board = sides-sided q.cut s (omega (arith, lengths)) (omega (arith, a.height, (laid-sided (other q.cut) a.sided).tall));
        part = is_slice q.cut d.size s height;
        some = some;
        within = omega (arith, lengths);
      }

  -- the rest of the row is as long as what is left
  spans-rest : 1 ≤ d.eaten + extent (other q.cut) r → Spans q d.eaten r (remnant q.cut s d)
  spans-rest z =
      let n = side q.cut s - (side q.cut d.size + d.eaten) in
      let e = slice-side q.cut n s in
      record {
        sided = a.sided;
        height = slice-height q.cut n s ∙ a.height;
        length = omega (arith, lengths);
        some = omega (arith, lengths);
        ends = h.ends;
      }

  module _ (below : StructurePiece d k → Fills d.cut d.size (without_empty k))
      (rest : (s' : Size) → Spans q d.eaten r s' → Fills q.cut s' (kept_after d.eaten r)) where
    under : Below d.kind d.size (without_empty k) (Fills (other q.cut) d.size (without_empty k))
    under =
        piece-below d.kind d k r (Fills (other q.cut) d.size (without_empty k)) h.kinded
        (λ g. subst (λ (w : Orientation). Fills w d.size (without_empty k)) h.child.cut (below g))

    last : d.eaten + extent (other q.cut) r ≡ 0 → kept_after d.eaten r ≡ nil
    last z =
        let e : d.eaten ≡ 0 = omega arith in
        rw e (none_left settings q r h.beside (omega arith))

    shares : Share q.cut s d (kept_after d.eaten r) (Fills q.cut (remnant q.cut s d) (kept_after d.eaten r))
    shares =
        ⊎_elim
        (λ z. share-last q.cut s d (kept_after d.eaten r) _ (last z) (whole z))
        (λ z. share-more q.cut s d (kept_after d.eaten r) (off z) (rest (remnant q.cut s d) (spans-rest z)))
        (eq-zero-or-pos (d.eaten + extent (other q.cut) r))

    piece-fills : Fills q.cut s (kept_after before (grow p d k r))
    piece-fills = subst⁻¹ (λ (t : Tree). Fills q.cut s t) stays (under, shares)

row-fills : (settings : Settings) (q : Datum) (before : ℕ) (r : Tree) (s : Size) → Children settings q r → Spans q before r s
    → Fills q.cut s (kept_after before r)
row-fills settings q before nil s h a = spans-some q before s a
row-fills settings q before (grow p d k r) s h a =
    piece-fills settings q before p d k r s h a
    (λ g. row-fills settings d 0 k d.size h.below (spans-own d k g))
    (λ s' z. row-fills settings q d.eaten r s' h.beside z)

-- the children of a structure fill it
pub structure-fills : (settings : Settings) (d : Datum) (k : Tree) → StructurePiece d k → Children settings d k → Fills d.cut d.size (without_empty k)
structure-fills settings d k g h = row-fills settings d 0 k d.size h (spans-own d k g)
