-- The law of change request 3 (document 02): "running the list on the full sheet gives exactly the parts and free pieces of the tree, in tree order",
-- whatever the blade's width. That the saw gives `some` pile says that it "never cuts a piece that isn't there or at distance 0". Rests on Truly: a
-- sawyer who believes the list can run it, and the saw does as he does.
use mathlib.Core.Path.{◌≡◌, refl, sym, ap, ◌∙◌, subst, subst⁻¹}
use mathlib.Core.Bool.{Bool, true, false, cond, ◌&&◌}
use mathlib.Core.Logic.{⊎_elim}
use mathlib.Core.Option.{Option, none, some}
use mathlib.Core.List.{List, [], ◌∷◌, ◌++◌, map, map-append, append-nil}
use Prim.Native.Nat.{ℕ, zero, suc, ◌+◌, ◌-◌, ◌≤◌, ◌<◌}
use native.Mathlib.Omega.{arith}
use lib.Dec.{eqb}
use lib.ListN.{length, length-append}
use Rattle.piece.specs.declared.orientation.Orientation.{Orientation}
use Rattle.piece.specs.declared.size.Size.{Size}
use Rattle.piece.specs.declared.node.Datum.{Datum}
use Rattle.piece.specs.declared.node.Kind.{Kind}
use Rattle.piece.specs.declared.node.Kind.TheVariants.{Free, Part, Structure}
use Rattle.piece.specs.declared.settings.Settings.{Settings}
use Rattle.piece.specs.Sides.{area, other}
use Rattle.piece.specs.Row.{nil, grow}
use Rattle.piece.specs.Kinds.{is_free}
use Rattle.tree.specs.Tree.{Tree, count}
use Rattle.tree.specs.Sound.{Sound}
use Rattle.lists.proofs.Scan.{test}
use Rattle.saw.specs.declared.cut.Cut.{Cut}
use Rattle.saw.specs.Saw.{side, slice, with_area, halves, cuts_b, and_then, saw_at, saw}
use Rattle.saw.specs.Cuts.{is_empty, without_empty, cut_off, piles_of, row_cuts, cuts, own_board, boards}
use Rattle.saw.specs.Sawyer.{Piece, named_by, sizes, may_cut, parted, sawyer_at, sawyer, nested_in, uncut}
use Rattle.saw.proofs.Slices.{remnant}
use Rattle.saw.proofs.Fills.{Below, Share, Fills, boards-kept, count_kept, structure-fills}
use Rattle.saw.proofs.Truly.{sizes-named, sawyer-believes}

-- ---- the saw is the sawyer who hears nothing

-- where the sawyer gets a pile, the saw gets its sizes
abbrev Does : Option (List Piece) → Option (List Size) → Type 0
Does none o = Unit {0}
Does (some pile) o = o ≡ some (sizes pile)

does-onward : (p : Option (List Piece)) (o : Option (List Size)) (f : List Piece → Option (List Piece)) (g : List Size → Option (List Size))
    → Does p o → ((pile : List Piece) → Does (f pile) (g (sizes pile))) → Does (and_then p f) (and_then o g)
does-onward none o f g h then = tt
does-onward (some pile) o f g h then = subst⁻¹ (λ (q : Option (List Size)). Does (f pile) (and_then q g)) h (then pile)

sizes-two : (way : Orientation) (n m : ℕ) (near far : List Size) (pile : List Piece)
    → sizes ((map (named_by n way) near ++ map (named_by m way) far) ++ pile) ≡ (near ++ far) ++ sizes pile
sizes-two way n m near far pile = simp (map-append, sizes-named)

does-cut : (may can : Bool) (p : List Piece) (q : List Size) → sizes p ≡ q → Does (cond (may && can) (some p) none) (cond can (some q) none)
does-cut true true p q e = ap (λ (l : List Size). some l) (sym e)
does-cut true false p q e = tt
does-cut false can p q e = tt

does_at : (nested : Bool) (c : Cut) (i : ℕ) (pile : List Piece) → Does (sawyer_at nested c i pile) (saw_at c i (sizes pile))
does_at nested c i [] = tt
does_at nested c zero (x ∷ pile) =
    does-cut (may_cut nested c.way x) (cuts_b c x.size) (parted c x.size ++ pile) (halves c x.size ++ sizes pile)
    (sizes-two c.way c.piece c.remainder (with_area (slice c.way c.distance x.size))
    (with_area (slice c.way (side c.way x.size - (c.distance + c.eaten)) x.size)) pile)
does_at nested c (suc i) (x ∷ pile) =
    does-onward (sawyer_at nested c i pile) (saw_at c i (sizes pile)) (λ (p : List Piece). some (x ∷ p)) (λ (p : List Size). some (x.size ∷ p))
    (does_at nested c i pile) (λ p. refl)

does : (nested : Bool) (cs : List Cut) (pile : List Piece) → Does (sawyer nested cs pile) (saw cs (sizes pile))
does nested [] pile = refl
does nested (c ∷ cs) pile =
    does-onward (sawyer_at nested c c.place pile) (saw_at c c.place (sizes pile)) (sawyer nested cs) (saw cs)
    (does_at nested c c.place pile) (does nested cs)

-- ---- the tree

-- the list of a sound tree can be sawn, and gives the boards of the tree
pub saw-gives : {limit : ℕ} {settings : Settings} (t : Tree) → Sound limit settings t → saw (cuts t) (settings.sheet ∷ []) ≡ some (boards t)
saw-gives {settings} t h =
    let made = sawyer-believes t h in
    subst (λ (p : Option (List Piece)). Does p (saw (cuts t) (settings.sheet ∷ []))) made.1 (does (nested_in t) (cuts t) (uncut t settings.sheet ∷ []))
    ∙ ap (λ (l : List Size). some l) made.2

-- ---- how many there are

-- the free pieces of area 0 of a row and below it
abbrev pub empties : Tree → ℕ
empties nil = 0
empties (grow p d k r) = cond (is_empty d) 1 0 + (empties k + empties r)

own-count : (s : Size) → length (with_area s) + cond (eqb (area s) 0) 1 0 ≡ 1
own-count s = ⊎_elim (λ e. rw e refl) (λ e. rw e refl) (test (eqb (area s) 0))

-- the cuts below a piece
piece-count : (κ : Kind) (way : Orientation) (i : ℕ) (s : Size) (k : Tree) → Below κ s k (Fills way s k)
    → (Fills way s k → length (boards k) + empties k ≡ 1 + length (row_cuts way i k))
    → length (own_board κ s) + length (boards k) + (cond (is_free κ && eqb (area s) 0) 1 0 + empties k) ≡ 1 + length (row_cuts way i k)
unfolding row_cuts
piece-count Free way i s k f below = rw f (omega (arith, own-count s))
piece-count Part way i s k f below = rw f.1 (omega arith)
piece-count Structure way i s k f below = omega (arith, below f)

-- behind a piece are the cuts of the rest, and one more
rest-count : (way : Orientation) (s : Size) (d : Datum) (r : Tree) (i j : ℕ) → Share way s d r (Fills way (remnant way s d) r)
    → (Fills way (remnant way s d) r → length (boards r) + empties r ≡ 1 + length (row_cuts way j r))
    → length (boards r) + empties r ≡ length (cut_off way i d r) + length (row_cuts way j r)
unfolding row_cuts
rest-count way s d nil i j f rest = refl
rest-count way s d (grow p e k r) i j f rest = rest f.1

row_count : (way : Orientation) (s : Size) (r : Tree) (i : ℕ) → Fills way s r → length (boards r) + empties r ≡ 1 + length (row_cuts way i r)
unfolding row_cuts
row_count way s nil i f = absurd f
row_count way s (grow p d k r) i f =
    let own = own_board d.kind d.size in
    let below = row_cuts (other way) i k in
    let j = i + piles_of d k in
    omega (
      arith,
      length-append own (boards k ++ boards r),
      length-append (boards k) (boards r),
      length-append (cut_off way i d r) (below ++ row_cuts way j r),
      length-append below (row_cuts way j r),
      piece-count d.kind (other way) i d.size k f.0 (row_count (other way) d.size k i),
      rest-count way s d r i j f.1 (row_count way (remnant way s d) r j),
    )

-- each cut makes one piece more, but one whose blade takes all that is left: what is left behind it is a free piece of area 0 that isn't left out
pub cuts-count : {limit : ℕ} {settings : Settings} (t : Tree) → Sound limit settings t
    → length (boards t) + empties (without_empty t) ≡ 1 + length (cuts t)
cuts-count nil h = absurd h.topped
cuts-count {settings} (grow p d k r) h =
    let top = h.topped.0 in
    let c = h.topped.1 in
    rw (top.kind, top.alone, append-nil (boards k), ← boards-kept settings d 0 k c)
    (omega (arith, row_count d.cut d.size (without_empty k) 0 (structure-fills settings d k top.piece c)))

-- ---- room for the list

own-most : (κ : Kind) (s : Size) → length (own_board κ s) ≤ 1
own-most Free s = omega (arith, own-count s)
own-most Part s = omega arith
own-most Structure s = omega arith

-- no more pieces than nodes
pub boards-most : (r : Tree) → length (boards r) ≤ count r
boards-most nil = omega arith
boards-most (grow p d k r) =
    let own = own_board d.kind d.size in
    omega (
      arith,
      length-append own (boards k ++ boards r),
      length-append (boards k) (boards r),
      own-most d.kind d.size,
      boards-most k,
      boards-most r,
    )

pub piles-most : (d : Datum) (k : Tree) → piles_of d k ≤ 1 + count k
piles-most d k = omega (arith, length-append (own_board d.kind d.size) (boards k), own-most d.kind d.size, boards-most k)

off-most : (way : Orientation) (i : ℕ) (d : Datum) (r : Tree) → length (cut_off way i d r) + (count r - 1) ≤ count r
off-most way i d nil = omega arith
off-most way i d (grow p e k r) = omega arith

row-most : (way : Orientation) (i : ℕ) (r : Tree) → length (row_cuts way i r) ≤ count r - 1
unfolding row_cuts
row-most way i nil = omega arith
row-most way i (grow p d k r) =
    let own = cut_off way i d r in
    let below = row_cuts (other way) i k in
    let j = i + piles_of d k in
    omega (
      arith,
      length-append own (below ++ row_cuts way j r),
      length-append below (row_cuts way j r),
      off-most way i d r,
      row-most (other way) i k,
      row-most way j r,
    )

-- fewer cuts than nodes
pub cuts-most : {limit : ℕ} {settings : Settings} (t : Tree) → Sound limit settings t → length (cuts t) < count t
cuts-most nil h = absurd h.topped
cuts-most (grow p d k r) h = omega (arith, row-most d.cut 0 (without_empty k), count_kept 0 k)
