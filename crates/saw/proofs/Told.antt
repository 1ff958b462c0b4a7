-- The bytes of change requests 3 and 4 (document 02) tell the cuts: read nine at a time, with the amounts beside them, they are the list again, and a saw
-- that reads them gives the boards of the tree. Rests on Sawn, and on tree's Read for how great the sides are.
use mathlib.Core.Path.{◌≡◌, refl, ap, ◌∙◌}
use mathlib.Core.Bool.{◌&&◌}
use mathlib.Core.Logic.{⊎_elim}
use mathlib.Core.Option.{some}
use mathlib.Core.List.{List, [], ◌∷◌, ◌++◌}
use Prim.Native.Nat.{ℕ, ◌+◌, ◌/◌, ◌%◌, ◌≤◌, ◌<◌}
use native.Mathlib.Omega.{arith}
use lib.Dec.{eqb}
use Rattle.piece.specs.declared.orientation.Orientation.{Orientation}
use Rattle.piece.specs.declared.orientation.Orientation.TheVariants.{Horizontal, Vertical}
use Rattle.piece.specs.declared.node.Datum.{Datum}
use Rattle.piece.specs.declared.settings.Settings.{Settings}
use Rattle.piece.specs.Sides.{other}
use Rattle.piece.specs.Row.{nil, grow}
use Rattle.piece.specs.Numbers.{cut_no}
use Rattle.tree.specs.Tree.{Tree, count}
use Rattle.tree.specs.Sound.{max_side, Children, Sound}
use Rattle.tree.proofs.Read.{Readable, sound-readable}
use Rattle.lists.proofs.Scan.{test}
use Rattle.saw.specs.declared.cut.Cut.{Cut}
use Rattle.saw.specs.Saw.{side, saw}
use Rattle.saw.specs.Cuts.{is_empty, kept_after, without_empty, cut_off, piles_of, row_cuts, cuts, boards, cut_bytes, bytes_of_cuts, amounts}
use Rattle.saw.specs.Read.{way_of, of_two, of_four, read_cuts, losing, Fits, EachOf}
use Rattle.saw.proofs.Slices.{side-small}
use Rattle.saw.proofs.Fills.{count_kept, readable-kept}
use Rattle.saw.proofs.Sawn.{saw-gives, piles-most}

-- ---- what bytes say

way_back : (w : Orientation) → way_of (cut_no w) ≡ w
way_back Horizontal = refl
way_back Vertical = refl

two_back : (n : ℕ) → n < 65536 → of_two (n / 256 % 256) (n % 256) ≡ n
two_back n h = omega arith

upper-back : (n : ℕ) → n < 4294967296 → of_two (n / 16777216 % 256) (n / 65536 % 256) ≡ n / 65536
upper-back n h = omega arith

lower-back : (n : ℕ) → of_two (n / 256 % 256) (n % 256) ≡ n % 65536
lower-back n = omega arith

four-back : (n : ℕ) → n < 4294967296
    → of_four (n / 16777216 % 256) (n / 65536 % 256) (n / 256 % 256) (n % 256) ≡ n
four-back n h = rw (upper-back n h, lower-back n) (omega arith)

-- the bytes of cuts that fit tell them, with the amounts
pub told : (cs : List Cut) → EachOf Fits cs → losing (read_cuts (bytes_of_cuts cs)) (amounts cs) ≡ cs
unfolding read_cuts bytes_of_cuts cut_bytes
told [] h = refl
told (c ∷ cs) h =
    let place = two_back c.place h.0.place in
    let way = way_back c.way in
    let distance = four-back c.distance h.0.distance in
    let rest = told cs h.1 in
    λ i. record { place = place i; way = way i; distance = distance i; piece = c.piece; remainder = c.remainder; eaten = c.eaten } ∷ rest i

-- ---- the cuts of a sound tree fit

pub each_append : {A : Type 0} (P : A → Type 0) (a b : List A) → EachOf P a → EachOf P b → EachOf P (a ++ b)
each_append P [] b f g = g
each_append P (x ∷ a) b f g = (f.0, each_append P a b f.1 g)

each-less : {A : Type 0} {P Q : A → Type 0} → ((x : A) → P x → Q x) → (l : List A) → EachOf P l → EachOf Q l
each-less f [] h = tt
each-less f (x ∷ l) h = (f x h.0, each-less f l h.1)

-- a cut of one of the first m places, at a distance within a sheet
pub record Within (m : ℕ) (c : Cut) : Type 0 where
  pub place : c.place < m
  pub distance : c.distance ≤ max_side

off-within : (m : ℕ) (way : Orientation) (i : ℕ) (d : Datum) (r : Tree) → i < m → side way d.size ≤ max_side
    → EachOf (Within m) (cut_off way i d r)
off-within m way i d nil a b = tt
off-within m way i d (grow p e k r) a b = (record { place = a; distance = b }, tt)

row_within : (l m : ℕ) (way : Orientation) (i : ℕ) (r : Tree) → Readable l r → i + count r ≤ m → EachOf (Within m) (row_cuts way i r)
unfolding row_cuts
row_within l m way i nil f h = tt
row_within l m way i (grow p d k r) f h =
    let below = row_cuts (other way) i k in
    let j = i + piles_of d k in
    each_append (Within m) (cut_off way i d r) (below ++ row_cuts way j r)
    (off-within m way i d r (omega arith) (side-small way f.0.small))
    (each_append (Within m) below (row_cuts way j r)
    (row_within (l + 1) m (other way) i k f.1 (omega arith))
    (row_within l m way j r f.2 (omega (arith, piles-most d k))))

-- the places are below the count of the nodes, and no distance is greater than a side can be
pub cuts-within : {limit : ℕ} {settings : Settings} (t : Tree) → Sound limit settings t → EachOf (Within (count t)) (cuts t)
cuts-within nil h = tt
cuts-within (grow p d k r) h =
    row_within 1 (count (grow p d k r)) d.cut 0 (without_empty k) (readable-kept 0 1 k (sound-readable (grow p d k r) h).1)
    (omega (arith, count_kept 0 k))

pub cuts_fit : {limit : ℕ} {settings : Settings} (t : Tree) → limit ≤ 65535 → Sound limit settings t → EachOf Fits (cuts t)
cuts_fit t a h =
    each-less
    (λ (c : Cut) (w : Within (count t) c). record { place = omega (arith, w.place, h.room); distance = omega (arith, w.distance) })
    (cuts t) (cuts-within t h)

-- the saw that reads the bytes and loses the amounts gives the boards of the tree
pub list_read : {limit : ℕ} {settings : Settings} (t : Tree) → limit ≤ 65535 → Sound limit settings t
    → saw (losing (read_cuts (bytes_of_cuts (cuts t))) (amounts (cuts t))) (settings.sheet ∷ []) ≡ some (boards t)
list_read {settings} t a h = ap (λ (l : List Cut). saw l (settings.sheet ∷ [])) (told (cuts t) (cuts_fit t a h)) ∙ saw-gives t h

-- ---- what the cuts lose

abbrev Lesser : ℕ → Cut → Type 0
Lesser blade c = c.eaten ≤ blade

off-lesser : (blade : ℕ) (way : Orientation) (i : ℕ) (d : Datum) (r : Tree) → d.eaten ≤ blade → EachOf (Lesser blade) (cut_off way i d r)
off-lesser blade way i d nil h = tt
off-lesser blade way i d (grow p e k r) h = (h, tt)

row-lesser : (settings : Settings) (q : Datum) (way : Orientation) (i before : ℕ) (r : Tree) → Children settings q r
    → EachOf (Lesser settings.blade) (row_cuts way i (kept_after before r))
unfolding row_cuts
row-lesser settings q way i before nil h = tt
row-lesser settings q way i before (grow p d k r) h =
    let lesser = Lesser settings.blade in
    let below = without_empty k in
    let rest = kept_after d.eaten r in
    let j = i + piles_of d below in
    ⊎_elim
    (λ e. rw e (row-lesser settings q way i 0 r h.beside))
    (λ e. rw e
    (each_append lesser (cut_off way i d rest) (row_cuts (other way) i below ++ row_cuts way j rest)
    (off-lesser settings.blade way i d rest h.child.eaten)
    (each_append lesser (row_cuts (other way) i below) (row_cuts way j rest)
    (row-lesser settings d (other way) i 0 k h.below)
    (row-lesser settings q way j d.eaten r h.beside))))
    (test (is_empty d && eqb before 0))

each-amount : (P : ℕ → Type 0) (cs : List Cut) → EachOf (λ (c : Cut). P c.eaten) cs → EachOf P (amounts cs)
each-amount P [] h = tt
each-amount P (c ∷ cs) h = (h.0, each-amount P cs h.1)

-- none of the amounts is greater than the blade's width
pub amounts-lesser : {limit : ℕ} {settings : Settings} (t : Tree) → Sound limit settings t → EachOf (λ (n : ℕ). n ≤ settings.blade) (amounts (cuts t))
amounts-lesser nil h = tt
amounts-lesser {settings} (grow p d k r) h =
    each-amount (λ (n : ℕ). n ≤ settings.blade) (cuts (grow p d k r)) (row-lesser settings d d.cut 0 0 k h.topped.1)
