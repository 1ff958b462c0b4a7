-- A snapshot can be read back: from its bytes follow the pieces, in their order and each under its parent. Assumes nothing.
use mathlib.Core.Path.{◌≡◌, refl, sym, ap, ◌∙◌, subst}
use mathlib.Core.List.{List, [], ◌∷◌, ◌++◌, append_assoc, append-nil}
use Prim.Native.Nat.{ℕ, ◌+◌, ◌/◌, ◌%◌, ◌≤◌, ◌<◌}
use native.Mathlib.Omega.{arith}
use Rattle.piece.specs.declared.orientation.Orientation.{Orientation}
use Rattle.piece.specs.declared.orientation.Orientation.TheVariants.{Horizontal, Vertical}
use Rattle.piece.specs.declared.size.Size.{Size}
use Rattle.piece.specs.declared.node.Datum.{Datum}
use Rattle.piece.specs.declared.node.Kind.{Kind}
use Rattle.piece.specs.declared.node.Kind.TheVariants.{Free, Part, Structure}
use Rattle.piece.specs.declared.settings.Settings.{Settings}
use Rattle.piece.specs.Sides.{other, laid}
use Rattle.piece.specs.Row.{nil, grow}
use Rattle.piece.proofs.Numbers.{kind-back, cut-back}
use Rattle.piece.specs.Numbers.{kind_no, cut_no, kind_of, cut_of}
use Rattle.tree.specs.Tree.{Tree}
use Rattle.tree.specs.Sound.{max_side, max_number, max_blade, extent, Kinded, Children, Sound}
use Rattle.tree.specs.Snapshot.{two_then, four_then, node_bytes, snapshot, Same, unmarked, shape}

-- ---- one node

-- sides that four bytes hold
pub record Small (s : Size) : Type 0 where
  pub width : s.width ≤ max_side
  pub height : s.height ≤ max_side

-- a piece at this level whose bytes hold all that it is
pub record Written (l : ℕ) (d : Datum) : Type 0 where
  pub level : d.level ≡ l
  pub number : d.number ≤ max_number
  pub small : Small d.size
  pub eaten : d.eaten ≤ max_blade

-- what the bytes of a number say, and what follows them
two-read : (v w : ℕ) {x y : List ℕ} → v ≤ max_number → w ≤ max_number → two_then v x ≡ two_then w y → (v ≡ w) × (x ≡ y)
two-read v w hv hw e =
    let high : v / 256 % 256 ≡ w / 256 % 256 = cc in
    let low : v % 256 ≡ w % 256 = cc in
    (omega arith, cc)

-- numbers that agree in their two highest bytes, and then in the next
upper : (v w : ℕ) → v ≤ max_side → w ≤ max_side → v / 16777216 % 256 ≡ w / 16777216 % 256 → v / 65536 % 256 ≡ w / 65536 % 256
    → v / 65536 ≡ w / 65536
upper v w hv hw a b = omega arith

middle : (v w : ℕ) → v / 65536 ≡ w / 65536 → v / 256 % 256 ≡ w / 256 % 256 → v / 256 ≡ w / 256
middle v w h a = omega arith

four-read : (v w : ℕ) {x y : List ℕ} → v ≤ max_side → w ≤ max_side → four_then v x ≡ four_then w y → (v ≡ w) × (x ≡ y)
four-read v w hv hw e =
    let high : v / 256 ≡ w / 256 = middle v w (upper v w hv hw (cc) (cc)) (cc) in
    let low : v % 256 ≡ w % 256 = cc in
    (omega arith, cc)

-- the last nine bytes of a node
abbrev sides : Datum → List ℕ → List ℕ
sides d x = four_then d.size.width (four_then d.size.height (d.eaten ∷ x))

-- what the bytes of a node say, and what follows them
node-read : {l m : ℕ} (d e : Datum) {x y : List ℕ} → Written l d → Written m e → node_bytes d x ≡ node_bytes e y
    → (unmarked d ≡ unmarked e) × (x ≡ y)
unfolding node_bytes
node-read d e {x} {y} a b h =
    let kinds : kind_no d.kind ≡ kind_no e.kind = cc in
    let kind : d.kind ≡ e.kind = sym (kind-back d.kind) ∙ ap kind_of kinds ∙ kind-back e.kind in
    let cuts : cut_no d.cut ≡ cut_no e.cut = cc in
    let cut : d.cut ≡ e.cut = sym (cut-back d.cut) ∙ ap cut_of cuts ∙ cut-back e.cut in
    let rest : two_then d.number (sides d x) ≡ two_then e.number (sides e y) = cc in
    let number = two-read d.number e.number a.number b.number rest in
    let width = four-read d.size.width e.size.width a.small.width b.small.width number.1 in
    let height = four-read d.size.height e.size.height a.small.height b.small.height width.1 in
    let size : d.size ≡ e.size = λ i. record { width = width.0 i; height = height.0 i } in
    let level : d.level ≡ e.level = cc in
    let last : d.eaten ∷ x ≡ e.eaten ∷ y = height.1 in
    let eaten : d.eaten ≡ e.eaten = cc in
    ((λ i. record { serial = 0; size = size i; number = number.0 i; level = level i; kind = kind i; cut = cut i; eaten = eaten i }), cc)

-- ---- rows

-- a row at this level that the bytes can hold, and so below
abbrev pub Readable : ℕ → Tree → Type 0
Readable l nil = Unit {0}
Readable l (grow p d k r) = Written l d × Readable (l + 1) k × Readable l r

-- nothing follows, or a piece further up
abbrev Stops : ℕ → List ℕ → Type 0
Stops l [] = Unit {0}
Stops l (b ∷ s) = b < l

stops-up : (l : ℕ) (s : List ℕ) → Stops l s → Stops (l + 1) s
stops-up l [] h = tt
stops-up l (b ∷ s) h = omega arith

-- after the children of a piece come its later siblings or what follows those
stops-row : (l : ℕ) (r : Tree) (s : List ℕ) → Readable l r → Stops l s → Stops (l + 1) (snapshot r ++ s)
unfolding snapshot node_bytes
stops-row l nil s f h = stops-up l s h
stops-row l (grow p d k r) s f h = omega (arith, f.0.level)

-- where a row stops, no row at its level begins
no_row : (l p : ℕ) (d : Datum) (k r : Tree) (s t : List ℕ) → Written l d → Stops l s → s ≡ snapshot (grow p d k r) ++ t → ⊥
unfolding snapshot node_bytes
no_row l p d k r s t w h e = let z : d.level < l = subst (Stops l) e h in omega (arith, w.level)

-- a piece, its children, and then its later siblings and what follows them
piece_bytes : (p : ℕ) (d : Datum) (k r : Tree) (s : List ℕ) → snapshot (grow p d k r) ++ s ≡ node_bytes d (snapshot k ++ (snapshot r ++ s))
unfolding snapshot node_bytes
piece_bytes p d k r s = ap (λ (x : List ℕ). node_bytes d x) (append_assoc (snapshot k) (snapshot r) s)

-- a row and what follows it
row_read : (l : ℕ) (a b : Tree) (s t : List ℕ) → Readable l a → Readable l b → Stops l s → Stops l t
    → snapshot a ++ s ≡ snapshot b ++ t → (shape a ≡ shape b) × (s ≡ t)
unfolding snapshot
row_read l nil nil s t f g h i e = (refl, e)
row_read l nil (grow p d k r) s t f g h i e = absurd (no_row l p d k r s t g.0 h e)
row_read l (grow p d k r) nil s t f g h i e = absurd (no_row l p d k r t s f.0 i (sym e))
row_read l (grow p d k r) (grow p' d' k' r') s t f g h i e =
    let s' = snapshot r ++ s in
    let t' = snapshot r' ++ t in
    let here = node-read d d' f.0 g.0 (sym (piece_bytes p d k r s) ∙ e ∙ piece_bytes p' d' k' r' t) in
    let below = row_read (l + 1) k k' s' t' f.1 g.1 (stops-row l r s f.2 h) (stops-row l r' t g.2 i) here.1 in
    let rest = row_read l r r' s t f.2 g.2 h i below.1 in
    ((λ j. grow 0 (here.0 j) (below.0 j) (rest.0 j)), rest.1)

-- two trees with the same bytes have the same shape
pub tree-read : (l : ℕ) (a b : Tree) → Readable l a → Readable l b → Same a b → shape a ≡ shape b
tree-read l a b f g e = (row_read l a b [] [] f g tt tt (simp append-nil e.bytes)).0

-- ---- a sound tree

-- a size laid by a cut has the same sides
laid-small : (c : Orientation) (s : Size) → Small s → Small (laid c s)
laid-small Horizontal s h = h
laid-small Vertical s h = record { width = h.height; height = h.width }

small-laid : (c : Orientation) (s : Size) → Small (laid c s) → Small s
small-laid Horizontal s h = h
small-laid Vertical s h = record { width = h.height; height = h.width }

-- only a part has a number
number_small : (κ : Kind) (d : Datum) (k r : Tree) → Kinded κ d k r → d.number ≤ max_number
number_small Free d k r f = omega (arith, f.unnumbered)
number_small Part d k r f = f.numbered
number_small Structure d k r f = omega (arith, f.unnumbered)

-- the children of a piece with small sides are not wider than it
extent-small : (κ : Kind) (d : Datum) (k r : Tree) → Kinded κ d k r → Small d.size → extent (other d.cut) k ≤ max_side
extent-small Free d k r f s = rw f.childless (omega arith)
extent-small Part d k r f s = rw f.childless (omega arith)
extent-small Structure d k r f s = rw f.filled (laid-small (other d.cut) d.size s).width

-- a row of children as wide as a small side, of a small parent
row-readable : (settings : Settings) → settings.blade ≤ max_blade → (q : Datum) (r : Tree) → Children settings q r → Small q.size
    → extent (other q.cut) r ≤ max_side → Readable (q.level + 1) r
row-readable settings most q nil h s b = tt
row-readable settings most q (grow p d k r) h s b =
    let c = other q.cut in
    let side : (laid c d.size).height ≡ (laid c q.size).height = rw h.child.cut at h.child.side in
    let lying : Small (laid c d.size) = record { width = omega arith; height = omega (arith, laid-small c q.size s) } in
    let small : Small d.size = small-laid c d.size lying in
    let below = row-readable settings most d k h.below small (extent-small d.kind d k r h.kinded small) in
    let number = number_small d.kind d k r h.kinded in
    let here : Written (q.level + 1) d = record { level = h.child.level; number = number; small = small; eaten = omega (arith, h.child.eaten) } in
    (here, (rw h.child.level at below), row-readable settings most q r h.beside s (omega arith))

pub sound-readable : {limit : ℕ} {settings : Settings} (t : Tree) → Sound limit settings t → Readable 0 t
sound-readable nil s = tt
sound-readable {settings} (grow p d k r) s =
    let top = s.topped.0 in
    let small : Small d.size = rw top.size (record { width = s.domain.width; height = s.domain.height }) in
    let below = row-readable settings s.domain.blade d k s.topped.1 small (extent-small Structure d k r top.piece small) in
    let number = number_small Structure d k r top.piece in
    (record { level = top.level; number = number; small = small; eaten = omega (arith, top.eaten) }, (rw top.level at below), rw top.alone tt)
