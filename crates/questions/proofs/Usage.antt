-- Each usage of a sound layout is a number, so that it has bits: no quotient of 0 by 0, and no infinity of the other sign. Assumes nothing.
use mathlib.Core.Path.{◌≡◌, refl, subst, sym}
use mathlib.Core.Bool.{Bool, true, false, not, cond}
use Prim.Native.Nat.{ℕ, ◌+◌, ◌*◌, ◌^◌, ◌≤◌, ◌<◌}
use native.Mathlib.Nat.{mul-pos}
use native.Mathlib.Omega.{arith}
use lib.Dec.{T, ltb}
use borrow.Author.Tests.{ne_eqb}
use lib.Ieee.{Float, fin, nan, inf, binary64, low, up, down, odd, units, round, sum, add, mul, div, is_nan, of_int, of_bits}
use lib.Ieee.Exact.{HasValue, odd_sign}
use lib.Ieee.Back.{round_whole}
use lib.Ieee.Fits.{down_pos, round_is}
use Rattle.piece.specs.declared.node.Datum.{Datum}
use Rattle.piece.specs.declared.node.Kind.{Kind}
use Rattle.piece.specs.declared.node.Kind.TheVariants.{Free, Part, Structure}
use Rattle.piece.specs.declared.settings.Settings.{Settings}
use Rattle.piece.specs.Sides.{area}
use Rattle.piece.specs.Row.{nil, grow}
use Rattle.piece.proofs.Sizes.{area_small}
use Rattle.tree.specs.Tree.{Tree}
use Rattle.tree.specs.Sound.{Kinded, Children, Topped}
use Rattle.tree.specs.Figures.{part_area, nought, one, whole, sheet_usage, usage_of, added, tree_usage}
use Rattle.tree.proofs.Read.{Readable, sound-readable}
use Rattle.tree.proofs.Usage.{sheet-small, sheet-positive}
use Rattle.layout.specs.declared.layout.Layout.{Layout}
use Rattle.layout.specs.Check.{tree}
use Rattle.layout.specs.SoundLayout.{SoundLayout}
use Rattle.layout.proofs.Areas.{used-small}

-- ---- the operations on numbers that are not below 0

-- no NaN, and nothing below 0
abbrev Counts : Float → Type 0
Counts nan = ⊥
Counts (inf s) = s ≡ false
Counts (fin s m e) = s ≡ false

-- finite, and not below 0
abbrev Is : Float → ℕ → Type 0
Is x a = HasValue x false a 1

is-counts : (x : Float) (a c : ℕ) → HasValue x false a c → Counts x
is-counts (fin s m e) a c v = v.0
is-counts nan a c v = elim v [ ]
is-counts (inf _) a c v = elim v [ ]

is_number : (x : Float) → Counts x → T (not (is_nan x))
unfolding is_nan
is_number (inf s) h = tt
is_number (fin s m e) h = tt
is_number nan h = elim h [ ]

units-counts : (q k : ℕ) → Counts (units binary64 false q k)
unfolding units
units-counts q k = go (ltb (q * 2 ^ k) (2 ^ (low binary64 + 1024)))
  where
    go : (b : Bool) → Counts (cond b (odd 54 false q k (low binary64)) (inf false))
    go true = is-counts (odd 54 false q k (low binary64)) (q * 2 ^ k) (2 ^ low binary64) (odd_sign 54 false q k (low binary64))
    go false = refl

round-counts : (a b : ℕ) → Counts (round binary64 false a b)
round-counts a b = subst Counts (sym (round_is binary64 false a b)) (units-counts _ _)

add-counts : (x y : Float) → Counts x → Counts y → Counts (add binary64 x y)
unfolding add sum
add-counts (inf s) (inf t) c d = rw (c, d) refl
add-counts (inf s) (fin t n e) c d = c
add-counts (fin s m e) (inf t) c d = d
add-counts (fin s m e) (fin t n f) c d = rw (c, d) (round-counts (m * up e * down f + n * up f * down e) (down e * down f))
add-counts nan y c d = elim c [ ]
add-counts (inf s) nan c d = elim d [ ]
add-counts (fin s m e) nan c d = elim d [ ]

-- the number is not 0
not-zero : (n u b q : ℕ) → n * u * 1 ≡ b * q → 0 < b → 0 < q → n ≡ 0 → ⊥
not-zero n u b q w hb hq z =
    let none : 0 * u * 1 ≡ b * q = rw z at w in
    omega (arith, mul-pos hb hq)

-- what is finite times what is finite; and a finite number above 0 times any
mul-finite : (x y : Float) (a b : ℕ) → Is x a → Is y b → Counts (mul binary64 x y)
unfolding mul
mul-finite (fin s m e) (fin t n f) a b v w = rw (v.0, w.0) (round-counts (m * up e * (n * up f)) (down e * down f))
mul-finite nan y a b v w = elim v [ ]
mul-finite (inf _) y a b v w = elim v [ ]
mul-finite (fin s m e) nan a b v w = elim w [ ]
mul-finite (fin s m e) (inf _) a b v w = elim w [ ]

mul-counts : (x y : Float) (a : ℕ) → 0 < a → Is x a → Counts y → Counts (mul binary64 x y)
unfolding mul
mul-counts (fin s m e) (inf t) a h v c = rw (v.0, c, ne_eqb m 0 (not-zero m (up e) a (down e) v.1 h (down_pos e))) refl
mul-counts (fin s m e) (fin t n f) a h v c = rw (v.0, c) (round-counts (m * up e * (n * up f)) (down e * down f))
mul-counts nan y a h v c = elim v [ ]
mul-counts (inf _) y a h v c = elim v [ ]
mul-counts (fin s m e) nan a h v c = elim c [ ]

-- divided by a finite number above 0
div-counts : (x y : Float) (b : ℕ) → Counts x → 0 < b → Is y b → Counts (div binary64 x y)
unfolding div
div-counts (inf s) (fin t n d) b c h w = rw (c, w.0) refl
div-counts (fin s m e) (fin t n d) b c h w = rw (c, w.0, ne_eqb n 0 (not-zero n (up d) b (down d) w.1 h (down_pos d)))
    (round-counts (m * up e * down d) (n * up d * down e))
div-counts nan y b c h w = elim c [ ]
div-counts (inf s) nan b c h w = elim w [ ]
div-counts (inf s) (inf _) b c h w = elim w [ ]
div-counts (fin s m e) nan b c h w = elim w [ ]
div-counts (fin s m e) (inf _) b c h w = elim w [ ]

-- ---- the figures

whole_is : (a : ℕ) → a ≤ 2 ^ 53 → Is (whole a) a
unfolding of_int
whole_is a h = round_whole binary64 false a h

nought-is : Is nought 0
unfolding of_bits
nought-is = (refl, refl)

one-is : Is one 1
unfolding of_bits
one-is = (refl, refl)

-- the sheet's
sheet-counts : (used sheet : ℕ) → used ≤ 2 ^ 53 → 0 < sheet → sheet ≤ 2 ^ 53 → Counts (sheet_usage used sheet)
unfolding sheet_usage
sheet-counts used sheet hu h hs =
    div-counts (whole used) (whole sheet) sheet (is-counts (whole used) used 1 (whole_is used hu)) h (whole_is sheet hs)

-- a piece's area times its usage: a free piece can have area 0, and its usage is 0 then too
piece-counts : (κ : Kind) (d : Datum) (k r : Tree) → Kinded κ d k r → area d.size ≤ 2 ^ 53 → Counts (added nought k)
    → Counts (mul binary64 (whole (area d.size)) (usage_of κ (area d.size) (added nought k)))
piece-counts Free d k r f small c = mul-finite (whole (area d.size)) nought (area d.size) 0 (whole_is (area d.size) small) nought-is
piece-counts Part d k r f small c = mul-finite (whole (area d.size)) one (area d.size) 1 (whole_is (area d.size) small) one-is
piece-counts Structure d k r f small c =
    let a = area d.size in
    let above = mul-pos f.sided.wide f.sided.tall in
    mul-counts (whole a) (usage_of Structure a (added nought k)) a above (whole_is a small)
    (div-counts (added nought k) (whole a) a c above (whole_is a small))

-- a row's, added to s
row_counts : (settings : Settings) (q : Datum) (r : Tree) → Children settings q r → (l : ℕ) → Readable l r → (s : Float) → Counts s → Counts (added s r)
unfolding added
row_counts settings q nil h l f s c = c
row_counts settings q (grow p d k r) h l f s c =
    let a = area d.size in
    let small = area_small d.size f.0.small.width f.0.small.height in
    let below = row_counts settings d k h.below (l + 1) f.1 nought (is-counts nought 0 1 nought-is) in
    let here = piece-counts d.kind d k r h.kinded (omega arith) below in
    row_counts settings q r h.beside l f.2 (add binary64 s (mul binary64 (whole a) (usage_of d.kind a (added nought k)))) (add-counts s _ c here)

top-counts : (settings : Settings) (w : Tree) → Topped settings w → Readable 0 w → Counts (tree_usage w)
top-counts settings nil h f = absurd h
top-counts settings (grow p d k r) h f =
    let a = area d.size in
    let small = area_small d.size f.0.small.width f.0.small.height in
    let piece = h.0.piece in
    let below = row_counts settings d k h.1 1 f.1 nought (is-counts nought 0 1 nought-is) in
    rw h.0.kind
    (div-counts (added nought k) (whole a) a below (mul-pos piece.sided.wide piece.sided.tall) (whole_is a (omega arith)))

-- ---- of a sound layout

module _ (l : Layout) (s : SoundLayout l) where
  pub sheet-usage-number : T (not (is_nan (sheet_usage (part_area (tree l)) (area l.settings.sheet))))
  sheet-usage-number =
      let used = part_area (tree l) in
      let sheet = area l.settings.sheet in
      is_number (sheet_usage used sheet)
      (sheet-counts used sheet (omega (arith, used-small l s, s.used)) (sheet-positive s.sound.domain) (omega (arith, sheet-small s.sound.domain)))

  pub tree-usage-number : T (not (is_nan (tree_usage (tree l))))
  tree-usage-number = is_number (tree_usage (tree l)) (top-counts l.settings (tree l) s.sound.topped (sound-readable (tree l) s.sound))
