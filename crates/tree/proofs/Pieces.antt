-- The one place where each record of Sound is made: a field that is added to one of them is answered here.
use mathlib.Core.Path.{◌≡◌}
use Prim.Native.Nat.{ℕ, ◌+◌, ◌≤◌, ◌<◌}
use native.Mathlib.Omega.{arith}
use Rattle.piece.specs.declared.size.Size.{Size}
use Rattle.piece.specs.declared.node.Datum.{Datum}
use Rattle.piece.specs.declared.node.Kind.TheVariants.{Structure}
use Rattle.piece.specs.declared.settings.Settings.{Settings}
use Rattle.piece.specs.Sides.{other, laid}
use Rattle.piece.specs.Row.{nil, grow}
use Rattle.tree.specs.Tree.{Tree, In, Distinct, count}
use Rattle.tree.specs.Sound.{Domain, Sided, extent, max_number, FreePiece, PartPiece, StructurePiece, Child, Top, Topped, Sound}

some-row : (t : Tree) → 1 ≤ count t → t ≡ nil → ⊥
some-row t h e = let z : 1 ≤ 0 = rw e at h in omega arith

-- a piece with another behind it is not the last of its row
pub not_last : {p n : ℕ} {d : Datum} {k r : Tree} → grow p d k r ≡ nil → n ≡ 0
not_last {p} {n} {d} {k} {r} e = absurd (some-row (grow p d k r) (omega arith) e)

pub sided : {s : Size} → 1 ≤ s.width → 1 ≤ s.height → Sided s
sided w h = record { wide = w; tall = h }

pub free-piece : {d : Datum} {k r : Tree} → k ≡ nil → r ≡ nil → d.number ≡ 0 → FreePiece d k r
free-piece k r n = record { childless = k; last = r; unnumbered = n }

pub part-piece : {d : Datum} {k : Tree} → k ≡ nil → Sided d.size → d.number ≤ max_number → PartPiece d k
part-piece k s n = record { childless = k; sided = s; numbered = n }

pub structure-piece : {d : Datum} {k : Tree} → 1 ≤ count k → Sided d.size → extent (other d.cut) k ≡ (laid (other d.cut) d.size).width
    → d.number ≡ 0 → StructurePiece d k
structure-piece {k} p s f n = record { parent = some-row k p; sided = s; filled = f; unnumbered = n }

pub child : {settings : Settings} {q d : Datum} → d.level ≡ q.level + 1 → d.level ≤ settings.stages → d.cut ≡ other q.cut
    → (laid d.cut d.size).height ≡ (laid d.cut q.size).height → d.eaten ≤ settings.blade → Child settings q d
child l m c s e = record { level = l; stage = m; cut = c; side = s; eaten = e }

pub top : {settings : Settings} {p : ℕ} {d : Datum} {k r : Tree} → p ≡ 0 → r ≡ nil → d.level ≡ 0 → d.kind ≡ Structure → d.size ≡ settings.sheet
    → d.eaten ≡ 0 → StructurePiece d k → Top settings p d k r
top p r l a s e h = record { place = p; alone = r; level = l; kind = a; size = s; eaten = e; piece = h }

pub sound : {limit : ℕ} {settings : Settings} {t : Tree} → Domain settings → Topped settings t → count t ≤ limit
    → ((i : ℕ) → In i t → i < limit) → Distinct t → Sound limit settings t
sound d t n p u = record { domain = d; topped = t; room = n; placed = p; distinct = u }
