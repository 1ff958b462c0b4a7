-- The marks that `rows_ok` makes, of the rows of held structures, say as much as the marks of all rows: in a table whose places pass, a part
-- and a free piece have no row, and an unheld place's is the top alone, which need not be marked.
use mathlib.Core.Path.{◌≡◌, refl, sym, ap, ◌∙◌}
use mathlib.Core.List.{List}
use mathlib.Core.Bool.{Bool, true, false, cond}
use mathlib.Core.Logic.{◌⊎◌, inl, inr, ⊎_elim}
use Prim.Native.Nat.{ℕ, zero, suc, ◌<◌, ◌≤◌}
use native.Mathlib.Omega.{arith}
use native.Mathlib.Decide.{ℕ_discrete, dec_lt}
use lib.Dec.{leb}
use lib.ListN.{get_or, set, replicate}
use lib.Seq.{get_or-set_other, set-set, set_comm}
use borrow.Author.Tests.{eq-eqb, ne_eqb}
use Rattle.piece.specs.declared.node.Kind.{Kind}
use Rattle.piece.specs.declared.node.Kind.TheVariants.{Free, Part, Structure}
use Rattle.piece.specs.declared.settings.Settings.{Settings}
use Rattle.piece.specs.Kinds.{is_structure}
use Rattle.table.specs.declared.Node.{Node}
use Rattle.table.specs.Table.{at}
use Rattle.lists.specs.Search.{every}
use Rattle.sound.specs.Columns.{serials_of, firsts_of, nexts_of}
use Rattle.sound.specs.Places.{places_b, top_b}
use Rattle.sound.specs.Rows.{parent_b}
use Rattle.sound.specs.Hung.{mark_row, mark_rows, hang_rows, marked_at, marked_b, hung_b}
use Rattle.sound.proofs.Says.{clash}
use Rattle.sound.proofs.PlacesSay.{KindNode, Place, places-says, top-says}
use Rattle.sound.proofs.Marks.{first-at, hang-on, hang-over}

-- the top is marked, whatever else is
abbrev topped : List ℕ → List ℕ
topped f = set f 0 1

-- the test does not look at the top
marked-topped : (limit : ℕ) (serial f : List ℕ) → marked_b limit serial (topped f) ≡ marked_b limit serial f
unfolding marked_b
marked-topped limit serial f = λ j. every (λ i. same i (ℕ_discrete i 0) j) limit
  where
    same : (i : ℕ) → Dec (i ≡ 0) → marked_at serial (topped f) i ≡ marked_at serial f i
    same i (yes z) = rw (eq-eqb i 0 z) refl
    same i (no z) = rw (get_or-set_other f 0 i 1 0 z) refl

topped-set : (f : List ℕ) (p : ℕ) → topped (set f p 1) ≡ set (topped f) p 1
topped-set f p = go (ℕ_discrete p 0)
  where
    go : Dec (p ≡ 0) → topped (set f p 1) ≡ set (topped f) p 1
    go (yes z) = rw z refl
    go (no z) = set_comm f p 0 1 1 z

-- a row marks the rest alike, whether the top is marked or not
row-topped : (limit : ℕ) (next : List ℕ) (m p : ℕ) (f : List ℕ) → topped (mark_row limit next m p f) ≡ mark_row limit next m p (topped f)
unfolding mark_row
row-topped limit next zero p f = refl
row-topped limit next (suc m) p f = go (leb limit p) (row-topped limit next m (get_or next p 0) (set f p 1))
  where
    go : (b : Bool) → topped (mark_row limit next m (get_or next p 0) (set f p 1)) ≡ mark_row limit next m (get_or next p 0) (topped (set f p 1))
        → topped (cond b f (mark_row limit next m (get_or next p 0) (set f p 1)))
        ≡ cond b (topped f) (mark_row limit next m (get_or next p 0) (set (topped f) p 1))
    go true ih = refl
    go false ih = ih ∙ ap (mark_row limit next m (get_or next p 0)) (topped-set f p)

-- a place that is no held structure names no child, or the top
rowless : (limit : ℕ) (n : Node) → Place limit n → parent_b n ≡ false → (n.first ≡ 0) ⊎ (n.first ≡ limit)
rowless limit n h e = held (ℕ_discrete n.datum.serial 0)
  where
    kind : (κ : Kind) → KindNode limit κ n → is_structure κ ≡ false → n.first ≡ limit
    kind Free k x = k.leaf.first
    kind Part k x = k.leaf.first
    kind Structure k x = absurd (clash (sym x))

    held : Dec (n.datum.serial ≡ 0) → (n.first ≡ 0) ⊎ (n.first ≡ limit)
    held (yes z) = inl (ap (λ (x : Node). x.first) (h.empty z))
    held (no z) = inr (kind n.datum.kind (h.piece (omega arith)) (rw (ne_eqb n.datum.serial 0 z) at e))

module _ (limit : ℕ) (t : List Node) (places : (i : ℕ) → i < limit → Place limit (at t i)) (end : (at t 0).next ≡ limit) where
  -- the top's row is the top
  row-top : (f : List ℕ) → topped (mark_row limit (nexts_of t) limit 0 f) ≡ topped f
  row-top f = go (dec_lt 0 limit)
    where
      go : Dec (0 < limit) → topped (mark_row limit (nexts_of t) limit 0 f) ≡ topped f
      go (yes l) =
          ap topped (hang-on limit t limit 0 f l l ∙ hang-over limit t _ _ (topped f) (inl (omega arith))) ∙ set-set f 0 1 1
      go (no n) = ap topped (hang-over limit t limit 0 f (inl (omega arith)))

  -- the rows that `rows_ok` passes by mark nothing but the top
  row_same : (q : ℕ) (f : List ℕ) → q < limit
      → topped (cond (parent_b (at t q)) (mark_row limit (nexts_of t) limit (at t q).first f) f)
      ≡ topped (mark_row limit (nexts_of t) limit (at t q).first f)
  row_same q f l = go (parent_b (at t q)) refl
    where
      go : (b : Bool) → parent_b (at t q) ≡ b
          → topped (cond b (mark_row limit (nexts_of t) limit (at t q).first f) f) ≡ topped (mark_row limit (nexts_of t) limit (at t q).first f)
      go true e = refl
      go false e =
          sym
          (⊎_elim
          (λ z. rw z (row-top f))
          (λ z. ap topped (hang-over limit t limit (at t q).first f (inl (omega arith))))
          (rowless limit (at t q) (places q l) e))

  rows_same : (n : ℕ) (f : List ℕ) → n ≤ limit → topped (hang_rows limit t n f) ≡ topped (mark_rows limit (firsts_of t) (nexts_of t) n f)
  unfolding hang_rows mark_rows
  rows_same zero f h = refl
  rows_same (suc n) f h =
      let row = mark_row limit (nexts_of t) limit (at t n).first in
      row_same n (hang_rows limit t n f) (omega arith)
      ∙ row-topped limit (nexts_of t) limit (at t n).first (hang_rows limit t n f)
      ∙ ap row (rows_same n f (omega arith))
      ∙ sym (row-topped limit (nexts_of t) limit (at t n).first (mark_rows limit (firsts_of t) (nexts_of t) n f))
      ∙ rw (first-at t n) refl

-- "all nodes hang under it", by the marks of the walk
pub hung-by-rows : (limit : ℕ) (settings : Settings) (t : List Node) → places_b limit t ≡ true → top_b limit settings (at t 0) ≡ true
    → marked_b limit (serials_of t) (hang_rows limit t limit (replicate limit 0)) ≡ hung_b limit (serials_of t) (firsts_of t) (nexts_of t)
unfolding hung_b
hung-by-rows limit settings t p h =
    let none : List ℕ = replicate limit 0 in
    let serial = serials_of t in
    let same = rows_same limit t ((places-says limit t).says p) ((top-says limit settings (at t 0)).says h).next limit none (omega arith) in
    sym (marked-topped limit serial (hang_rows limit t limit none))
    ∙ ap (marked_b limit serial) same
    ∙ marked-topped limit serial (mark_rows limit (firsts_of t) (nexts_of t) limit none)
