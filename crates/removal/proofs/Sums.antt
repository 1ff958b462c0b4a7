-- The sums after a removal: how many pieces there are, the area of the parts, and the numbers that come out. It rests on the row of the piece
-- that goes (Row), and on what `walks` says of the numbers along an order.
use mathlib.Core.Path.{◌≡◌, refl, sym, ap, ◌∙◌}
use mathlib.Core.List.{List, [], ◌∷◌, ◌++◌, append-nil}
use mathlib.Core.Bool.{Bool, true, false, cond, ◌&&◌, false≢true}
use mathlib.Core.Logic.{inl, inr}
use Prim.Native.Nat.{ℕ, ◌+◌, ◌≤◌}
use native.Mathlib.Omega.{arith}
use lib.ListN.{length, length-append}
use Rattle.piece.specs.declared.node.Datum.{Datum}
use Rattle.piece.specs.declared.node.Kind.{Kind}
use Rattle.piece.specs.declared.node.Kind.TheVariants.{Free, Part, Structure}
use Rattle.piece.specs.declared.settings.Settings.{Settings}
use Rattle.piece.specs.Row.{nil, grow}
use Rattle.piece.specs.Kinds.{is_free, is_part}
use Rattle.tree.specs.Tree.{Tree, Distinct, count, is_nil, after}
use Rattle.tree.specs.Sound.{Sound}
use Rattle.tree.specs.Figures as figures
use Rattle.tree.specs.Removal.{freed, board, last_free, without_last, settled, remove, cleared, removed_numbers, subtree}
use Rattle.tree.specs.Apart.{Removable}
use Rattle.tree.specs.Steps.{Kids, leaving}
use Rattle.tree.proofs.Kids.{put, put-here, put-left, put_right, kids-in}
use Rattle.tree.proofs.Spots.{free_end, FreeLeaves, end-alone}
use Rattle.table.specs.declared.Node.{Node}
use Rattle.table.specs.Table.{at, last, Holds}
use Rattle.table.specs.Steps.{free_last, free_last_place, going}
use Rattle.table.proofs.Rep.{shows, row_from}
use Rattle.walks.specs.Order.{children_first}
use Rattle.walks.specs.Along.{number_at, numbers_along}
use Rattle.walks.proofs.Meaning.{length-order}
use Rattle.walks.proofs.Entries.{gathered-append}
use Rattle.walks.proofs.Along.{Shown, rep-shown, sound-ends, length-numbers, parts-most, numbers-removed}
use Rattle.removal.specs.Going.{area_if_part, area_along}
use Rattle.removal.proofs.Row.{RowOf, whole, row_of}
use Rattle.removal.proofs.Goes.{leaving-is}

-- A sum over the pieces of a row, φ of each, and over the places of a list, as the table shows them.
module _ (t : List Node) (φ : Datum → ℕ) (F : Tree → ℕ) (G : List ℕ → ℕ) (F-nil : F nil ≡ 0)
    (F-grow : (p : ℕ) (d : Datum) (k r : Tree) → F (grow p d k r) ≡ φ d + (F k + F r)) (G-nil : G [] ≡ 0)
    (G-more : (p : ℕ) (ps : List ℕ) → G (p ∷ ps) ≡ φ (at t p).datum + G ps) where
  sum-append : (xs ys : List ℕ) → G (xs ++ ys) ≡ G xs + G ys
  sum-append [] ys = omega (arith, G-nil)
  sum-append (x ∷ xs) ys = omega (arith, G-more x xs, G-more x (xs ++ ys), sum-append xs ys)

  sum-after : (a b : Tree) → F (after a b) ≡ F a + F b
  sum-after nil b = omega (arith, F-nil)
  sum-after (grow p d k r) b = omega (arith, F-grow p d k r, F-grow p d k (after r b), sum-after r b)

  -- other children of q
  sum-put : (q : ℕ) (m k w : Tree) → Distinct w → Kids q m w → F (put q k w) + F m ≡ F w + F k
  sum-put q m k nil dis h = absurd h
  sum-put q m k (grow p d l r) dis (inl e) =
      rw (put-here q k p d l r e.0, e.1) (omega (arith, F-grow p d l r, F-grow p d k r))
  sum-put q m k (grow p d l r) dis (inr (inl h)) =
      rw (put-left q k p d l r dis (kids-in q m l h))
      (omega (arith, F-grow p d l r, F-grow p d (put q k l) r, sum-put q m k l dis.below h))
  sum-put q m k (grow p d l r) dis (inr (inr h)) =
      rw (put_right q k p d l r dis (kids-in q m r h))
      (omega (arith, F-grow p d l r, F-grow p d l (put q k r), sum-put q m k r dis.beside h))

  -- a row that goes
  sum-leaving : (limit : ℕ) (k : Tree) → Shown limit t k → G (leaving k) ≡ F k
  sum-leaving limit nil e = G-nil ∙ sym F-nil
  sum-leaving limit (grow p d k r) e =
      sum-append (leaving k) (p ∷ leaving r)
      ∙ omega (arith, G-more p (leaving r), ap φ e.0.1, F-grow p d k r, sum-leaving limit k e.1, sum-leaving limit r e.2)

  -- the free piece at the end of a row, and the rest of it
  sum-end : (limit : ℕ) (b : Tree) → Shown limit t b → FreeLeaves b → F (without_last b) + G (free_end b) ≡ F b
  sum-end limit nil e f = omega (arith, G-nil)
  sum-end limit (grow p d k r) e f = go (is_free d.kind && is_nil r) refl (sum-end limit r e.2 f.1)
    where
      go : (c : Bool) → (is_free d.kind && is_nil r) ≡ c → F (without_last r) + G (free_end r) ≡ F r
          → F (cond c nil (grow p d k (without_last r))) + G (cond c (p ∷ []) (free_end r)) ≡ F (grow p d k r)
      go true z ih =
          let a = end-alone p d k r f z in
          rw (a.0, a.1) (omega (arith, F-nil, G-nil, G-more p [], ap φ e.0.1, F-grow p d nil nil))
      go false z ih = omega (arith, F-grow p d k r, F-grow p d k (without_last r))

  module _ (limit : ℕ) (x : ℕ) (d : Datum) (w : Tree) (h : Holds limit t w) (o : RowOf t x d w) where
    abbrev row : Tree
    row = grow x d o.below o.behind

    row-shown : Shown limit t row
    row-shown =
        let u = shows limit t limit limit o.parent (whole t x d w o) w h.rep o.kids in
        rep-shown limit t o.parent (last limit o.before) row (row_from limit t o.parent limit o.before row u.rep)

    sum-going : G (going t x w) + F (without_last o.behind) ≡ F row
    sum-going =
        let own = grow x d o.below nil in
        rw o.goes
        (omega (
          arith,
          sum-append (leaving own) (free_end o.behind),
          sum-leaving limit own (row-shown.0, row-shown.1, tt),
          sum-end limit o.behind row-shown.2 o.leaves,
          F-grow x d o.below nil,
          F-grow x d o.below o.behind,
          F-nil,
        ))

    -- the row that is there in the end, with what went, is the row that was, with what came
    sum_row : (v : Tree) (c : ℕ) → F v ≡ F (without_last o.behind) + c
        → F (put o.parent (after o.before v) w) + G (going t x w) ≡ F w + c
    sum_row v c e =
        omega (
          arith,
          sum-going,
          sum-after o.before v,
          sum-after o.before row,
          sum-put o.parent (whole t x d w o) (after o.before v) w h.distinct o.kids,
        )

    pub sum-cleared : F (cleared x w) + G (going t x w) ≡ F w
    sum-cleared = rw o.left (omega (arith, sum_row (without_last o.behind) 0 (omega arith)))

    pub sum-removed : (n s : ℕ) → F (remove x n s w) + G (going t x w) ≡ F w + φ (freed s d (board d (last_free o.behind)))
    unfolding settled
    sum-removed n s =
        let e = freed s d (board d (last_free o.behind)) in
        rw (o.comes n s)
        (sum_row (settled n s d o.behind) (φ e)
        (sum-after (without_last o.behind) (grow n e nil nil) ∙ omega (arith, F-grow n e nil nil, F-nil)))

-- ---- The laws.

-- a piece that is free is no part
free-numberless : (c : Kind) (v : ℕ) → is_free c ≡ true → cond (is_part c) (v ∷ []) [] ≡ []
free-numberless Free v e = refl
free-numberless Part v e = absurd (false≢true e)
free-numberless Structure v e = absurd (false≢true e)

-- the free last piece has no number
end-numberless : (t : List Node) (q : ℕ) → numbers_along t (free_last_place t q) ≡ []
unfolding free_last_place
end-numberless t q = go (free_last t q) refl
  where
    go : (b : Bool) → free_last t q ≡ b → numbers_along t (cond b ((at t q).last ∷ []) []) ≡ []
    go true e = rw (free-numberless (at t (at t q).last).datum.kind (at t (at t q).last).datum.number e) refl
    go false e = refl

module _ (limit : ℕ) (settings : Settings) (t : List Node) (w : Tree) (sound : Sound limit settings w) (h : Holds limit t w)
    (x : ℕ) (z : Removable x w) where
  abbrev o : RowOf t x z.piece w
  o = row_of limit settings t w sound h x z

  pub left-count : count (cleared x w) + length (going t x w) ≡ count w
  left-count =
      sum-cleared t (λ e. 1) count length refl (λ p e k r. refl) refl (λ p ps. omega arith) limit x z.piece w h o

  pub removed-count : (n s : ℕ) → count (remove x n s w) + length (going t x w) ≡ count w + 1
  removed-count n s =
      sum-removed t (λ e. 1) count length refl (λ p e k r. refl) refl (λ p ps. omega arith) limit x z.piece w h o n s

  pub removed-area : (n s : ℕ) → figures.part_area (remove x n s w) + area_along t (going t x w) ≡ figures.part_area w
  removed-area n s =
      omega (
        arith,
        sum-removed t area_if_part figures.part_area (area_along t) refl (λ p e k r. refl) refl (λ p ps. refl) limit x z.piece w h o n s,
      )

  -- what goes is at most what there is
  pub going-most : length (going t x w) ≤ limit
  going-most = omega (arith, left-count, sound.room)

  -- the numbers that come out are those of the subtree
  pub removed-numbers : numbers_along t (going t x w) ≡ removed_numbers x w
  removed-numbers =
      gathered-append (number_at t) (leaving (subtree x w)) (free_last_place t (at t x).parent)
      ∙ rw (← leaving-is (subtree x w), end-numberless t (at t x).parent, append-nil (numbers_along t (children_first (subtree x w))))
      (numbers-removed limit t w h x (sound-ends limit settings w sound))

  pub removed-few : length (removed_numbers x w) ≤ limit
  removed-few =
      let u = subtree x w in
      omega (
        arith,
        length-numbers u,
        parts-most u,
        length-order u,
        ap length (leaving-is u),
        length-append (leaving u) (free_last_place t (at t x).parent),
        going-most,
      )
