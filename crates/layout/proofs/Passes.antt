-- `sound_b`, clause by clause, is what the passes of `sound` and the tests behind them say together; and the passes say what those tests rest on.
use mathlib.Core.Path.{◌≡◌, refl, sym, ap, ◌∙◌}
use mathlib.Core.List.{List}
use mathlib.Core.Bool.{Bool, true, false, ◌&&◌}
use mathlib.Core.Logic.{◌⊎◌, inl, inr}
use Prim.Native.Nat.{ℕ}
use native.Mathlib.Omega.{arith}
use lib.Dec.{eqb, leb}
use lib.ListN.{get_or}
use borrow.Author.Tests.{leb-true}
use Rattle.std.specs.Prelude.{Some}
use Rattle.lists.specs.Lists.{zeros}
use Rattle.lists.specs.Search.{differ, zero_tail}
use Rattle.lists.specs.Flags.{ok_b, flags_of, flagged}
use Rattle.lists.specs.Inner.{Low}
use Rattle.lists.proofs.Named.{accepted-says}
use Rattle.lists.proofs.Scan.{and_left, and_right, and-false, every-at, test}
use Rattle.table.specs.Table.{at}
use Rattle.sound.specs.Columns.{areas_of, serials_of, firsts_of, nexts_of, kinds_of}
use Rattle.sound.specs.Places.{places_b, top_b}
use Rattle.sound.specs.Rows.{rows_b}
use Rattle.sound.specs.Hung.{hang_rows, marked_b, hung_b}
use Rattle.sound.specs.Listed.{area_listed, covers_b, held_in, none_above_b, sorted_b}
use Rattle.sound.specs.Census.{census_b}
use Rattle.sound.proofs.Says.{Says, clash, and-says}
use Rattle.sound.proofs.ByRows.{hung-by-rows}
use Rattle.layout.specs.declared.layout.Layout.{Layout}
use Rattle.sound.specs.Columns.{checked_columns}
use Rattle.layout.specs.Check.{limit, max_serial, domain_b, table_b, covered_b, serials_b, sums_b, free_b, removable_b, columns_b, sound_b}

-- two tests that say the same are equal
same_tests : {a b : Bool} {P Q : Type 0} → Says a P → Says b Q → (P → Q) → (Q → P) → a ≡ b
same_tests {a} {b} s r f g = go (test a) (test b)
  where
    go : (a ≡ true) ⊎ (a ≡ false) → (b ≡ true) ⊎ (b ≡ false) → a ≡ b
    go (inl x) y = x ∙ sym (r.passes (f (s.says x)))
    go (inr x) (inl y) = absurd (clash (sym x ∙ s.passes (g (r.says y))))
    go (inr x) (inr y) = x ∙ sym y

it : (b : Bool) → Says b (b ≡ true)
it b = record { says = λ e. e; passes = λ e. e }

-- the order of the clauses, and that of the passes; what hangs is marked by the walk of the rows
module _ (dom places top rows hung held used last above apart ok cover tail sorted ok' cover' tail' marked : Bool)
    (by_rows : places ≡ true → top ≡ true → rows ≡ true → marked ≡ hung) where
  regroup : (dom && ((places && (top && rows)) && (hung && ((held && used) && ((last && (above && apart))
      && (((ok && (cover && tail)) && sorted) && (ok' && (cover' && tail'))))))))
      ≡ (((((ok && ok') && rows) && ((places && (above && (marked && (cover && cover')))) && (held && used)))
      && (dom && (top && last))) && (apart && (sorted && (tail && tail'))))
  regroup =
      same_tests
      (and-says (it dom)
      (and-says (and-says (it places) (and-says (it top) (it rows)))
      (and-says (it hung)
      (and-says (and-says (it held) (it used))
      (and-says (and-says (it last) (and-says (it above) (it apart)))
      (and-says (and-says (and-says (it ok) (and-says (it cover) (it tail))) (it sorted))
      (and-says (it ok') (and-says (it cover') (it tail')))))))))
      (and-says
      (and-says
      (and-says (and-says (and-says (it ok) (it ok')) (it rows))
      (and-says (and-says (it places) (and-says (it above) (and-says (it marked) (and-says (it cover) (it cover')))))
      (and-says (it held) (it used))))
      (and-says (it dom) (and-says (it top) (it last))))
      (and-says (it apart) (and-says (it sorted) (and-says (it tail) (it tail')))))
      (λ x.
      let p = x.1.0.0 in
      let t = x.1.0.1.0 in
      let r = x.1.0.1.1 in
      let c = x.1.1 in
      let s = c.1.1.0 in
      let f = c.1.1.1.0 in
      let g = c.1.1.1.1 in
      let m = by_rows p t r ∙ c.0 in (
        (
          (((f.0.0, g.0), r), ((p, (s.1.0, (m, (f.0.1.0, g.1.0)))), c.1.0)),
          (x.0, (t, s.0)),
        ),
        (s.1.1, (f.1, (f.0.1.1, g.1.1))),
      ))
      (λ x.
      let d = x.0.1 in
      let n = x.0.0.1 in
      let o = x.0.0.0 in
      let p = n.0.0 in
      let a = n.0.1 in
      let y = x.1.1 in
      let z = y.1 in
      let h = sym (by_rows p d.1.0 o.1) ∙ a.1.0 in (
        d.0,
        (
          (p, (d.1.0, o.1)),
          (
            h,
            (
              n.1,
              (
                (d.1.1, (a.0, x.1.0)),
                (((o.0.0, (a.1.1.0, z.0)), y.0), (o.0.1, (a.1.1.1, z.1))),
              ),
            ),
          ),
        ),
      ))

-- the tests behind the passes
abbrev pub rest_b : Layout → List ℕ → List ℕ → Bool
rest_b l serial area =
    differ limit serial
    && (sorted_b area serial l.free l.frees && (zero_tail limit l.free l.frees && zero_tail limit l.removable l.removables))

-- a list that is not as it should be
pub free-refused : (l : Layout) → ok_b limit l.free l.frees ≡ false → sound_b l ≡ false
unfolding sound_b columns_b free_b covered_b
free-refused l e =
    let c = checked_columns l.nodes in
    and-false (domain_b l.settings) _
    (and-false (table_b l) _
    (and-false (hung_b limit c.serial c.first c.next) _
    (and-false (sums_b l c) _
    (and-false (serials_b c.serial l.serial) _ (rw e refl)))))

pub removable-refused : (l : Layout) → ok_b limit l.removable l.removables ≡ false → sound_b l ≡ false
unfolding sound_b columns_b removable_b covered_b
removable-refused l e =
    let c = checked_columns l.nodes in
    and-false (domain_b l.settings) _
    (and-false (table_b l) _
    (and-false (hung_b limit c.serial c.first c.next) _
    (and-false (sums_b l c) _
    (and-false (serials_b c.serial l.serial) _
    (and-false (free_b l c) _ (rw e refl))))))

-- what the passes find of a layout, and what that makes of the tests behind them
pub sound-is : (l : Layout) {named kept hung serial area : List ℕ} {linked counted framed : Bool}
    → Some named ≡ flagged l.free l.frees
    → Some kept ≡ flagged l.removable l.removables
    → linked ≡ rows_b limit l.settings l.nodes
    → (linked ≡ true → hung ≡ hang_rows limit l.nodes limit (zeros limit))
    → counted ≡ census_b limit l.nodes l.serial l.used l.held named kept hung
    → serial ≡ serials_of l.nodes
    → area ≡ areas_of l.nodes
    → framed ≡ (domain_b l.settings && (top_b limit l.settings (at l.nodes 0) && leb l.serial max_serial))
    → sound_b l ≡ (((linked && counted) && framed) && rest_b l serial area)
unfolding sound_b table_b covered_b serials_b sums_b free_b removable_b columns_b census_b
sound-is l {hung = hung} named kept rows hanging places serials areas frame =
    let t = l.nodes in
    let s = serials_of t in
    let k = kinds_of t in
    let n = accepted-says l.free l.frees named in
    let m = accepted-says l.removable l.removables kept in
    rw (frame, places, rows, n.1, m.1, areas, serials)
    (regroup (domain_b l.settings) (places_b limit t) (top_b limit l.settings (at t 0)) _
    (hung_b limit s (firsts_of t) (nexts_of t)) (eqb (held_in s limit) l.held) (eqb (area_listed 1 k (areas_of t) limit) l.used)
    (leb l.serial max_serial) (none_above_b limit s l.serial) (differ limit s) (ok_b limit l.free l.frees)
    (covers_b limit true s k (flags_of limit l.free l.frees)) (zero_tail limit l.free l.frees)
    (sorted_b (areas_of t) s l.free l.frees) (ok_b limit l.removable l.removables)
    (covers_b limit false s k (flags_of limit l.removable l.removables)) (zero_tail limit l.removable l.removables)
    (marked_b limit s hung)
    (λ x y z. ap (marked_b limit s) (hanging (rows ∙ z)) ∙ hung-by-rows limit l.settings t x y)
    ∙ rw (n.0, m.0) refl)

-- where the census and the frame are as they should be, the serials are low enough to be told apart
pub serials-low : (l : Layout) (free removable hung : List ℕ) {serial : List ℕ} {counted framed : Bool}
    → counted ≡ census_b limit l.nodes l.serial l.used l.held free removable hung
    → serial ≡ serials_of l.nodes
    → framed ≡ (domain_b l.settings && (top_b limit l.settings (at l.nodes 0) && leb l.serial max_serial))
    → counted ≡ true
    → framed ≡ true
    → Low serial
unfolding census_b none_above_b
serials-low l free removable hung counted serials framed c f i h =
    let t = l.nodes in
    let s = serials_of t in
    let k = kinds_of t in
    let most = leb-true l.serial max_serial
    (and_right (top_b limit l.settings (at t 0)) (leb l.serial max_serial)
    (and_right (domain_b l.settings) (top_b limit l.settings (at t 0) && leb l.serial max_serial) (sym framed ∙ f))) in
    let flags = marked_b limit s hung && (covers_b limit true s k free && covers_b limit false s k removable) in
    let sums = eqb (held_in s limit) l.held && eqb (area_listed 1 k (areas_of t) limit) l.used in
    let above =
    and_left (none_above_b limit s l.serial) flags
    (and_right (places_b limit t) (none_above_b limit s l.serial && flags)
    (and_left (places_b limit t && (none_above_b limit s l.serial && flags)) sums (sym counted ∙ c))) in
    let one = leb-true (get_or s i 0) l.serial (every-at (λ (j : ℕ). leb (get_or s j 0) l.serial) limit i above h) in
    rw serials (omega arith)
