-- What the tests of the rows say: the siblings of a row are children of their parent one after the other, and fill its side.
use mathlib.Core.Path.{◌≡◌, refl, ap}
use mathlib.Core.List.{List}
use Prim.Native.Nat.{ℕ, zero, suc, ◌+◌, ◌<◌, ◌≤◌}
use native.Mathlib.Omega.{arith}
use native.Mathlib.Decide.{ℕ_discrete}
use Rattle.piece.specs.declared.orientation.Orientation.{Orientation}
use Rattle.piece.specs.declared.orientation.Orientation.TheVariants.{Horizontal, Vertical}
use Rattle.piece.specs.declared.node.Datum.{Datum}
use Rattle.piece.specs.declared.node.Kind.TheVariants.{Structure}
use Rattle.piece.specs.declared.settings.Settings.{Settings}
use Rattle.piece.specs.Sides.{other, laid}
use Rattle.tree.specs.Sound.{reach, Child}
use Rattle.tree.proofs.Pieces.{child}
use Rattle.table.specs.declared.Node.{Node}
use Rattle.table.specs.Table.{at}
use Rattle.sound.specs.Rows.{same_cut, hung_under_b, child_datum_b, eaten_b, child_b, step, room, end_b, chain_b, row_b, rows_b}
use Rattle.sound.proofs.Says.{Says, clash, worded, eq-says, le-says, some-says, true-says, false-says, and-says, guard-says, if-says, every-says}
use Rattle.sound.proofs.PlacesSay.{structure-says}

cut-says : (a b : Orientation) → Says (same_cut a b) (a ≡ b)
cut-says Horizontal Horizontal = true-says refl
cut-says Horizontal Vertical = worded false-says absurd (λ e. clash (cc))
cut-says Vertical Horizontal = worded false-says absurd (λ e. clash (cc))
cut-says Vertical Vertical = true-says refl

-- nothing is eaten behind a last child, and no more than the blade's width behind another
eaten-says : (limit : ℕ) (settings : Settings) (n : Node)
    → Says (eaten_b limit settings n) ((n.next ≡ limit → n.datum.eaten ≡ 0) × (n.datum.eaten ≤ settings.blade))
unfolding eaten_b
eaten-says limit settings n =
    worded
    (if-says (eq-says n.next limit) (eq-says n.datum.eaten 0) (le-says n.datum.eaten settings.blade))
    (λ h. (h.0, within h (ℕ_discrete n.next limit)))
    (λ h. (h.0, λ m. h.1))
  where
    within : (n.next ≡ limit → n.datum.eaten ≡ 0) × ((n.next ≡ limit → ⊥) → n.datum.eaten ≤ settings.blade) → Dec (n.next ≡ limit)
        → n.datum.eaten ≤ settings.blade
    within h (yes e) = omega (arith, h.0 e)
    within h (no m) = h.1 m

-- n is a child of q, which is `up`, after the sibling pv
pub record ChildNode (limit : ℕ) (settings : Settings) (up : Node) (q pv : ℕ) (n : Node) : Type 0 where
  pub held : 0 < n.datum.serial
  pub parent : n.parent ≡ q
  pub prev : n.prev ≡ pv
  pub piece : Child settings up.datum n.datum
  pub last : n.next ≡ limit → n.datum.eaten ≡ 0

child-says : (limit : ℕ) (settings : Settings) (up : Node) (q pv : ℕ) (n : Node)
    → Says (child_b limit settings up q pv n) (ChildNode limit settings up q pv n)
unfolding child_b hung_under_b child_datum_b
child-says limit settings up q pv n =
    let c = n.datum.cut in
    let hung = and-says (some-says n.datum.serial) (and-says (eq-says n.parent q) (eq-says n.prev pv)) in
    let piece =
    and-says (eq-says n.datum.level (up.datum.level + 1)) (and-says (le-says n.datum.level settings.stages)
    (and-says (cut-says c (other up.datum.cut)) (eq-says (laid c n.datum.size).height (laid c up.datum.size).height)))
    in
    worded (and-says hung (and-says piece (eaten-says limit settings n)))
    (λ h.
    record {
      held = h.0.0;
      parent = h.0.1.0;
      prev = h.0.1.1;
      piece = child h.1.0.0 h.1.0.1.0 h.1.0.1.1.0 h.1.0.1.1.1 h.1.1.1;
      last = h.1.1.0;
    })
    (λ h. (
      (h.held, (h.parent, h.prev)),
      ((h.piece.level, (h.piece.stage, (h.piece.cut, h.piece.side))), (h.last, h.piece.eaten)),
    ))

-- what a child takes of its parent's side
pub step_is : (settings : Settings) (n : Node) (q d : Datum) → n.datum ≡ d → Child settings q d → step n ≡ reach (other q.cut) d
step_is settings n q d e h = rw e (ap (λ (c : Orientation). reach c d) h.cut)

-- a row ends at p, after pv, where `sum` is taken
pub record End (limit : ℕ) (up : Node) (pv p sum : ℕ) : Type 0 where
  pub none : p ≡ limit
  pub last : up.last ≡ pv
  pub full : sum ≡ room up

end-says : (limit : ℕ) (up : Node) (pv p sum : ℕ) → Says (end_b limit up pv p sum) (End limit up pv p sum)
unfolding end_b
end-says limit up pv p sum =
    worded (and-says (eq-says p limit) (and-says (eq-says up.last pv) (eq-says sum (room up))))
    (λ h. record { none = h.0; last = h.1.0; full = h.1.1 })
    (λ h. (h.none, (h.last, h.full)))

-- the siblings from p on, fewer than so many, are children of q after pv, and end as they should, where `sum` is taken before them
abbrev pub Siblings : ℕ → Settings → List Node → ℕ → ℕ → ℕ → ℕ → ℕ → Type 0
Siblings limit settings t q zero pv p sum = ⊥
Siblings limit settings t q (suc m) pv p sum =
    (limit ≤ p → End limit (at t q) pv p sum)
    × (p < limit
    → ChildNode limit settings (at t q) q pv (at t p) × Siblings limit settings t q m p (at t p).next (sum + step (at t p)))

module _ (limit : ℕ) (settings : Settings) (t : List Node) where
  chain-says : (q m pv p sum : ℕ) → Says (chain_b limit settings t q m pv p sum) (Siblings limit settings t q m pv p sum)
  unfolding chain_b
  chain-says q zero pv p sum = false-says
  chain-says q (suc m) pv p sum =
      worded
      (if-says (le-says limit p) (end-says limit (at t q) pv p sum)
      (guard-says (child-says limit settings (at t q) q pv (at t p)) (chain-says q m p (at t p).next (sum + step (at t p)))))
      (λ h. (h.0, λ l. h.1 (λ n. omega arith)))
      (λ h. (h.0, λ n. h.1 (omega arith)))

  -- the row of a held structure
  abbrev pub RowOf : ℕ → Type 0
  RowOf q = 0 < (at t q).datum.serial → (at t q).datum.kind ≡ Structure → Siblings limit settings t q limit limit (at t q).first 0

  row-says : (q : ℕ) → Says (row_b limit settings t q) (RowOf q)
  row-says q =
      worded
      (if-says (and-says (some-says (at t q).datum.serial) (structure-says (at t q).datum.kind))
      (chain-says q limit limit (at t q).first 0) (true-says (tt {0})))
      (λ h a b. h.0 (a, b))
      (λ h. ((λ a. h a.0 a.1), λ n. tt))

  pub rows-says : Says (rows_b limit settings t) ((q : ℕ) → q < limit → RowOf q)
  unfolding rows_b
  rows-says = every-says row-says limit
