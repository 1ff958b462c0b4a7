-- "live serials differ": the serials of the held places differ exactly when those of the pieces of the tree do.
use mathlib.Core.Path.{◌≡◌, sym, ap, ◌∙◌}
use mathlib.Core.List.{List}
use mathlib.Core.Logic.{inl, inr, ⊎_elim}
use Prim.Native.Nat.{ℕ, ◌<◌}
use native.Mathlib.Omega.{arith}
use lib.ListN.{get_or}
use Rattle.piece.specs.declared.node.Datum.{Datum}
use Rattle.piece.specs.Row.{nil, grow}
use Rattle.tree.specs.Tree.{Tree, In, At}
use Rattle.tree.proofs.Rows.{in?, at_in}
use Rattle.table.specs.declared.Node.{Node}
use Rattle.table.specs.Table.{at, Rep, Holds}
use Rattle.table.proofs.Rep.{bound}
use Rattle.table.proofs.Links.{datum-is}
use Rattle.sound.specs.Columns.{serials_of}
use Rattle.sound.proofs.Worth.{serial-at}

-- no two places have the same serial, but 0
abbrev pub PlacesDiffer : ℕ → List Node → Type 0
PlacesDiffer limit t =
    (i j : ℕ) → i < limit → j < limit → get_or (serials_of t) i 0 ≡ get_or (serials_of t) j 0 → (get_or (serials_of t) i 0 ≡ 0 → ⊥) → i ≡ j

-- no two pieces have the same serial
abbrev pub PiecesDiffer : Tree → Type 0
PiecesDiffer w = (i j : ℕ) (d e : Datum) → At i d w → At j e w → d.serial ≡ e.serial → i ≡ j

module _ (limit : ℕ) (t : List Node) where
  -- what stands at a place of the tree is what the table shows there
  pub shown-at : (q pv i : ℕ) (w : Tree) → Rep limit t q pv w → In i w → At i (at t i).datum w
  shown-at q pv i nil rep h = h
  shown-at q pv i (grow p d k r) rep (inl e) = inl (e, ap (λ (x : ℕ). (at t x).datum) e ∙ ap (λ (x : Node). x.datum) rep.1)
  shown-at q pv i (grow p d k r) rep (inr (inl h)) = inr (inl (shown-at p limit i k rep.2 h))
  shown-at q pv i (grow p d k r) rep (inr (inr h)) = inr (inr (shown-at q p i r rep.3 h))

  module _ (w : Tree) (h : Holds limit t w) where
    low : (i : ℕ) (e : Datum) → At i e w → i < limit
    low i e y = bound limit t limit limit i w h.rep (at_in i e w y)

    serial-is : (i : ℕ) (e : Datum) → At i e w → get_or (serials_of t) i 0 ≡ e.serial
    serial-is i e y = serial-at t i ∙ ap (λ (d : Datum). d.serial) (datum-is limit t limit limit i e w h.rep y)

    pub pieces-differ : ((i : ℕ) (e : Datum) → At i e w → 0 < e.serial) → PlacesDiffer limit t → PiecesDiffer w
    pieces-differ s apart i j d e y z same =
        let a = serial-is i d y in
        let b = serial-is j e z in
        let l = s i d y in
        apart i j (low i d y) (low j e z) (omega arith) (λ n. omega arith)

    -- a place whose serial is not 0 is a piece of the tree
    live : (i : ℕ) → i < limit → (get_or (serials_of t) i 0 ≡ 0 → ⊥) → At i (at t i).datum w
    live i b n =
        ⊎_elim (shown-at limit limit i w h.rep)
        (λ m. absurd (n (serial-at t i ∙ ap (λ (x : Node). x.datum.serial) (h.rest i b m)))) (in? i w)

    pub places-differ : PiecesDiffer w → PlacesDiffer limit t
    places-differ apart i j bi bj same n =
        apart i j (at t i).datum (at t j).datum (live i bi n) (live j bj (λ e. n (same ∙ e))) (sym (serial-at t i) ∙ same ∙ serial-at t j)
