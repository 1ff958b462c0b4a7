-- The routine over lent columns meets its contract. ListSteps has the argument: here stand the places of the routine in its words. Assumes nothing.
use mathlib.Core.Path.{◌≡◌}
use mathlib.Core.List.{List}
use Prim.Native.Nat.{ℕ, ◌-◌, ◌<◌}
use native.Mathlib.Omega.{arith}
use lib.ListN.{get_or}
use Rattle.piece.specs.declared.orientation.Orientation.{Orientation}
use Rattle.piece.specs.Sides.{other}
use Rattle.lists.specs.Lists.{limit}
use Rattle.saw.specs.declared.cut.Cut.{Cut}
use Rattle.saw.specs.Listed.{rest_of, own_listed, piles_listed, cuts_listed}
use Rattle.saw.proofs.ListSteps.{Room, Done, Call, Here, Off, Under, sides, inner, inner_piles}
use Rattle.saw.proofs.ListSteps.{none_left, none_here, last-asks, last-placed, last_done, cut-room, below-asks, rest-asks, rest-done}
use Rattle.saw.proofs.columns.+list_along.Goals as goal
use Rattle.saw.proofs.columns.+list_along.Goals.{then-left-eq0-via-then-left-eq0, then-left-eq0-via-else-left-eq0+then-c-ge-NONE}
use Rattle.saw.proofs.columns.+list_along.Goals.{After-rotate-across, After-put_cut, After-list_along-below}

-- a call, by what it asks
module _ (first next kind width height eaten : List ℕ) (way : Orientation) (c left place n : ℕ) (out : List ℕ) (t : ℕ) where
  abbrev call : (left ≡ t)
      × Room limit (cuts_listed limit first next kind width height eaten way left place c)
      (piles_listed limit first next kind width height eaten way left c) place n out
      → Call
  call asked =
      record {
        lent = record { limit = limit; first = first; next = next; kind = kind; width = width; height = height; eaten = eaten };
        way = way;
        left = left;
        place = place;
        c = c;
        n = n;
        out = out;
        t = t;
        asked = asked;
      }

-- the piece at c, by what is known of it
abbrev here : (s : Call) → (s.left ≡ 0 → ⊥) → s.c < s.lent.limit → {side : List ℕ} → side ≡ sides s
    → {own r : ℕ} → own ≡ own_listed s.lent.kind side s.c → r ≡ rest_of s.lent.limit s.lent.next side s.lent.eaten s.c → Here
here s some held divided {own = own} {r = r} owns rest =
    record { call = s; some = some; held = held; own = own; owns = rw divided at owns; r = r; rest = rw divided at rest }

-- what the call for the pieces below it asks and does, in the code's words and in those of ListSteps
module _ (s : Call) {across : Orientation} (turned : across ≡ other s.way) where
  abbrev listed : List Cut
  listed =
      cuts_listed s.lent.limit s.lent.first s.lent.next s.lent.kind s.lent.width s.lent.height s.lent.eaten across (s.left - 1) s.place (get_or s.lent.first s.c 0)

  abbrev piled : ℕ
  piled =
      piles_listed s.lent.limit s.lent.first s.lent.next s.lent.kind s.lent.width s.lent.height s.lent.eaten across (s.left - 1) (get_or s.lent.first s.c 0)

  below-words : (k : ℕ) (o : List ℕ) → (s.left - 1 < s.t) × Room s.lent.limit (inner s) (inner_piles s) s.place k o
      → (s.left - 1 < s.t) × Room s.lent.limit listed piled s.place k o
  below-words k o h = rw turned h

  below-done : (k : ℕ) (o after : List ℕ) (x p : ℕ) → Done listed piled s.place k o after x p → Done (inner s) (inner_piles s) s.place k o after x p
  below-done k o after x p h = rw (← turned) h

-- the places of the routine: the piece at c, the cut that takes it off, and the cuts below it
abbrev piece : (t : ℕ) → After-rotate-across t → Here
piece t c =
    let a = c.args in
    here (call a.first.now a.next.now a.kind.now a.width.now a.height.now a.eaten.now a.way a.c a.left a.place a.n a.out.now t (c.decreases, c.requires))
    c.if-left-eq0.false c.if-c-ge-NONE.false c.sides-side.ensures c.own_pile-own.ensures c.rest_of-rest.ensures

abbrev off : (t : ℕ) → After-put_cut t → Off
off t c =
    let a = c.args in
    let h = here (call a.first.now a.next.now a.kind.now a.width.now a.height.now a.eaten.now a.way a.c a.left a.place a.n a.out.now t (c.decreases, c.requires))
    c.if-left-eq0.false c.if-c-ge-NONE.false c.sides-side.ensures c.own_pile-own.ensures c.rest_of-rest.ensures in
    record { here = h; more = c.if-rest-ge-NONE.false; k = _; kinds = rw c.sides-side.ensures at c.kind_left.ensures; out = _; cut = rw c.sides-side.ensures at c.put_cut.ensures }

abbrev under : (t : ℕ) → After-list_along-below t → Under
under t c =
    let a = c.args in
    let h = here (call a.first.now a.next.now a.kind.now a.width.now a.height.now a.eaten.now a.way a.c a.left a.place a.n a.out.now t (c.decreases, c.requires))
    c.if-left-eq0.false c.if-c-ge-NONE.false c.sides-side.ensures c.own_pile-own.ensures c.rest_of-rest.ensures in
    let o : Off =
    record { here = h; more = c.if-rest-ge-NONE.false; k = _; kinds = rw c.sides-side.ensures at c.kind_left.ensures; out = _; cut = rw c.sides-side.ensures at c.put_cut.ensures } in
    let e = c.list_along-below.ensures in
    record {
      off = o;
      out = _;
      m = _;
      p = _;
      lower = below-done h.call c.rotate-across.ensures _ _ _ _ _ (e.written, (e.counted, e.piled));
    }

-- nothing is left, or there is no piece at c
pub returns-then-left-eq0 : goal.returns-then-left-eq0
returns-then-left-eq0 t c =
    let a = c.args in
    let s = call a.first.now a.next.now a.kind.now a.width.now a.height.now a.eaten.now a.way a.c a.left a.place a.n a.out.now t (c.decreases, c.requires) in
    elim c.then-left-eq0.branch [ then-left-eq0-via-then-left-eq0 w ↦ (let e = none_left s w.if-left-eq0.true in record { written = e.0; counted = e.1.0; piled = e.1.1 }) | then-left-eq0-via-else-left-eq0+then-c-ge-NONE w ↦ (let e = none_here s w.if-c-ge-NONE.true in record { written = e.0; counted = e.1.0; piled = e.1.1 }) ]

-- the piece, and what is left behind it: nothing
pub list_along-whole-requires : goal.list_along-whole-requires
list_along-whole-requires t c =
    let h = piece t (goal.at.list_along-whole-requires t c).After-rotate-across in
    below-words h.call c.rotate-across.ensures _ _ (last-asks h c.if-rest-ge-NONE.true)

pub overflow_add-result : goal.overflow_add-result
overflow_add-result t c =
    let e = c.list_along-whole.ensures in
    let p = piece t (goal.at.overflow_add-result t c).After-rotate-across in
    let h = last-placed p c.if-rest-ge-NONE.true (below-done p.call c.rotate-across.ensures _ _ _ _ _ (e.written, (e.counted, e.piled))) in
    omega arith

pub returns-then-rest-ge-NONE : goal.returns-then-rest-ge-NONE
returns-then-rest-ge-NONE t c =
    let e = c.list_along-whole.ensures in
    let p = piece t (goal.at.returns-then-rest-ge-NONE t c).After-rotate-across in
    let h = last_done p c.if-rest-ge-NONE.true (below-done p.call c.rotate-across.ensures _ _ _ _ _ (e.written, (e.counted, e.piled))) in
    record { written = h.0; counted = h.1.0; piled = h.1.1 }

-- the cut that takes it off
pub put_cut-requires : goal.put_cut-requires
put_cut-requires t c = cut-room (piece t (goal.at.put_cut-requires t c).After-rotate-across) c.if-rest-ge-NONE.false

-- the cuts below it
pub list_along-below-requires : goal.list_along-below-requires
list_along-below-requires t c =
    let o = off t (goal.at.list_along-below-requires t c).After-put_cut in
    below-words o.here.call c.rotate-across.ensures _ _ (below-asks o)

-- the cuts of the rest
pub overflow_add-below : goal.overflow_add-below
overflow_add-below t c = let r = rest-asks (under t (goal.at.overflow_add-below t c).After-list_along-below) in omega (arith, r.1)

pub list_along-requires : goal.list_along-requires
list_along-requires t c = rest-asks (under t (goal.at.list_along-requires t c).After-list_along-below)

pub returns : goal.returns
returns t c =
    let e = c.list_along.ensures in
    let h = rest-done (under t (goal.at.returns t c).After-list_along-below) (e.written, (e.counted, e.piled)) in
    record { written = h.0; counted = h.1.0; piled = h.1.1 }
