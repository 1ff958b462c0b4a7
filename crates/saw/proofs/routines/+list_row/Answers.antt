-- The routine of the list of cuts meets its contract. ListSteps has the argument: here stand the places of the routine in its words. Assumes nothing.
use mathlib.Core.Path.{◌≡◌}
use mathlib.Core.List.{List, []}
use Prim.Native.Nat.{ℕ, ◌-◌, ◌*◌, ◌<◌}
use native.Mathlib.Omega.{arith}
use lib.ListN.{get_or, get_or-map}
use lib.Seq.{sets}
use Rattle.piece.specs.declared.orientation.Orientation.{Orientation}
use Rattle.piece.specs.declared.orientation.Orientation.TheVariants.{Horizontal, Vertical}
use Rattle.piece.specs.Sides.{other}
use Rattle.piece.specs.Numbers.{kind_no}
use Rattle.lists.specs.Lists.{limit}
use Rattle.table.specs.declared.Node.{Node}
use Rattle.table.specs.Table.{zero_node, at}
use Rattle.table.specs.Columns.{firsts_of, nexts_of, kinds_of, first_of, kind_no_of}
use Rattle.walks.specs.Columns.{columns_of, eatens_of, width_of, height_of, eaten_of}
use Rattle.saw.specs.Saw.{side}
use Rattle.saw.specs.Listed.{sides_of, rest_of, left_along, own_listed, listed_in, piles_in, entry_bytes}
use Rattle.saw.proofs.ListSteps.{Room, Done, Call, Here, Off, Under, inner, inner_piles}
use Rattle.saw.proofs.ListSteps.{none_left, none_here, last-asks, last-placed, last_done, cut-room, below-asks, rest-asks, rest-done}
use Rattle.saw.proofs.routines.+list_row.Goals as goal
use Rattle.saw.proofs.routines.+list_row.Goals.{then-left-eq0-via-then-left-eq0, then-left-eq0-via-else-left-eq0+then-c-ge-NONE}
use Rattle.saw.proofs.routines.+list_row.Goals.{After-list_row-below}

-- the sides that a cut of this way divides, at a place
sides-at : (way : Orientation) (t : List Node) (p : ℕ) → get_or (sides_of way t) p 0 ≡ side way (at t p).datum.size
sides-at Horizontal t p = get_or-map height_of t p zero_node
sides-at Vertical t p = get_or-map width_of t p zero_node

-- a call, by what it asks
module _ (t : List Node) (way : Orientation) (c left place n : ℕ) (out : List ℕ) (m : ℕ) where
  abbrev call : (left ≡ m) × Room limit (listed_in limit (columns_of t) way left place c) (piles_in limit (columns_of t) way left c) place n out → Call
  call asked =
      record {
        lent =
            record {
              limit = limit;
              first = firsts_of t;
              next = nexts_of t;
              kind = kinds_of t;
              width = (columns_of t).width;
              height = (columns_of t).height;
              eaten = eatens_of t;
            };
        way = way;
        left = left;
        place = place;
        c = c;
        n = n;
        out = out;
        t = m;
        asked = asked;
      }

  module _ (asked : (left ≡ m) × Room limit (listed_in limit (columns_of t) way left place c) (piles_in limit (columns_of t) way left c) place n out)
      (some : left ≡ 0 → ⊥) (held : c < limit) {own r : ℕ} (owns : own ≡ own_listed (kinds_of t) (sides_of way t) c)
      (rest : r ≡ rest_of limit (nexts_of t) (sides_of way t) (eatens_of t) c)
      {across : Orientation} (turned : across ≡ other way) where
    -- the piece at c, by what is known of it
    abbrev here : Here
    here = record { call = call asked; some = some; held = held; own = own; owns = owns; r = r; rest = rest }

    -- what the call for the pieces below it asks and does, in the code's words and in those of ListSteps
    below-words : {l : ℕ} (k : ℕ) (o : List ℕ) → (left - 1 < l) × Room limit (inner (call asked)) (inner_piles (call asked)) place k o
        → (left - 1 < l) × Room limit (listed_in limit (columns_of t) across (left - 1) place (at t c).first)
        (piles_in limit (columns_of t) across (left - 1) (at t c).first) place k o
    below-words k o h = rw (turned, ← get_or-map first_of t c zero_node) h

    below-done : (k : ℕ) (o after : List ℕ) (x p : ℕ)
        → Done (listed_in limit (columns_of t) across (left - 1) place (at t c).first) (piles_in limit (columns_of t) across (left - 1) (at t c).first) place k o after x p
        → Done (inner (call asked)) (inner_piles (call asked)) place k o after x p
    below-done k o after x p h = rw (← turned, get_or-map first_of t c zero_node) h

    -- the cut that takes it off is written, where k is the kind of what is left
    module _ (more : r < limit) {k distance piece : ℕ} {o : List ℕ}
        (kinds : k ≡ left_along limit (nexts_of t) (kinds_of t) (sides_of way t) (eatens_of t) r)
        (distances : distance ≡ side way (at t c).datum.size) (pieces : piece ≡ kind_no (at t c).datum.kind)
        (cut : o ≡ sets out (10 * n) (entry_bytes (record { place = place; way = way; distance = distance; piece = piece; remainder = k; eaten = (at t c).datum.eaten }) [])) where
      abbrev off : Off
      off =
          record {
            here = here;
            more = more;
            k = k;
            kinds = kinds;
            out = o;
            cut = rw (sides-at way t c, get_or-map kind_no_of t c zero_node, get_or-map eaten_of t c zero_node, ← distances, ← pieces) cut;
          }

pub returns-then-left-eq0 : goal.returns-then-left-eq0
returns-then-left-eq0 t c =
    let a = c.args in
    let s = call a.nodes.now a.way a.c a.left a.place a.n a.out.now t (c.decreases, c.requires) in
    elim c.then-left-eq0.branch [ then-left-eq0-via-then-left-eq0 w ↦ (let e = none_left s w.if-left-eq0.true in record { written = e.0; counted = e.1.0; piled = e.1.1 }) | then-left-eq0-via-else-left-eq0+then-c-ge-NONE w ↦ (let e = none_here s w.if-c-ge-NONE.true in record { written = e.0; counted = e.1.0; piled = e.1.1 }) ]

-- the piece, and what is left behind it: nothing
pub list_row-whole-requires : goal.list_row-whole-requires
list_row-whole-requires t c =
    let a = c.args in
    below-words a.nodes.now a.way a.c a.left a.place a.n a.out.now t (c.decreases, c.requires) c.if-left-eq0.false c.if-c-ge-NONE.false c.own_pile-own.ensures c.rest_of-rest.ensures c.rotate-across.ensures _ _
    (last-asks (here a.nodes.now a.way a.c a.left a.place a.n a.out.now t (c.decreases, c.requires) c.if-left-eq0.false c.if-c-ge-NONE.false c.own_pile-own.ensures c.rest_of-rest.ensures c.rotate-across.ensures) c.if-rest-ge-NONE.true)

pub overflow_add-result : goal.overflow_add-result
overflow_add-result t c =
    let a = c.args in
    let e = c.list_row-whole.ensures in
    let h = last-placed (here a.nodes.now a.way a.c a.left a.place a.n a.out.now t (c.decreases, c.requires) c.if-left-eq0.false c.if-c-ge-NONE.false c.own_pile-own.ensures c.rest_of-rest.ensures c.rotate-across.ensures) c.if-rest-ge-NONE.true
    (below-done a.nodes.now a.way a.c a.left a.place a.n a.out.now t (c.decreases, c.requires) c.if-left-eq0.false c.if-c-ge-NONE.false c.own_pile-own.ensures c.rest_of-rest.ensures c.rotate-across.ensures _ _ _ _ _ (e.written, (e.counted, e.piled))) in
    omega arith

pub returns-then-rest-ge-NONE : goal.returns-then-rest-ge-NONE
returns-then-rest-ge-NONE t c =
    let a = c.args in
    let e = c.list_row-whole.ensures in
    let h = last_done (here a.nodes.now a.way a.c a.left a.place a.n a.out.now t (c.decreases, c.requires) c.if-left-eq0.false c.if-c-ge-NONE.false c.own_pile-own.ensures c.rest_of-rest.ensures c.rotate-across.ensures) c.if-rest-ge-NONE.true
    (below-done a.nodes.now a.way a.c a.left a.place a.n a.out.now t (c.decreases, c.requires) c.if-left-eq0.false c.if-c-ge-NONE.false c.own_pile-own.ensures c.rest_of-rest.ensures c.rotate-across.ensures _ _ _ _ _ (e.written, (e.counted, e.piled))) in
    record { written = h.0; counted = h.1.0; piled = h.1.1 }

-- the cut that takes it off
pub put_cut-requires : goal.put_cut-requires
put_cut-requires t c =
    let a = c.args in
    cut-room (here a.nodes.now a.way a.c a.left a.place a.n a.out.now t (c.decreases, c.requires) c.if-left-eq0.false c.if-c-ge-NONE.false c.own_pile-own.ensures c.rest_of-rest.ensures c.rotate-across.ensures) c.if-rest-ge-NONE.false

-- the cuts below it
pub list_row-below-requires : goal.list_row-below-requires
list_row-below-requires t c =
    let a = c.args in
    below-words a.nodes.now a.way a.c a.left a.place a.n a.out.now t (c.decreases, c.requires) c.if-left-eq0.false c.if-c-ge-NONE.false c.own_pile-own.ensures c.rest_of-rest.ensures c.rotate-across.ensures _ _
    (below-asks (off a.nodes.now a.way a.c a.left a.place a.n a.out.now t (c.decreases, c.requires) c.if-left-eq0.false c.if-c-ge-NONE.false c.own_pile-own.ensures c.rest_of-rest.ensures c.rotate-across.ensures c.if-rest-ge-NONE.false c.kind_left.ensures c.side.ensures c.number.ensures c.put_cut.ensures))

-- the cuts of the rest
abbrev under : (t : ℕ) → goal.After-list_row-below t → Under
under t c =
    let a = c.args in
    let e = c.list_row-below.ensures in
    record {
      off = off a.nodes.now a.way a.c a.left a.place a.n a.out.now t (c.decreases, c.requires) c.if-left-eq0.false c.if-c-ge-NONE.false c.own_pile-own.ensures c.rest_of-rest.ensures c.rotate-across.ensures c.if-rest-ge-NONE.false c.kind_left.ensures c.side.ensures c.number.ensures c.put_cut.ensures;
      out = _;
      m = _;
      p = _;
      lower = below-done a.nodes.now a.way a.c a.left a.place a.n a.out.now t (c.decreases, c.requires) c.if-left-eq0.false c.if-c-ge-NONE.false c.own_pile-own.ensures c.rest_of-rest.ensures c.rotate-across.ensures _ _ _ _ _ (e.written, (e.counted, e.piled));
    }

pub overflow_add-below : goal.overflow_add-below
overflow_add-below t c = let r = rest-asks (under t (goal.at.overflow_add-below t c).After-list_row-below) in omega (arith, r.1)

pub list_row-requires : goal.list_row-requires
list_row-requires t c = rest-asks (under t (goal.at.list_row-requires t c).After-list_row-below)

pub returns : goal.returns
returns t c =
    let e = c.list_row.ensures in
    let h = rest-done (under t (goal.at.returns t c).After-list_row-below) (e.written, (e.counted, e.piled)) in
    record { written = h.0; counted = h.1.0; piled = h.1.1 }
