-- A removal of the piece at x, on the nodes and the lists, step by step: what the code computes, where g is what goes. proofs/Stands.antt says that
-- it is document 01's removal.
use Rattle.std.specs.Prelude.{cond, List, ℕ, ◌+◌, leb}
use Rattle.std.proofs.Math.Option.{Option, none, some}
use Rattle.piece.specs.declared.node.Datum.{Datum}
use Rattle.piece.specs.Kinds.{is_free}
use Rattle.tree.specs.Removal.{freed, board}
use Rattle.tree.specs.ListSteps.{omit_all, push, put, strike, strike_all}
use Rattle.table.specs.declared.Node.{Node}
use Rattle.table.specs.Table.{at, append}
use Rattle.table.specs.Steps.{free_last_datum, unlink_all}
use Rattle.table.specs.Unheld.{lowest_from}
use Rattle.lists.specs.Lists.{limit}
use Rattle.layout_nodes.specs.declared.LayoutNodes.{LayoutNodes}
use Rattle.layout_nodes.specs.Listings.{area_in, entries_of, listing}
use Rattle.removal.specs.declared.remove.Cleared.{Cleared}

-- the last piece of a row, if that is free
abbrev pub if_free : Datum → Option Datum
if_free e = cond (is_free e.kind) (some e) none

-- the free piece that comes: the board of x, with the free piece at the end of its row
unfoldable pub new_free : List Node → (x last : ℕ) → Datum
new_free t x last = freed (last + 1) (at t x).datum (board (at t x).datum (free_last_datum t (at t x).parent))

-- the removable list when a parent, which stands at q, has lost its last child, and has a child again
unfoldable pub returned : Node → ℕ → List ℕ → List ℕ
returned parent q ys = cond (leb limit parent.first) (push (strike ys q) q) ys

-- left is the table when all that goes is unlinked
unfoldable pub removed_from : LayoutNodes → (left : List Node) → List ℕ → (x last : ℕ) → Cleared
removed_from n left g x last =
    let q = (at n.nodes x).parent in
    let p = lowest_from limit left 0 in
    let t = append limit left q p (new_free n.nodes x last) in
    record {
      nodes = record {
        nodes = t;
        free = listing (put (area_in t) (omit_all (entries_of n.free) g) p);
        removable = listing (returned (at left q) q (strike_all (entries_of n.removable) g));
      };
      place = p;
    }

unfoldable pub removed_nodes : LayoutNodes → List ℕ → (x last : ℕ) → Cleared
removed_nodes n g x last = removed_from n (unlink_all limit n.nodes g) g x last
