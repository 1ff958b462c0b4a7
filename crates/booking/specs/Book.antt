-- A booking in the free piece at x, on the nodes and the lists, step by step: what the code computes. proofs/Stands.antt says that it is document
-- 01's booking.
use Rattle.std.specs.Prelude.{Bool, cond, List, [], ◌∷◌, ◌++◌, ℕ, zero, suc, ◌+◌, leb, replicate}
use Rattle.piece.specs.declared.size.Size.{Size}
use Rattle.piece.specs.declared.insertion_blueprint.InsertionShape.{InsertionShape}
use Rattle.piece.specs.Insertion.{block_of, nodes_in_order, outside}
use Rattle.tree.specs.ListSteps.{omit, put_all, strike}
use Rattle.table.specs.declared.Node.{Node}
use Rattle.table.specs.Table.{at, unlink}
use Rattle.table.specs.Unheld.{lowest_from}
use Rattle.lists.specs.Lists.{limit}
use Rattle.layout_nodes.specs.declared.LayoutNodes.{LayoutNodes}
use Rattle.layout_nodes.specs.Listings.{area_in, entries_of, listing}
use Rattle.booking.specs.declared.new_nodes.NewNodes.{NewNodes}
use Rattle.booking.specs.declared.new_nodes.Site.{Site}
use Rattle.booking.specs.declared.book.Booked.{Booked}
use Rattle.booking.specs.NewNodes.{add_all, append_each, enrolments, frees_of, no_new, those}

-- the places that new nodes get one after the other
abbrev pub lowest_of : List Node → ℕ → ℕ
lowest_of t zero = lowest_from limit t 0
lowest_of t (suc i) = lowest_from limit t (lowest_of t i + 1)

unfoldable pub new_places : List Node → List ℕ
new_places t = lowest_of t 0 ∷ lowest_of t 1 ∷ lowest_of t 2 ∷ lowest_of t 3 ∷ lowest_of t 4 ∷ []

-- no child hangs under the node
abbrev pub node_bare : Node → Bool
node_bare n = leb limit n.first

-- no child hangs under q
abbrev pub no_child : List Node → ℕ → Bool
no_child t q = node_bare (at t q)

-- the site that the node old leaves, where up is its parent when it has gone, and these are the places
abbrev pub site_left : (old up : Node) → List ℕ → (number blade last : ℕ) → Site
site_left old up places number blade last =
    record {
      under = old.parent;
      alone = node_bare up;
      level = old.datum.level;
      places = places;
      serial = last + 1;
      number = number;
      blade = blade;
    }

-- the site that the piece at x leaves, in the table t, when it has gone, which is the table left
unfoldable pub site_of : (t left : List Node) → (x number blade last : ℕ) → Site
site_of t left x number blade last = site_left (at t x) (at left (at t x).parent) (new_places left) number blade last

-- the nodes that a shape makes of the node old at a site
abbrev pub new_of : Node → Site → InsertionShape → Size → NewNodes
new_of old site shape size =
    add_all site (record { list = replicate 5 no_new; count = 0 })
    (nodes_in_order outside old.datum.cut (block_of shape site.blade old.datum.cut old.datum.size size))

-- and at the site that the piece at x leaves
unfoldable pub new_nodes_at : (t left : List Node) → ℕ → InsertionShape → Size → (number blade last : ℕ) → NewNodes
new_nodes_at t left x shape size number blade last = new_of (at t x) (site_of t left x number blade last) shape size

-- "a parent that loses its last child is taken out": the parent is at q, and up is what it is then
abbrev pub less_up : Node → ℕ → List ℕ → List ℕ
less_up up q ys = cond (node_bare up) (strike ys q) ys

abbrev pub less_parent : List Node → ℕ → List ℕ → List ℕ
less_parent left q ys = less_up (at left q) q ys

unfoldable pub booked_with : LayoutNodes → List Node → ℕ → NewNodes → Booked
booked_with n left x new =
    let t = append_each limit left (those new) in
    record {
      nodes = record {
        nodes = t;
        free = listing (put_all (area_in t) (omit (entries_of n.free) x) (frees_of (those new)));
        removable = listing (less_parent left (at n.nodes x).parent (entries_of n.removable) ++ enrolments (those new));
      };
      new = new;
    }

unfoldable pub booked_nodes : LayoutNodes → ℕ → InsertionShape → Size → (number blade last : ℕ) → Booked
booked_nodes n x shape size number blade last =
    let left = unlink limit n.nodes x in booked_with n left x (new_nodes_at n.nodes left x shape size number blade last)
