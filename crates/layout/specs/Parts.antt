-- The nodes and the lists of a layout, as the steps of a booking and a removal take them; and a layout with others.
use Rattle.std.specs.Prelude.{ℕ}
use Rattle.layout_nodes.specs.declared.LayoutNodes.{LayoutNodes}
use Rattle.layout.specs.declared.layout.Layout.{Layout}

abbrev pub nodes_of : Layout → LayoutNodes
nodes_of l =
    record {
      nodes = l.nodes;
      free = record { list = l.free; count = l.frees };
      removable = record { list = l.removable; count = l.removables };
    }

abbrev pub with_nodes : Layout → LayoutNodes → (held used last : ℕ) → Layout
with_nodes l n held used last =
    record {
      nodes = n.nodes;
      free = n.free.list;
      removable = n.removable.list;
      held = held;
      frees = n.free.count;
      removables = n.removable.count;
      used = used;
      serial = last;
      number = l.number;
      settings = l.settings;
    }
