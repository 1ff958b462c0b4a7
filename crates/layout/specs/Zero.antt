-- The layout of zeros. Document 01: "Node table, free list and removable list are made as repeated zero entries, 255 each, when a layout opens."
use Rattle.std.specs.Prelude.{replicate}
use Rattle.piece.specs.Sides.{sized}
use Rattle.table.specs.Table.{zero_node}
use Rattle.lists.specs.Lists.{zeros}
use Rattle.layout.specs.declared.layout.Layout.{Layout}
use Rattle.layout.specs.Check.{limit}

unfoldable pub zero_layout : Layout
zero_layout =
    record {
      nodes = replicate limit zero_node;
      free = zeros limit;
      removable = zeros limit;
      held = 0;
      frees = 0;
      removables = 0;
      used = 0;
      serial = 0;
      number = 0;
      settings = record { stages = 0; blade = 0; sheet = sized 0 0 };
    }
