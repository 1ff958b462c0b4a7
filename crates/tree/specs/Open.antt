-- Document 01, "Open": "top at level 0 with the first cut given; one free child of full size, level 1, the other cut." "Serials start at 1
-- (top) and rise by one per node in creation order. A new node takes the lowest unheld place."
use Rattle.piece.specs.declared.settings.Opening.{Opening}
use Rattle.piece.specs.declared.node.Datum.{Datum}
use Rattle.piece.specs.declared.node.Kind.TheVariants.{Free, Structure}
use Rattle.piece.specs.Sides.{other}
use Rattle.piece.specs.Row.{nil, grow}
use Rattle.tree.specs.Tree.{Tree}

abbrev pub top_datum : Opening → Datum
top_datum o = record { serial = 1; size = o.settings.sheet; number = 0; level = 0; kind = Structure; cut = o.cut; eaten = 0 }

abbrev pub first_free : Opening → Datum
first_free o = record { serial = 2; size = o.settings.sheet; number = 0; level = 1; kind = Free; cut = other o.cut; eaten = 0 }

abbrev pub opened : Opening → Tree
opened o = grow 0 (top_datum o) (grow 1 (first_free o) nil nil) nil
