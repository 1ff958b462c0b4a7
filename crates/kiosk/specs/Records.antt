-- A session as plain numbers, and back. Kinds and cuts are as in document 01, "Tree snapshot": "kind (0 free, 1 part, 2 structure), cut (0
-- Horizontal, 1 Vertical)". A record with any other kind or cut, at any of its places, stands for no sound layout: it is read as zeros.
use Rattle.std.specs.Prelude.{Bool, cond, ◌&&◌, List, map, ℕ, ◌<◌, ◌≤◌, length, get_or, replicate}
use Rattle.piece.specs.declared.node.Datum.{Datum}
use Rattle.piece.specs.Sides.{sized}
use Rattle.piece.specs.Numbers.{kind_no, cut_no, cut_of, kind_of, kind_listed, cut_listed}
use Rattle.lists.specs.Lists.{limit, zeros}
use Rattle.lists.specs.Search.{every}
use Rattle.table.specs.declared.Node.{Node}
use Rattle.layout.specs.declared.layout.Layout.{Layout}
use Rattle.layout.specs.Zero.{zero_layout}
use Rattle.session.specs.declared.Session.{Session}
use Rattle.kiosk.specs.declared.records.DatumRecord.{DatumRecord}
use Rattle.kiosk.specs.declared.records.NodeRecord.{NodeRecord}
use Rattle.kiosk.specs.declared.records.LayoutRecord.{LayoutRecord}
use Rattle.kiosk.specs.declared.records.SessionRecord.{SessionRecord}

-- ---- the record of zeros

abbrev pub no_datum : DatumRecord
no_datum = record { serial = 0; width = 0; height = 0; number = 0; level = 0; kind = 0; cut = 0; eaten = 0 }

abbrev pub no_record : NodeRecord
no_record = record { datum = no_datum; parent = 0; first = 0; last = 0; prev = 0; next = 0 }

abbrev pub no_layout : LayoutRecord
no_layout =
    record {
      nodes = replicate limit no_record;
      free = zeros limit;
      removable = zeros limit;
      held = 0;
      frees = 0;
      removables = 0;
      used = 0;
      serial = 0;
      number = 0;
      stages = 0;
      blade = 0;
      width = 0;
      height = 0;
    }

abbrev pub no_session : SessionRecord
no_session = record { layout = no_layout; kept = no_layout }

-- ---- kinds and cuts that are listed, and the test of them

unfoldable pub Listed : NodeRecord → Type 0
Listed r = (r.datum.kind ≤ 2) × (r.datum.cut ≤ 1)

unfoldable pub listed_b : NodeRecord → Bool
listed_b r = kind_listed r.datum.kind && cut_listed r.datum.cut

-- at each place
abbrev pub AllListed : List NodeRecord → Type 0
AllListed rs = (i : ℕ) → i < length rs → Listed (get_or rs i no_record)

unfoldable pub all_listed_b : List NodeRecord → Bool
all_listed_b rs = every (λ i. listed_b (get_or rs i no_record)) (length rs)

-- ---- from a record

abbrev pub datum_of : DatumRecord → Datum
datum_of d =
    record {
      serial = d.serial;
      size = sized d.width d.height;
      number = d.number;
      level = d.level;
      kind = kind_of d.kind;
      cut = cut_of d.cut;
      eaten = d.eaten;
    }

unfoldable pub node_of_record : NodeRecord → Node
node_of_record r =
    record {
      datum = datum_of r.datum;
      parent = r.parent;
      first = r.first;
      last = r.last;
      prev = r.prev;
      next = r.next;
    }

abbrev pub nodes_of_records : List NodeRecord → List Node
nodes_of_records rs = map node_of_record rs

-- field by field
unfoldable pub fields_of : LayoutRecord → Layout
fields_of r =
    record {
      nodes = nodes_of_records r.nodes;
      free = r.free;
      removable = r.removable;
      held = r.held;
      frees = r.frees;
      removables = r.removables;
      used = r.used;
      serial = r.serial;
      number = r.number;
      settings = record { stages = r.stages; blade = r.blade; sheet = sized r.width r.height };
    }

-- the layout that a record stands for
unfoldable pub layout_of : LayoutRecord → Layout
layout_of r = cond (all_listed_b r.nodes) (fields_of r) zero_layout

abbrev pub session_of : SessionRecord → Session
session_of r = record { layout = layout_of r.layout; kept = layout_of r.kept }

-- ---- to a record

abbrev pub datum_record : Datum → DatumRecord
datum_record d =
    record {
      serial = d.serial;
      width = d.size.width;
      height = d.size.height;
      number = d.number;
      level = d.level;
      kind = kind_no d.kind;
      cut = cut_no d.cut;
      eaten = d.eaten;
    }

unfoldable pub node_record : Node → NodeRecord
node_record n =
    record {
      datum = datum_record n.datum;
      parent = n.parent;
      first = n.first;
      last = n.last;
      prev = n.prev;
      next = n.next;
    }

abbrev pub node_records : List Node → List NodeRecord
node_records ns = map node_record ns

unfoldable pub layout_record : Layout → LayoutRecord
layout_record l =
    record {
      nodes = node_records l.nodes;
      free = l.free;
      removable = l.removable;
      held = l.held;
      frees = l.frees;
      removables = l.removables;
      used = l.used;
      serial = l.serial;
      number = l.number;
      stages = l.settings.stages;
      blade = l.settings.blade;
      width = l.settings.sheet.width;
      height = l.settings.sheet.height;
    }

abbrev pub record_of : Session → SessionRecord
record_of s = record { layout = layout_record s.layout; kept = layout_record s.kept }
