-- Document 01, "Open": "top at level 0 with the first cut given; one free child of full size, level 1, the other cut". proofs/Opened.antt says
-- that the layout is sound and that its tree is the opened one.
use Rattle.std.specs.Prelude.{List, [], ◌∷◌, cond, Ok, Err}
use Rattle.piece.specs.declared.settings.Opening.{Opening}
use Rattle.tree.specs.Open.{top_datum, first_free}
use Rattle.table.specs.declared.Node.{Node}
use Rattle.table.specs.Table.{append}
use Rattle.table.specs.Steps.{top_only}
use Rattle.lists.specs.Lists.{padded}
use Rattle.marks.specs.declared.Refusal.TheVariants.{OpeningOutside}
use Rattle.layout.specs.declared.layout.Layout.{Layout}
use Rattle.layout.specs.declared.open.Opened.{Opened}
use Rattle.layout.specs.Check.{limit, domain_b}
use Rattle.layout.specs.Zero.{zero_layout}

-- the top at place 0, and the free piece at place 1 appended to it
unfoldable pub fresh_nodes : Opening → List Node
fresh_nodes o = append limit (top_only limit (top_datum o)) 0 1 (first_free o)

-- two nodes and two serials; the free piece is in the free list, and the top in the removable list
unfoldable pub fresh_layout : Opening → Layout
fresh_layout o =
    record {
      nodes = fresh_nodes o;
      free = padded limit (1 ∷ []);
      removable = padded limit (0 ∷ []);
      held = 2;
      frees = 1;
      removables = 1;
      used = 0;
      serial = 2;
      number = o.number;
      settings = o.settings;
    }

-- refusal 2: "opening number outside the domain"; "Refused: .. all zero for an opening"
unfoldable pub open_of : Opening → Opened
open_of o =
    cond (domain_b o.settings)
    (record {
      outcome = Ok (record { layout = o.number; place = 1; serial = 2 });
      layout = fresh_layout o;
    })
    (record { outcome = Err OpeningOutside; layout = zero_layout })
