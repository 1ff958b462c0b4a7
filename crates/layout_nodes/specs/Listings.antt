-- A list of places as the code holds it, and the areas by which a place is put in. The steps on lists are those of crate `tree`.
use Rattle.std.specs.Prelude.{◌≡◌, List, cond, ℕ, ◌≤◌, ltb, get_or, length, take}
use Rattle.lists.specs.Lists.{limit, padded}
use Rattle.piece.specs.Sides.{area}
use Rattle.table.specs.declared.Node.{Node}
use Rattle.table.specs.Table.{at}
use Rattle.layout_nodes.specs.declared.listing.Listing.{Listing}

-- the area of the piece at a place of a table, and 0 where there is no such place
abbrev pub area_in : List Node → ℕ → ℕ
area_in t p = area (at t p).datum.size

-- the area at a place of a column, and 0 where there is no such place. Of the column of a table it is the area in the table (proofs/Areas.antt)
abbrev pub area_at : List ℕ → ℕ → ℕ
area_at areas p = cond (ltb p limit) (get_or areas p 0) 0

-- a list as the code holds it: its entries, and zeros up to the limit
abbrev pub listing : List ℕ → Listing
listing xs = record { list = padded limit xs; count = length xs }

abbrev pub entries_of : Listing → List ℕ
entries_of l = take l.count l.list

-- it is held so
pub record Kept (l : Listing) : Type 0 where
  pub room : l.count ≤ limit
  pub zeros : l ≡ listing (entries_of l)
