-- The sizes of what is lent, for a caller to compare with its own before it lends anything. A record's numbers stand in its order, each at a multiple of
-- its own size, and a record's size is a multiple of its widest number's: C's rule, and that of #[repr(C)].
use Rattle.std.specs.Prelude.{ℕ, ◌+◌, ◌-◌, ◌*◌, ◌%◌}
use Rattle.lists.specs.Lists.{limit}

-- n, up to the next multiple of k
abbrev pub up_to : ℕ → ℕ → ℕ
up_to k n = n + (k - n % k) % k

-- serial, width and height 4 bytes each, number 2; level, kind, cut and what was eaten 1 each
abbrev pub datum_bytes : ℕ
datum_bytes = up_to 4 (3 * 4 + 2 + 4 * 1)

-- the datum, and five links of 2
abbrev pub node_record_bytes : ℕ
node_record_bytes = up_to 4 (datum_bytes + 5 * 2)

-- the nodes, two lists of places and three counts, 2 bytes each; used area 8; serial 4, number 2, stages and blade 1 each; width and height 4 each
abbrev pub layout_bytes : ℕ
layout_bytes = up_to 8 (up_to 8 (limit * node_record_bytes + 2 * (limit * 2) + 3 * 2) + 8 + up_to 4 (4 + 2 + 2 * 1) + 2 * 4)

-- the layout, and the kept one
abbrev pub session_bytes : ℕ
session_bytes = 2 * layout_bytes

-- the bytes that are lent for a list of saw cuts: 9 for each place, which is more than any list has
abbrev pub room_bytes : ℕ
room_bytes = 9 * limit
