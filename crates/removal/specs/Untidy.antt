-- The structures that tidying takes out (document 02, No. 5), as the table shows them: tree/specs/Tidy.antt has the words. The top, at place 0, is none of them.
use Rattle.std.specs.Prelude.{Bool, ◌&&◌, List, ◌∷◌, ℕ, ◌-◌, eqb, ltb}
use Rattle.piece.specs.Kinds.{is_free, is_structure}
use Rattle.lists.specs.Lists.{limit}
use Rattle.lists.specs.Search.{first_from}
use Rattle.table.specs.declared.Node.{Node}
use Rattle.table.specs.Table.{at}
use Rattle.table.specs.Steps.{free_last_place}

-- a structure whose first child is its last, and that is free
unfoldable pub bare_in : Node → Node → Bool
bare_in n child = is_structure n.datum.kind && (eqb n.first n.last && is_free child.datum.kind)

-- the piece at i is one
unfoldable pub untidy_in : List Node → ℕ → Bool
untidy_in t i = ltb (at t i).first limit && bare_in (at t i) (at t (at t i).first)

-- the lowest place of one, or the limit
unfoldable pub lowest_untidy : List Node → ℕ
lowest_untidy t = first_from (untidy_in t) (limit - 1) 1

-- the places that go with one at x: its child's, its own, and that of the free piece at the end of its row
unfoldable pub bare_going : List Node → ℕ → List ℕ
bare_going t x = (at t x).first ∷ x ∷ free_last_place t (at t x).parent
