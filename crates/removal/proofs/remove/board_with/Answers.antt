-- `board_with` meets its contract. The sum is one of the sides of what it gives. Assumes nothing.
use mathlib.Core.Path.{refl, ◌∙◌}
use Prim.Native.Nat.{◌+◌, ◌≤◌}
use native.Mathlib.Omega.{arith}
use Rattle.tree.specs.Removal.{board}
use Rattle.removal.specs.Remove.{if_free}
use Rattle.removal.proofs.Boards.{board-fits}
use Rattle.removal.proofs.remove.board_with.Goals as goal
use Rattle.removal.proofs.remove.board_with.Goals.{After-struct_known-2-1}

sum_fits : (c : After-struct_known-2-1) →
    c.laid-a.result.width + c.args.d.eaten + c.spare_of-spare.result ≤ 4294967295
sum_fits c =
    rw (c.laid-a.ensures, c.spare_of-spare.ensures) (board-fits c.args.d (if_free c.args.end) c.requires.0 c.requires.1)

pub overflow_add-whole : goal.overflow_add-whole
overflow_add-whole c = omega (arith, sum_fits c)

pub overflow_add-whole-2 : goal.overflow_add-whole-2
overflow_add-whole-2 c = omega (arith, sum_fits c)

pub returns : goal.returns
unfolding board
returns c =
    c.laid.ensures ∙ rw (c.laid-a.ensures, c.spare_of-spare.ensures) refl
