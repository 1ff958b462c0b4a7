-- `remove` meets its contract: each step is the one that the definition names. Assumes nothing.
use mathlib.Core.Path.{refl}
use Rattle.table.specs.Steps.{free_last_datum}
use Rattle.removal.specs.Remove.{new_free, removed_nodes, removed_from}
use Rattle.removal.proofs.remove.remove.Goals as goal

-- where the nodes of the old table are read
pub new_free-d-requires : goal.new_free-d-requires
unfolding new_free free_last_datum
new_free-d-requires c = let p = c.requires.1 in (p.wide, p.tall, p.spent)

pub append-requires : goal.append-requires
append-requires c =
    let p = c.requires.1 in
    (p.hung, rw (c.unheld-place.ensures, c.unlink_all.ensures) p.some)

pub removable_list-n-requires : goal.removable_list-n-requires
removable_list-n-requires c =
    let p = c.requires.1 in
    (p.removable_kept, c.requires.0, p.removable_room, p.removable_single)

pub returns : goal.returns
unfolding removed_nodes removed_from new_free free_last_datum
returns c =
    rw (
      c.removable_list-n.ensures,
      c.free_list-n.ensures,
      c.append.ensures,
      c.unheld-place.ensures,
      c.unlink_all.ensures,
      c.new_free-d.ensures,
    )
    refl
