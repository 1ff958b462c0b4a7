-- A list that names places has entries whose order can be asked for.
use Rattle.lists.proofs.Named.{ok-count, ok-below}
use Rattle.lists.specs.Lists.{limit}
use Rattle.sound.proofs.frame.rest_ok.Goals as goal

pub is_sorted-requires : goal.is_sorted-requires
is_sorted-requires c =
    let l = c.args.free.now in
    let n = c.args.frees in
    (ok-count limit l n c.requires.0, ok-below limit l n c.requires.0)
