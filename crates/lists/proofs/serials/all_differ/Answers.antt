-- `lists::serials::all_differ` meets its contract: serials whose residues differ differ, and else the classes say. Assumes nothing.
use mathlib.Core.Path.{sym, ◌∙◌}
use Rattle.lists.specs.Lists.{limit}
use Rattle.lists.proofs.Residues.{residues-apart}
use Rattle.lists.proofs.serials.all_differ.Goals as goal

pub returns-then-residues_differ : goal.returns-then-residues_differ
returns-then-residues_differ c =
    let r = c.residues_differ in
    c.if-residues_differ.true ∙ sym (residues-apart c.args.s.now limit (sym r.ensures ∙ c.if-residues_differ.true))
