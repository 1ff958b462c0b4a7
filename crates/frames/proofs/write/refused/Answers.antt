-- `write::refused` meets its contract. Assumes nothing.
use Rattle.std.proofs.Common.{ℕ, [], ◌∷◌, sym, ap}
use Rattle.frames.specs.Answers.{content_of}
use Rattle.frames.proofs.Writing.{answered}
use Rattle.frames.proofs.write.refused.Goals as goal

pub returns : goal.returns
unfolding content_of
returns c =
    answered (ap (λ (n : ℕ). c.args.op ∷ n ∷ []) (sym c.number.ensures))
    c.begin-pen.ensures c.end.ensures
