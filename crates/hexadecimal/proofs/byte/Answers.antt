-- `hexadecimal::byte` meets its contract: each exit is a case of `below`. Assumes nothing.
use Rattle.std.proofs.Common.{sym, ◌∙◌}
use Rattle.hexadecimal.proofs.Pairs.{high-none, low-none, both-some}
use Rattle.hexadecimal.proofs.byte.Goals as goal

pub returns-in_err-value : goal.returns-in_err-value
returns-in_err-value c =
    c.from_residual.ensures ∙ high-none c.args.high c.args.low (sym c.in_err-value.was ∙ c.value.ensures)

pub returns-in_err-value-2 : goal.returns-in_err-value-2
returns-in_err-value-2 c =
    c.from_residual-in_err-value-2.ensures ∙ low-none c.args.high c.args.low (sym c.in_err-value-2.was ∙ c.value-2.ensures)

pub returns : goal.returns
returns c =
    both-some c.args.high c.args.low _ _ (sym c.in_ok-value.was ∙ c.value.ensures) (sym c.in_ok-value-2.was ∙ c.value-2.ensures)
