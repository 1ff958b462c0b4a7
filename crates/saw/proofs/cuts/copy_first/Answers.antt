-- `copy_first` meets its contract: one more byte is one more store behind those that were made. Assumes nothing.
use mathlib.Core.Path.{◌≡◌, sym, ap, ◌∙◌}
use mathlib.Core.List.{List, [], ◌∷◌}
use Prim.Native.Nat.{ℕ, ◌+◌, ◌<◌}
use native.Mathlib.Omega.{arith}
use lib.ListN.{length, take, set, get_or}
use lib.Seq.{sets, length-take-le}
use Rattle.std.proofs.lemmas.List.{take_more}
use Rattle.lists.proofs.Fill.{sets-append}
use Rattle.saw.proofs.cuts.copy_first.Goals as goal

-- the first i bytes stand first, and the next one is stored behind them
one-more : (f o : List ℕ) (i : ℕ) → i < length f → set (sets o 0 (take i f)) i (get_or f i 0) ≡ sets o 0 (take (i + 1) f)
one-more f o i h =
    let n : 0 + length (take i f) ≡ i = omega (arith, length-take-le i f (omega arith)) in
    ap (λ (k : ℕ). sets (sets o 0 (take i f)) k (get_or f i 0 ∷ [])) (sym n)
    ∙ sym (sets-append (take i f) (get_or f i 0 ∷ []) o 0)
    ∙ ap (sets o 0) (sym (take_more f i 0 h))

pub loop-i-preserved : goal.loop-i-preserved
loop-i-preserved c =
    ap (λ (l : List ℕ). set l c.loop-i.i (get_or c.args.from.now c.loop-i.i 0)) c.loop-i.invariant
    ∙ one-more c.args.from.now c.args.out.now c.loop-i.i (omega arith)
