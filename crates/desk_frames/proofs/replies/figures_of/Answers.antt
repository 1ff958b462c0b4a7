-- `figures_of` meets its contract: refused by the first figure that is, or the six of them, both usages being numbers. Assumes nothing.
use mathlib.Core.Path.{◌≡◌, refl, ap, ◌∙◌}
use mathlib.Core.Bool.{Bool, true, false}
use Rattle.std.specs.Int.{from_bool}
use lib.Ieee.{binary64, to_bits}
use Rattle.std.specs.Prelude.{Ok}
use Rattle.std.proofs.lemmas.Result.{err_from_is_err_and}
use Rattle.layout.proofs.Typed.{typed-sized}
use Rattle.layout.proofs.Exactly.{sound-says}
use Rattle.questions.proofs.Usage.{sheet-usage-number, tree-usage-number}
use Rattle.desk_frames.specs.Answers.{yes_no}
use Rattle.desk_frames.specs.Inner.{figures_call}
use Rattle.desk_frames.proofs.Figured.{used-is, free-is, nodes-is, empty-is, sheet-is, tree_is, used-not, free-not, nodes-not, empty-not, sheet-not, tree-not, figures_refused}
use Rattle.desk_frames.proofs.replies.figures_of.Goals as goal

pub returns-in_err-used_area : goal.returns-in_err-used_area
returns-in_err-used_area c =
    figures_refused _ (used-not _ c.used_area.ensures c.in_err-used_area.was) (err_from_is_err_and c.from_residual.result c.from_residual.ensures.1)

pub returns-in_err-free_area : goal.returns-in_err-free_area
returns-in_err-free_area c =
    figures_refused _ (free-not _ c.free_area.ensures c.in_err-free_area.was) (err_from_is_err_and c.from_residual-in_err-free_area.result c.from_residual-in_err-free_area.ensures.1)

pub returns-in_err-nodes_held : goal.returns-in_err-nodes_held
returns-in_err-nodes_held c =
    figures_refused _ (nodes-not _ c.nodes_held.ensures c.in_err-nodes_held.was) (err_from_is_err_and c.from_residual-in_err-nodes_held.result c.from_residual-in_err-nodes_held.ensures.1)

pub returns-in_err-is_empty : goal.returns-in_err-is_empty
returns-in_err-is_empty c =
    figures_refused _ (empty-not _ c.is_empty.ensures c.in_err-is_empty.was) (err_from_is_err_and c.from_residual-in_err-is_empty.result c.from_residual-in_err-is_empty.ensures.1)

pub returns-in_err-sheet_usage : goal.returns-in_err-sheet_usage
returns-in_err-sheet_usage c =
    figures_refused _ (sheet-not _ c.sheet_usage.ensures c.in_err-sheet_usage.was) (err_from_is_err_and c.from_residual-in_err-sheet_usage.result c.from_residual-in_err-sheet_usage.ensures.1)

pub returns-in_err-tree_usage : goal.returns-in_err-tree_usage
returns-in_err-tree_usage c =
    figures_refused _ (tree-not _ c.tree_usage.ensures c.in_err-tree_usage.was) (err_from_is_err_and c.from_residual-in_err-tree_usage.result c.from_residual-in_err-tree_usage.ensures.1)

-- ---- where all six are answered

-- a yes or no as a byte
byte-of : (b : Bool) → from_bool b ≡ yes_no b
byte-of true = refl
byte-of false = refl

pub float_to_bits-result : goal.float_to_bits-result
float_to_bits-result c =
    let l = c.args.layout in
    let used = used-is l c.used_area.ensures c.in_ok-used_area.was in
    rw (sheet-is l c.sheet_usage.ensures c.in_ok-sheet_usage.was).1 (sheet-usage-number l (sound-says l (typed-sized l _ c.well_formed.0) used.0))

pub float_to_bits-result-2 : goal.float_to_bits-result-2
float_to_bits-result-2 c =
    let l = c.args.layout in
    let used = used-is l c.used_area.ensures c.in_ok-used_area.was in
    rw (tree_is l c.tree_usage.ensures c.in_ok-tree_usage.was).1 (tree-usage-number l (sound-says l (typed-sized l _ c.well_formed.0) used.0))

pub returns : goal.returns
unfolding figures_call
returns c =
    let l = c.args.layout in
    let used = used-is l c.used_area.ensures c.in_ok-used_area.was in
    let free = (free-is l c.free_area.ensures c.in_ok-free_area.was).1 in
    let nodes = (nodes-is l c.nodes_held.ensures c.in_ok-nodes_held.was).1 in
    let empty = c.from.ensures ∙ byte-of c.in_ok-is_empty.field-0 ∙ ap yes_no (empty-is l c.is_empty.ensures c.in_ok-is_empty.was).1 in
    let sheet-bits = ap (to_bits binary64) (sheet-is l c.sheet_usage.ensures c.in_ok-sheet_usage.was).1 in
    let tree-bits = ap (to_bits binary64) (tree_is l c.tree_usage.ensures c.in_ok-tree_usage.was).1 in
    rw used.0
    (ap Ok
    (λ i. record { used = used.1 i; free = free i; nodes = nodes i; empty = empty i; sheet = sheet-bits i; tree = tree-bits i }))
