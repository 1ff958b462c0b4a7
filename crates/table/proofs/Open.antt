-- The opening on the table: the top at place 0 of an empty table, and the free piece as its only child. The table then holds the opened tree,
-- from which all others come by bookings and removals.
use mathlib.Core.Path.{◌≡◌, refl, ◌∙◌}
use mathlib.Core.List.{List}
use mathlib.Core.Logic.{inl, ⊎_elim}
use Prim.Native.Nat.{ℕ, ◌<◌}
use native.Mathlib.Omega.{arith}
use lib.ListN.{replicate, length-set, length-replicate, get_or-replicate}
use lib.Seq.{get_or-set_same, get_or-set_other}
use Rattle.piece.specs.declared.settings.Opening.{Opening}
use Rattle.piece.specs.declared.node.Datum.{Datum}
use Rattle.piece.specs.Row.{nil, grow}
use Rattle.tree.specs.Open.{top_datum, first_free, opened}
use Rattle.tree.proofs.Rows.{distinct-one}
use Rattle.table.specs.declared.Node.{Node}
use Rattle.table.specs.Table.{mk, zero_node, Holds, append}
use Rattle.table.specs.Steps.{top_only}
use Rattle.table.proofs.Append.{append-holds}

pub top-only-holds : (limit : ℕ) (d : Datum) → 0 < limit → Holds limit (top_only limit d) (grow 0 d nil nil)
unfolding top_only
top-only-holds limit d h =
    record {
      len = length-set empty 0 top ∙ length-replicate limit zero_node;
      rep = (h, get_or-set_same empty 0 top zero_node (omega (arith, length-replicate limit zero_node)), tt, tt);
      distinct = distinct-one 0 d;
      rest = λ i b n. get_or-set_other empty 0 i top zero_node (λ e. n (inl e)) ∙ get_or-replicate limit i zero_node zero_node b;
    }
  where
    empty : List Node
    empty = replicate limit zero_node

    top : Node
    top = mk d limit limit limit limit limit

pub opened-holds : (limit : ℕ) (o : Opening) → 1 < limit
    → Holds limit (append limit (top_only limit (top_datum o)) 0 1 (first_free o)) (opened o)
opened-holds limit o h =
    append-holds limit (top_only limit (top_datum o)) 0 1 (first_free o) (grow 0 (top_datum o) nil nil)
    (top-only-holds limit (top_datum o) (omega arith)) (inl refl) h
    (λ y. ⊎_elim (λ e. let z : ◌≡◌ {A = ℕ} 1 0 = e in omega arith) (λ v. ⊎_elim absurd absurd v) y)
