-- The columns of a table that the check speaks of, together.
use Rattle.std.specs.Prelude.{List, ℕ}
use Rattle.table.specs.declared.Node.{Node}
pub use Rattle.table.specs.Columns.{areas_of, serials_of, firsts_of, nexts_of, kinds_of}

pub record Columns : Type 0 where
  pub area : List ℕ
  pub serial : List ℕ
  pub first : List ℕ
  pub next : List ℕ
  pub kind : List ℕ

abbrev pub checked_columns : List Node → Columns
checked_columns t =
    record { area = areas_of t; serial = serials_of t; first = firsts_of t; next = nexts_of t; kind = kinds_of t }
