-- What the two calls leave in the buffer that they are lent: the cuts of the layout's tree, and what each of them loses. Refusals 1, then 13, as for the
-- tree snapshot.
use Rattle.std.specs.Prelude.{List, ℕ}
use Rattle.layout.specs.declared.layout.Layout.{Layout}
use Rattle.layout.specs.Check.{tree}
use Rattle.saw.specs.Cuts.{cuts, bytes_of_cuts, amounts}

unfoldable pub saw_bytes : Layout → List ℕ
saw_bytes l = bytes_of_cuts (cuts (tree l))

unfoldable pub amount_bytes : Layout → List ℕ
amount_bytes l = amounts (cuts (tree l))
