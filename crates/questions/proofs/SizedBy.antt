-- What a call knows of the layout that it is given: its type says how long its arrays are, so that the check's yes says that it is sound.
use mathlib.Core.Path.{◌≡◌}
use Rattle.std.specs.Prelude.{Ok, ⊤}
use borrow.Fn.Kinds.{GoodsP}
use Rattle.layout.specs.declared.layout.Layout.{Layout}
use Rattle.layout.specs.Refusing.{examined_of}
use Rattle.layout.proofs.Examined.{passed}
use Rattle.layout.specs.SoundLayout.{SoundLayout, Sized}
use Rattle.layout.proofs.Typed.{typed-sized}
use Rattle.layout.proofs.Exactly.{sound-says}
use Rattle.questions.proofs.figures.used_area.Kinds.{ps}

-- what is known of a layout that is passed by value: `good` of a call that takes nothing else
abbrev pub Given : Layout → Type 0
Given l = GoodsP tt ps (l, tt)

pub sized-by : (l : Layout) → Given l → Sized l
sized-by l g = typed-sized l _ g.0

-- past the head of the call
pub sound-by : (l : Layout) → Given l → {u : ⊤} → Ok u ≡ examined_of l → SoundLayout l
sound-by l g h = sound-says l (sized-by l g) (passed l h)
