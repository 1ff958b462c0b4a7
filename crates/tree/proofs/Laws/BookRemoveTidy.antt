-- Document 02, No. 5: "For a layout that was tidy before, every call being accepted, booking by any of the four shapes, removing the *part* and tidying gives
-- back the same tree." Here on trees: for any blade width, wherever the new nodes and the freed pieces get their places, and in whatever order the untidy
-- structures go.
use mathlib.Core.Path.{◌≡◌}
use Prim.Native.Nat.{ℕ, ◌<◌}
use Rattle.piece.specs.declared.node.Datum.{Datum}
use Rattle.piece.specs.declared.node.Kind.TheVariants.{Free, Part}
use Rattle.piece.specs.declared.settings.Settings.{Settings}
use Rattle.tree.specs.Tree.{Tree, In, At}
use Rattle.tree.specs.Sound.{Sound}
use Rattle.tree.specs.Snapshot.{Same}
use Rattle.tree.specs.Booking.{Booking, block, book}
use Rattle.tree.specs.Removal.{remove, cleared}
use Rattle.tree.specs.Accepted.{Fitting, Fresh}
use Rattle.tree.specs.Tidy.{Tidy, Takings}
use Rattle.tree.proofs.Shapes.{same-of-shape}
use Rattle.tree.proofs.Returned.{book-returns}

pub book-remove-tidy : {limit : ℕ} {settings : Settings} (t u : Tree) (x y n s k : ℕ) (d e : Datum) (b : Booking)
    → Sound limit settings t → Tidy t
    → At x d t → d.kind ≡ Free → Fitting settings d b → Fresh limit x b t
    → At y e (block b d) → e.kind ≡ Part → n < limit → (In n (cleared y (book x b t)) → ⊥)
    → Takings limit (remove y n s (book x b t)) k u → Tidy u
    → Same u t
book-remove-tidy {limit} {settings} t u x y n s k d e b h tidy a f fit fresh at part l unheld g done =
    same-of-shape u t (book-returns limit settings t h x d a f b fit fresh y e at part n s k u unheld g tidy done)
