-- "a child's level is its parent's plus 1 and at most the stages": no piece of a sound tree lies deeper than the stages. Assumes nothing.
use mathlib.Core.Path.{◌≡◌, ap, ◌∙◌}
use mathlib.Core.Logic.{inl, inr}
use Prim.Native.Nat.{ℕ, ◌≤◌}
use native.Mathlib.Omega.{arith}
use Rattle.piece.specs.declared.node.Datum.{Datum}
use Rattle.piece.specs.declared.settings.Settings.{Settings}
use Rattle.piece.specs.Row.{nil, grow}
use Rattle.tree.specs.Tree.{Tree, At}
use Rattle.tree.specs.Sound.{Children, Topped}

row-level : (settings : Settings) (q : Datum) (r : Tree) → Children settings q r → (i : ℕ) (d : Datum) → At i d r → d.level ≤ settings.stages
row-level settings q nil h i d y = absurd y
row-level settings q (grow p e k r) h i d (inl y) = rw y.1 h.child.stage
row-level settings q (grow p e k r) h i d (inr (inl y)) = row-level settings e k h.below i d y
row-level settings q (grow p e k r) h i d (inr (inr y)) = row-level settings q r h.beside i d y

pub level-low : (settings : Settings) (t : Tree) → Topped settings t → (i : ℕ) (d : Datum) → At i d t → d.level ≤ settings.stages
level-low settings nil h i d y = absurd y
level-low settings (grow p e k r) h i d (inl y) =
    let zero : d.level ≡ 0 = ap (λ (x : Datum). x.level) y.1 ∙ h.0.level in omega arith
level-low settings (grow p e k r) h i d (inr (inl y)) = row-level settings e k h.1 i d y
level-low settings (grow p e k r) h i d (inr (inr y)) = absurd (rw h.0.alone at y)
