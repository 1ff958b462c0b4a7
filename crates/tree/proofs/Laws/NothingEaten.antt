-- Nothing was eaten, in a sound tree, exactly where no piece has an amount recorded: where a blade ate, it left a strip of some area. Document 02,
-- No. 4: what is recorded stands behind a piece with others after it, so behind a part or a structure, whose sides are at least 1.
use mathlib.Core.Path.{◌≡◌, refl, ap, ◌∙◌}
use mathlib.Core.Logic.{◌↔◌, inl, inr}
use Prim.Native.Nat.{ℕ, ◌*◌, ◌≤◌}
use native.Mathlib.Nat.{le-mul_of_pos_right}
use native.Mathlib.Omega.{arith}
use Rattle.piece.specs.declared.node.Datum.{Datum}
use Rattle.piece.specs.declared.node.Kind.{Kind}
use Rattle.piece.specs.declared.node.Kind.TheVariants.{Free, Part, Structure}
use Rattle.piece.specs.declared.settings.Settings.{Settings}
use Rattle.piece.specs.Row.{nil, grow}
use Rattle.tree.specs.Tree.{Tree, At}
use Rattle.tree.specs.Sound.{Kinded, Children, Sound}
use Rattle.tree.specs.Figures.{eaten_area}
use Rattle.tree.proofs.Laying.{laid-sided}
use Rattle.tree.proofs.Areas.{own_strip, strips, eaten-own}

no-strip : (n m : ℕ) → 1 ≤ m → n * m ≡ 0 → n ≡ 0
no-strip n m h e = omega (arith, le-mul_of_pos_right n h)

piece-clean : (κ : Kind) (d : Datum) (k r : Tree) → Kinded κ d k r → (r ≡ nil → d.eaten ≡ 0) → own_strip d ≡ 0 → d.eaten ≡ 0
piece-clean Free d k r f ends e = ends f.last
piece-clean Part d k r f ends e = no-strip d.eaten _ (laid-sided d.cut f.sided).tall e
piece-clean Structure d k r f ends e = no-strip d.eaten _ (laid-sided d.cut f.sided).tall e

row-clean : (settings : Settings) (q : Datum) (r : Tree) → Children settings q r → strips r ≡ 0 → (i : ℕ) (d : Datum) → At i d r → d.eaten ≡ 0
row-clean settings q nil h e i d y = absurd y
row-clean settings q (grow p c k r) h e i d (inl y) =
    ap (λ (z : Datum). z.eaten) y.1 ∙ piece-clean c.kind c k r h.kinded h.ends (omega arith)
row-clean settings q (grow p c k r) h e i d (inr (inl y)) = row-clean settings c k h.below (omega arith) i d y
row-clean settings q (grow p c k r) h e i d (inr (inr y)) = row-clean settings q r h.beside (omega arith) i d y

tree-clean : {limit : ℕ} {settings : Settings} (t : Tree) → Sound limit settings t → strips t ≡ 0 → (i : ℕ) (d : Datum) → At i d t → d.eaten ≡ 0
tree-clean nil s e i d y = absurd y
tree-clean (grow p c k r) s e i d (inl y) = ap (λ (z : Datum). z.eaten) y.1 ∙ s.topped.0.eaten
tree-clean {settings} (grow p c k r) s e i d (inr (inl y)) = row-clean settings c k s.topped.1 (omega arith) i d y
tree-clean (grow p c k r) s e i d (inr (inr y)) = absurd (rw s.topped.0.alone at y)

clean-strips : (t : Tree) → ((i : ℕ) (d : Datum) → At i d t → d.eaten ≡ 0) → strips t ≡ 0
clean-strips nil f = refl
clean-strips (grow p d k r) f =
    rw (f p d (inl (refl, refl)), clean-strips k (λ i e y. f i e (inr (inl y))), clean-strips r (λ i e y. f i e (inr (inr y)))) (omega arith)

pub nothing-eaten : {limit : ℕ} {settings : Settings} (t : Tree) → Sound limit settings t
    → (eaten_area t ≡ 0) ↔ ((i : ℕ) (d : Datum) → At i d t → d.eaten ≡ 0)
nothing-eaten t s = rw (← eaten-own t s) (tree-clean t s, clean-strips t)
