-- What the table that holds a tree shows of its families (tree's Family): the parent of a piece, whether it has children, and the lowest place that is not
-- held. Assumes nothing.
use mathlib.Core.Path.{◌≡◌, refl, sym, ◌∙◌}
use mathlib.Core.List.{List}
use mathlib.Core.Bool.{not}
use mathlib.Core.Logic.{◌⊎◌, inl, inr}
use Prim.Native.Nat.{ℕ, ◌-◌, ◌<◌}
use native.Mathlib.Omega.{arith}
use lib.Dec.{leb}
use borrow.Author.Tests.{ne_eqb, le-leb, lt-leb}
use Rattle.piece.specs.declared.settings.Settings.{Settings}
use Rattle.piece.specs.Row.{nil, grow}
use Rattle.lists.proofs.Scan.{first-same}
use Rattle.tree.specs.Tree.{Tree, In, is_nil}
use Rattle.tree.specs.Sound.{Sound}
use Rattle.tree.specs.Steps.{Marked}
use Rattle.tree.specs.Family.{holds, parent_of, childless, unheld_from}
use Rattle.tree.proofs.Rows.{in?}
use Rattle.tree.proofs.Kids.{kids-of, spot_in}
use Rattle.tree.proofs.Spots.{topped-rooted}
use Rattle.tree.proofs.Family.{in-holds, absent-holds, parent-spot, childless-is}
use Rattle.table.specs.declared.Node.{Node}
use Rattle.table.specs.Table.{at, head, Rep, Holds}
use Rattle.table.specs.Unheld.{is_unheld, lowest_from}
use Rattle.table.proofs.Rep.{shows}
use Rattle.table.proofs.Links.{holds-held}
use Rattle.table.proofs.Steps as steps

pub parent_is : (limit : ℕ) (settings : Settings) (w : Tree) → Sound limit settings w → (x : ℕ) → In x w → (x ≡ 0 → ⊥) → (t : List Node)
    → Holds limit t w → (at t x).parent ≡ parent_of limit x w
parent_is limit settings w sound x i n t h =
    let s = spot_in x w (topped-rooted settings w sound.topped) i n in
    steps.parent_is limit settings t w sound h x s ∙ sym (parent-spot limit x w sound.distinct s)

-- whether it has children
no-first : (limit : ℕ) (t : List Node) (q : ℕ) (k : Tree) → Rep limit t q limit k → leb limit (head limit k) ≡ is_nil k
no-first limit t q nil rep = le-leb limit limit (omega arith)
no-first limit t q (grow p d k r) rep = lt-leb limit p rep.0

pub no-child : (limit : ℕ) (t : List Node) (q : ℕ) (v : Tree) → Holds limit t v → In q v → leb limit (at t q).first ≡ childless q v
no-child limit t q v h i =
    let g = kids-of q v i in
    let o = shows limit t limit limit q g.0 v h.rep g.1 in
    rw o.first (no-first limit t q g.0 o.rep ∙ sym (childless-is q g.0 v h.distinct g.1))

-- the lowest unheld place of the table is the lowest that the tree does not hold
pub lowest-is : (limit : ℕ) (t : List Node) (v : Tree) → Holds limit t v → Marked v → (n : ℕ) → lowest_from limit t n ≡ unheld_from limit v n
unfolding lowest_from unheld_from
lowest-is limit t v h marked n =
    first-same (is_unheld t) (λ (p : ℕ). not (holds p v)) (limit - n) n (λ i a b. go i (omega arith) (in? i v))
  where
    go : (i : ℕ) → i < limit → In i v ⊎ (In i v → ⊥) → is_unheld t i ≡ not (holds i v)
    go i b (inl y) =
        let z = holds-held limit t v h marked i y in
        rw (in-holds i v y) (ne_eqb (at t i).datum.serial 0 (λ e. omega arith))
    go i b (inr o) = rw (absent-holds i v o, h.rest i b o) refl
