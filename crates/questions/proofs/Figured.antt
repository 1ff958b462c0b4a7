-- What the calls of figures.rt rest on: the figures of a sound layout, in the terms of its record and of the columns of its table.
use mathlib.Core.Path.{◌≡◌, refl, sym, ap, ◌∙◌}
use mathlib.Core.List.{List}
use mathlib.Core.Bool.{Bool, true, false}
use mathlib.Core.Logic.{inl, inr, ⊎_elim}
use Prim.Native.Nat.{ℕ, ◌+◌, ◌^◌, ◌≤◌, ◌<◌}
use native.Mathlib.Omega.{arith}
use lib.Dec.{T, ltb, le→leb}
use lib.IntN.{pos}
use lib.Ieee.{binary64, in_float}
use lib.ListN.{get_or-eq_default}
use borrow.Author.Tests.{ltb-true, ltb-false}
use Rattle.piece.specs.declared.node.Datum.{Datum}
use Rattle.piece.specs.declared.settings.Settings.{Settings}
use Rattle.piece.specs.Sides.{area}
use Rattle.piece.specs.Row.{nil, grow}
use Rattle.piece.proofs.Sizes.{area_small}
use Rattle.tree.specs.Tree.{Tree, In, At, count}
use Rattle.tree.specs.Sound.{Topped}
use Rattle.tree.specs.Figures.{free_area, tree_usage}
use Rattle.tree.proofs.Rows.{in?}
use Rattle.tree.proofs.Read.{Written, Readable, sound-readable}
use Rattle.tree.proofs.Usage.{sheet-small}
use Rattle.tree.proofs.Laws.AreaConserved.{area-conserved}
use Rattle.table.specs.declared.Node.{Node}
use Rattle.table.specs.Table.{zero_node, at, Holds}
use Rattle.walks.specs.Inner.{Small}
use Rattle.walks.specs.Columns.{kinds_of, areas_of, usage_in}
use Rattle.walks.proofs.Meaning.{usage-top, small}
use Rattle.sound.specs.Listed.{area_listed}
use Rattle.sound.proofs.Worth.{holds-free-area}
use Rattle.sound.proofs.Serials.{shown-at}
use Rattle.layout.specs.declared.layout.Layout.{Layout}
use Rattle.layout.specs.Check.{limit, tree}
use Rattle.layout.specs.SoundLayout.{SoundLayout}
use Rattle.questions.specs.Answers.{all_free}

-- ---- areas

-- a small area is cast to f64 without loss
pub in-float : (a : ℕ) → a ≤ 2 ^ 53 → T (in_float binary64 (pos a))
unfolding in_float
in-float a h = le→leb a (2 ^ 53) h

-- ---- what holds of every piece that a snapshot can hold

-- holds of each piece of such a row
readable-each : (P : Datum → Type 0) → ((l : ℕ) (d : Datum) → Written l d → P d) → (l : ℕ) (w : Tree) → Readable l w
    → (i : ℕ) (d : Datum) → At i d w → P d
readable-each P says l nil f i d y = absurd y
readable-each P says l (grow p e k r) f i d (inl y) = rw y.1 (says l e f.0)
readable-each P says l (grow p e k r) f i d (inr (inl y)) = readable-each P says (l + 1) k f.1 i d y
readable-each P says l (grow p e k r) f i d (inr (inr y)) = readable-each P says l r f.2 i d y

-- and where it holds of no piece, it holds of each place of a table that holds a tree: a place has a piece of it, or is zero
place-each : (P : Datum → Type 0) → P zero_node.datum → (t : List Node) (w : Tree) → Holds limit t w → ((i : ℕ) (d : Datum) → At i d w → P d)
    → (i : ℕ) → P (at t i).datum
place-each P zero t w h each i =
    ⊎_elim (λ y. each i (at t i).datum (shown-at limit t limit limit i w h.rep y)) (λ n. rw (empty n (ltb i limit) refl) zero) (in? i w)
  where
    empty : (In i w → ⊥) → (b : Bool) → ltb i limit ≡ b → at t i ≡ zero_node
    empty n true e = h.rest i (ltb-true i limit e) n
    empty n false e = get_or-eq_default t zero_node (omega (arith, ltb-false i limit e, h.len))

-- ---- the top

-- the top is a structure
top_kept : (settings : Settings) (w : Tree) → Topped settings w → all_free w ≡ false
top_kept settings nil h = absurd h
top_kept settings (grow p d k r) h = rw h.0.kind refl

-- the tree usage of the top, as the walk finds it from the place 0 with enough fuel
top-usage : (settings : Settings) (t : List Node) (w : Tree) → Topped settings w → Holds limit t w → (left : ℕ) → count w ≤ left
    → usage_in limit t left 0 ≡ tree_usage w
top-usage settings t nil h holds left b = absurd h
top-usage settings t (grow p d k r) h holds left b =
    let alone : Holds limit t (grow p d k nil) = rw h.0.alone at holds in
    let fuel : count (grow p d k nil) ≤ left = omega arith in
    ap (λ (x : ℕ). usage_in limit t left x) (sym h.0.place) ∙ usage-top limit t p d k left alone fuel

-- ---- a sound layout

module _ (l : Layout) (s : SoundLayout l) where
  -- "areas stay below 2^52"
  pub free-small : free_area (tree l) < 2 ^ 52
  free-small = omega (arith, area-conserved (tree l) s.sound, sheet-small s.sound.domain)

  -- "`is_empty` is no on every sound layout"
  pub never-empty : all_free (tree l) ≡ false
  never-empty = top_kept l.settings (tree l) s.sound.topped

  pub each-place : (P : Datum → Type 0) → P zero_node.datum → ((k : ℕ) (d : Datum) → Written k d → P d) → (i : ℕ) → P (at l.nodes i).datum
  each-place P zero says =
      place-each P zero l.nodes (tree l) s.holds (readable-each P says 0 (tree l) (sound-readable (tree l) s.sound))

  -- over the columns of the table
  pub areas-small : Small (areas_of l.nodes)
  areas-small =
      small limit l.nodes
      (each-place (λ d. area d.size < 2 ^ 52) (omega arith) (λ k d w. area_small d.size w.small.width w.small.height))

  pub free-area-is : area_listed 0 (kinds_of l.nodes) (areas_of l.nodes) limit ≡ free_area (tree l)
  free-area-is = holds-free-area limit l.nodes (tree l) s.holds

  -- the walk from the top, with the nodes held as fuel
  pub usage-is : usage_in limit l.nodes l.held 0 ≡ tree_usage (tree l)
  usage-is = top-usage l.settings l.nodes (tree l) s.sound.topped s.holds l.held (omega (arith, s.held))
