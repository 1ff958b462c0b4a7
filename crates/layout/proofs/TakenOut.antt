-- A removal from a sound layout: what its steps ask holds, and what they leave is the next layout (specs/Remove.antt). The steps are those of
-- crate `removal`, whose proofs say what they do to a table and to lists that stand as "Sound layout" says. Assumes nothing.
use mathlib.Core.Path.{◌≡◌, refl, sym, ap, ◌∙◌}
use mathlib.Core.List.{List, [], ◌∷◌}
use mathlib.Core.Bool.{cond}
use Prim.Native.Nat.{ℕ, zero, suc, ◌+◌, ◌-◌, ◌≤◌, ◌<◌}
use native.Mathlib.Nat.{le_refl}
use native.Mathlib.Omega.{arith}
use lib.ListN.{length, get_or, length-append}
use lib.Seq.{take-length}
use Rattle.std.specs.Prelude.{Ok}
use Rattle.piece.specs.declared.node.Kind.{Kind}
use Rattle.piece.specs.declared.node.Kind.TheVariants.{Free, Part, Structure}
use Rattle.piece.specs.Row.{nil, grow}
use Rattle.piece.specs.Kinds.{is_part}
use Rattle.tree.specs.Tree.{Tree, In, count}
use Rattle.tree.specs.Removal.{cleared, remove, subtree}
use Rattle.tree.specs.Steps.{leaving}
use Rattle.tree.specs.Enrolment.{removed_list}
use Rattle.tree.proofs.Rows.{at_in}
use Rattle.tree.proofs.Goes.{subtree-is}
use Rattle.tree.proofs.Family.{parent-cleared}
use Rattle.table.specs.Table.{at}
use Rattle.table.specs.Steps.{going, free_last_place}
use Rattle.walks.specs.Inner.{Hangs}
use Rattle.walks.specs.Along.{numbers_along, parts, PartsEnd}
use Rattle.lists.specs.Lists.{entries}
use Rattle.walks.proofs.Meaning.{length-order}
use Rattle.walks.proofs.Entries.{entries-take}
use Rattle.walks.proofs.Along.{each-subtree, sound-ends, length-numbers, parts-most}
use Rattle.layout_nodes.specs.Listings.{entries_of}
use Rattle.layout_nodes.specs.Standing.{Stands}
use Rattle.removal.specs.declared.going.Going.{Going}
use Rattle.removal.specs.declared.remove.Cleared.{Cleared}
use Rattle.removal.specs.Going.{going_of, places, area_along}
use Rattle.removal.specs.Remove.{removed_nodes}
use Rattle.removal.specs.Inner.{Clearable}
use Rattle.removal.proofs.Row.{row_of}
use Rattle.removal.proofs.Goes.{leaving-is, going-is}
use Rattle.removal.proofs.Gone.{going-placed}
use Rattle.removal.proofs.Pieces.{parent-low, last-low}
use Rattle.removal.proofs.Stands.{remove-clearable, remove-stands, remove-place, remove-list}
use Rattle.removal.proofs.Sums.{left-count, removed-count, removed-area, going-most, removed-numbers, removed-few}
use Rattle.layout.specs.declared.layout.Layout.{Layout}
use Rattle.layout.specs.declared.remove.Removed.{Removed}
use Rattle.layout.specs.Check.{limit, tree}
use Rattle.layout.specs.Parts.{nodes_of, with_nodes}
use Rattle.layout.specs.Next.{Next, removables}
use Rattle.layout.specs.Remove.{RemoveDone, numbers_out, place_for}
use Rattle.layout.specs.Inner.{Leaving, Takeable}
use Rattle.layout.proofs.Areas.{used-small}
use Rattle.layout.proofs.Changed.{layout-stands, stands-next}

-- as many entries as were asked for
length-first : (n : ℕ) (l : List ℕ) → length (entries n l) ≡ n
unfolding entries
length-first zero l = refl
length-first (suc n) l = omega (arith, length-append (entries n l) (get_or l n 0 ∷ []), length-first n l)

-- a piece that is no part is one node more than there are parts below it; a part has nothing below it
parts_below : (c : Kind) (k : Tree) (n : ℕ) → (c ≡ Part → k ≡ nil) → count k ≤ n → 1 ≤ n → cond (is_part c) 1 0 + (parts k + 0) ≤ n
parts_below Part k n e h some = rw (e refl) (omega arith)
parts_below Free k n e h some = omega (arith, parts-most k)
parts_below Structure k n e h some = omega (arith, parts-most k)

-- what holds a place has a node
held-some : (i : ℕ) (w : Tree) → In i w → 1 ≤ count w
held-some i nil h = absurd h
held-some i (grow p d k r) h = omega arith

module _ (l : Layout) (x : ℕ) (t : Takeable l x) where
  standing : Stands l.settings l.serial (tree l) (nodes_of l)
  standing = layout-stands l t.sized t.sound

  held-there : In x (tree l)
  held-there = at_in x t.removable.piece (tree l) t.removable.there

  -- what the code finds to go is what the tree says
  pub goes-is : going_of l.nodes x l.held ≡ going l.nodes x (tree l)
  goes-is = rw t.sound.held (going-is l.nodes (tree l) x t.sound.holds held-there)

  -- what `going_with` asks
  pub goable : (x < limit) × ((at l.nodes x).parent < limit) × ((at l.nodes (at l.nodes x).parent).last < limit)
      × (length (going_of l.nodes x l.held) ≤ limit)
      × Hangs limit l.nodes x l.held
  goable = (
    t.sound.sound.placed x held-there,
    parent-low limit l.settings l.nodes (tree l) t.sound.sound t.sound.holds x t.removable,
    last-low limit l.settings l.nodes (tree l) t.sound.sound t.sound.holds x t.removable,
    rw goes-is (going-most limit l.settings l.nodes (tree l) t.sound.sound t.sound.holds x t.removable),
    record { tree = tree l; holds = t.sound.holds; there = held-there; many = sym t.sound.held },
  )

  -- along what goes stand the numbers that come out
  pub numbers-going : {ps : List ℕ} → ps ≡ going_of l.nodes x l.held → numbers_along l.nodes ps ≡ numbers_out l x
  unfolding numbers_out
  numbers-going e =
      ap (numbers_along l.nodes) (e ∙ goes-is)
      ∙ removed-numbers limit l.settings l.nodes (tree l) t.sound.sound t.sound.holds x t.removable

  pub numbers-few : length (numbers_out l x) ≤ limit
  unfolding numbers_out
  numbers-few = removed-few limit l.settings l.nodes (tree l) t.sound.sound t.sound.holds x t.removable

  -- the top does not go, and a structure has no number: all nodes but two are the most that come out
  pub numbers-fewer : length (numbers_out l x) + 2 ≤ limit
  unfolding numbers_out
  numbers-fewer =
      let s = t.sound in
      let z = t.removable in
      let w = tree l in
      let o = row_of limit l.settings l.nodes w s.sound s.holds x z in
      let own = grow x z.piece o.below nil in
      let is = subtree-is o.parent x o.before z.piece o.below o.behind w s.sound.distinct o.kids in
      let ends : PartsEnd own = rw is at (each-subtree _ x w (sound-ends limit l.settings w s.sound)) in
      let left = held-some _ (cleared x w) (parent-cleared limit l.settings w s.sound x held-there z.below) in
      let most : count o.below ≤ limit - 2 =
      omega (
        arith,
        s.sound.room,
        left,
        left-count limit l.settings l.nodes w s.sound s.holds x z,
        length-append (leaving (subtree x w)) (free_last_place l.nodes (at l.nodes x).parent),
        ap length (leaving-is (subtree x w)),
        length-order (subtree x w),
        ap count is,
      )
      in
      omega (arith, length-numbers (subtree x w), ap parts is, parts_below z.piece.kind o.below (limit - 2) ends.0 most (omega arith))

  module _ (g : Going) (gone : Leaving l x g) where
    places-are : places g ≡ going l.nodes x (tree l)
    places-are = gone.places ∙ goes-is

    count-is : g.count ≡ length (going l.nodes x (tree l))
    count-is = sym (length-first g.count g.order) ∙ ap length places-are

    -- what `remove` asks
    pub clearable : Clearable (nodes_of l) (places g) x l.serial
    clearable =
        rw places-are
        (remove-clearable l.settings l.serial (tree l) (nodes_of l) standing x t.removable t.spent)

    -- no more goes than there is
    pub count_most : g.count ≤ l.held
    count_most =
        omega (
          arith,
          count-is,
          t.sound.held,
          left-count limit l.settings l.nodes (tree l) t.sound.sound t.sound.holds x t.removable,
        )

    pub area-most : area_along l.nodes (places g) ≤ l.used
    area-most =
        rw places-are
        (omega (
          arith,
          t.sound.used,
          removed-area limit l.settings l.nodes (tree l) t.sound.sound t.sound.holds x t.removable 0 0,
        ))

    -- what `area_along` asks: the sum fits
    pub area-fits : area_along l.nodes (places g) ≤ 18446744073709551615
    area-fits = omega (arith, area-most, (used-small l t.sound).0)

    -- what `remove` gives stands again
    module _ {c : Cleared} (cleared-so : c ≡ removed_nodes (nodes_of l) (places g) x l.serial) where
      gives : c ≡ removed_nodes (nodes_of l) (going l.nodes x (tree l)) x l.serial
      gives = cleared-so ∙ ap (λ (ps : List ℕ). removed_nodes (nodes_of l) ps x l.serial) places-are

      stands-again : Stands l.settings (l.serial + 1) (remove x (place_for l x) (l.serial + 1) (tree l)) c.nodes
      stands-again =
          rw gives (remove-stands l.settings l.serial (tree l) (nodes_of l) standing x t.removable t.spent)

      pub lists-room : (c.nodes.free.count ≤ limit) × (c.nodes.removable.count ≤ limit)
      lists-room = (stands-again.free_kept.room, stands-again.removable_kept.room)

      pub place_is : c.place ≡ place_for l x
      place_is =
          ap (λ (d : Cleared). d.place) gives
          ∙ remove-place l.settings l.serial (tree l) (nodes_of l) standing x t.removable t.spent

      list-is : entries_of c.nodes.removable ≡ removed_list limit x (tree l) (removables l)
      list-is =
          ap (λ (d : Cleared). entries_of d.nodes.removable) gives
          ∙ remove-list l.settings l.serial (tree l) (nodes_of l) standing x t.removable t.spent

      -- the next layout: one piece has come for those that go, and their parts' areas are no longer used
      pub next-out : {held used : ℕ} → held ≡ (l.held + 1) - g.count → used ≡ l.used - area_along l.nodes (places g)
          → Next l (remove x (place_for l x) (l.serial + 1) (tree l)) (removed_list limit x (tree l) (removables l)) (l.serial + 1)
          (with_nodes l c.nodes held used (l.serial + 1))
      next-out h u =
          let s = t.sound in
          let z = t.removable in
          let p = place_for l x in
          let n = removed-count limit l.settings l.nodes (tree l) s.sound s.holds x z p (l.serial + 1) in
          let a = removed-area limit l.settings l.nodes (tree l) s.sound s.holds x z p (l.serial + 1) in
          rw (← list-is)
          (stands-next l (l.serial + 1) (remove x p (l.serial + 1) (tree l)) c.nodes stands-again _ _
          (omega (arith, h, n, count-is, s.held)) (omega (arith, u, a, ap (area_along l.nodes) places-are, s.used)))

-- ---- an answer: what the steps leave is one, so there is one

module _ (l : Layout) (x : ℕ) where
  abbrev all : List ℕ
  all = going_of l.nodes x l.held

  all-going : Going
  all-going = record { order = all; count = length all }

  left : Cleared
  left = removed_nodes (nodes_of l) (places all-going) x l.serial

  reply : Removed
  reply =
      record {
        outcome = Ok tt;
        free = record { layout = l.number; place = left.place; serial = l.serial + 1 };
        count = length (numbers_out l x);
        layout = with_nodes l left.nodes ((l.held + 1) - all-going.count) (l.used - area_along l.nodes (places all-going)) (l.serial + 1);
      }

  pub some-removed : Takeable l x → (a : Removed) × RemoveDone l x a
  unfolding all-going left reply
  some-removed can = (
    reply,
    record {
      outcome = refl;
      free = ap (λ (q : ℕ). record { layout = l.number; place = q; serial = l.serial + 1 }) (place_is l x can all-going leaves refl);
      count = refl;
      next = next-out l x can all-going leaves refl refl refl;
    },
  )
    where
      leaves : Leaving l x all-going
      leaves =
          let g = goable l x can in
          record {
            places = entries-take (length all) all (le_refl (length all)) ∙ take-length all;
            room = g.3;
            placed = going-placed l.nodes x l.held g.0 g.2;
          }
