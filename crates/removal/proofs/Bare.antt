-- The search for the structures that tidying takes out, and what it finds in the table of a sound tree: those that are untidy in the tree. And what goes with one
-- of them. Assumes nothing.
use mathlib.Core.Path.{◌≡◌, refl, sym, ◌∙◌}
use mathlib.Core.List.{List, [], ◌∷◌}
use mathlib.Core.Bool.{Bool, true, false, cond, ◌&&◌}
use mathlib.Core.Logic.{◌⊎◌, inl, inr}
use Prim.Native.Nat.{ℕ, suc, ◌+◌, ◌-◌, ◌<◌, ◌≤◌}
use native.Mathlib.Omega.{arith}
use lib.Dec.{eqb, ltb}
use borrow.Author.Tests.{eq-eqb, lt-ltb, le-ltb, ltb-true}
use Rattle.piece.specs.declared.node.Datum.{Datum}
use Rattle.piece.specs.declared.node.Kind.TheVariants.{Free}
use Rattle.piece.specs.declared.settings.Settings.{Settings}
use Rattle.piece.specs.Row.{nil, grow}
use Rattle.piece.specs.Kinds.{is_free, is_structure}
use Rattle.lists.specs.Lists.{limit}
use Rattle.lists.specs.Search.{first_from}
use Rattle.lists.proofs.Scan.{and_left, and_right, and-false, clash, first-before, first-from, first_holds}
use Rattle.tree.specs.Tree.{Tree, In, Distinct, after}
use Rattle.tree.specs.Sound.{Sound}
use Rattle.tree.specs.Steps.{Kids}
use Rattle.tree.specs.Tidy.{Lowest, Tidy, Untidy}
use Rattle.tree.proofs.Rows.{in?, in-at, in-eq}
use Rattle.tree.proofs.Kept.{Alone, free-alone}
use Rattle.tree.proofs.Kids.{Spot, kids-at, kids-in, kids-kids, kids-of, kids-row}
use Rattle.tree.proofs.Goes.{subtree-is}
use Rattle.tree.proofs.Spots.{where-spot}
use Rattle.tree.proofs.Tidying.{free-is, structure-is}
use Rattle.tree.proofs.Laws.TidyTree.{untidy-removable}
use Rattle.table.specs.declared.Node.{Node}
use Rattle.table.specs.Table.{at, Holds}
use Rattle.table.specs.Steps.{free_last, free_last_place, going}
use Rattle.table.proofs.Rep.{Shows, shows}
use Rattle.table.proofs.Links.{datum-is}
use Rattle.removal.specs.Going.{area_along, area_if_part}
use Rattle.removal.specs.Untidy.{bare_going, bare_in, untidy_in, lowest_untidy}
use Rattle.removal.proofs.Row.{row_of}

-- ---- how the search goes

-- it begins past the top's place
abbrev begins : ℕ
begins = 1

-- the lowest place from i on
abbrev pub untidy_from : List Node → ℕ → ℕ
untidy_from t i = first_from (untidy_in t) (limit - i) i

module _ (t : List Node) where
  -- what the tests at a place say
  module _ (i : ℕ) where
    pub no-first : limit ≤ (at t i).first → untidy_in t i ≡ false
    unfolding untidy_in
    no-first h = rw (le-ltb (at t i).first limit h) refl

    pub not-bare : bare_in (at t i) (at t (at t i).first) ≡ false → untidy_in t i ≡ false
    unfolding untidy_in
    not-bare e = and-false (ltb (at t i).first limit) _ e

    pub is-untidy : (at t i).first < limit → bare_in (at t i) (at t (at t i).first) ≡ true → untidy_in t i ≡ true
    unfolding untidy_in
    is-untidy h e = rw (lt-ltb (at t i).first limit h, e) refl

  pub from_start : untidy_from t begins ≡ lowest_untidy t
  unfolding lowest_untidy
  from_start = refl

  module _ (i : ℕ) where
    pub from_past : limit ≤ i → untidy_from t i ≡ i
    unfolding first_from
    from_past h = let e : limit - i ≡ 0 = omega arith in rw e refl

    pub from-here : i < limit → untidy_in t i ≡ true → untidy_from t i ≡ i
    unfolding first_from
    from-here h f = let e : limit - i ≡ suc (limit - (i + 1)) = omega arith in rw (e, f) refl

    pub from_on : i < limit → untidy_in t i ≡ false → untidy_from t i ≡ untidy_from t (i + 1)
    unfolding first_from
    from_on h f = let e : limit - i ≡ suc (limit - (i + 1)) = omega arith in rw (e, f) refl

-- ---- what it finds

-- what the test says of a piece that is untidy
record Bare (t : List Node) (i : ℕ) : Type 0 where
  first : (at t i).first < limit
  structure : is_structure (at t i).datum.kind ≡ true
  free : is_free (at t (at t i).first).datum.kind ≡ true

bare-means : (t : List Node) (i : ℕ) → untidy_in t i ≡ true → Bare t i
unfolding untidy_in bare_in
bare-means t i e =
    let a = ltb (at t i).first limit in
    let b = is_structure (at t i).datum.kind in
    let c = eqb (at t i).first (at t i).last in
    let d = is_free (at t (at t i).first).datum.kind in
    let o = and_right a (b && (c && d)) e in
    record {
      first = ltb-true (at t i).first limit (and_left a (b && (c && d)) e);
      structure = and_left b (c && d) o;
      free = and_right c d (and_right b (c && d) o);
    }

module _ (settings : Settings) (t : List Node) (w : Tree) (sound : Sound limit settings w) (h : Holds limit t w) where
  -- the children of a piece whose first child is there and free are that one
  only_child : (x : ℕ) (k : Tree) → Kids x k w → Shows limit t x k → (at t x).first < limit → is_free (at t (at t x).first).datum.kind ≡ true
      → (p : ℕ) × (e : Datum) × Kids x (grow p e nil nil) w × (e.kind ≡ Free)
  only_child x nil g o low free = let no-child : ⊥ = omega (arith, o.first) in absurd no-child
  only_child x (grow p e k r) g o low free =
      let i = kids-at x (grow p e k r) p e w g (inl (refl, refl)) in
      let kind : e.kind ≡ Free = free-is e.kind (rw (o.first, datum-is limit t limit limit p e w h.rep i) at free) in
      let alone = free-alone settings p e w sound.topped sound.distinct i kind in
      let spot : Spot p w = record { parent = x; before = nil; datum = e; below = k; behind = r; kids = g } in
      let z = where-spot p (Alone e) w spot alone in
      (p, e, rw (z.1, z.2) at g, kind)

  -- a place where the test holds is that of an untidy structure, but for the top's
  pub untidy-means : (x : ℕ) → x < limit → (x ≡ 0 → ⊥) → untidy_in t x ≡ true → Untidy x w
  untidy-means x low below e = go (in? x w)
    where
      b : Bare t x
      b = bare-means t x e

      go : In x w ⊎ (In x w → ⊥) → Untidy x w
      go (inl y) =
          let d = in-at x w y in
          let g = kids-of x w y in
          let o = shows limit t limit limit x g.0 w h.rep g.1 in
          let c = only_child x g.0 g.1 o b.first b.free in
          record {
            piece = d.0;
            there = d.1;
            structure = structure-is d.0.kind (rw (datum-is limit t limit limit x d.0 w h.rep d.1) at b.structure);
            below = below;
            place = c.0;
            child = c.1;
            only = c.2;
            free = c.3;
          }
      go (inr n) = absurd (clash (rw (h.rest x low n) at b.structure))

  -- and at each of those it holds
  pub untidy-shows : (x : ℕ) → Untidy x w → (x < limit) × (untidy_in t x ≡ true)
  unfolding bare_in
  untidy-shows x u =
      let k = grow u.place u.child nil nil in
      let o = shows limit t limit limit x k w h.rep u.only in
      let i = kids-at x k u.place u.child w u.only (inl (refl, refl)) in
      let is = datum-is limit t limit limit x u.piece w h.rep u.there in
      let child = datum-is limit t limit limit u.place u.child w h.rep i in (
        o.low,
        is-untidy t x (rw o.first o.rep.0)
            (rw (is, u.structure, o.first, o.last-is, eq-eqb u.place u.place refl, child, u.free) refl),
      )

  -- what is found is the lowest untidy structure
  pub found-lowest : lowest_untidy t < limit → Lowest (lowest_untidy t) w
  unfolding lowest_untidy
  found-lowest b =
      let from = first-from (untidy_in t) (limit - begins) begins in
      record {
        untidy = untidy-means (lowest_untidy t) b (λ z. omega arith) (first_holds (untidy_in t) (limit - begins) begins (omega arith));
        lowest = λ y l u. not-before y l u;
      }
    where
      not-before : (y : ℕ) → y < lowest_untidy t → Untidy y w → ⊥
      not-before y l u =
          let some : begins ≤ y = omega (arith, u.below) in
          clash (sym (first-before (untidy_in t) (limit - begins) begins y some l) ∙ (untidy-shows y u).1)

  -- and where nothing is found there is none
  pub found_none : limit ≤ lowest_untidy t → Tidy w
  unfolding lowest_untidy
  found_none b x u =
      let s = untidy-shows x u in
      let some : begins ≤ x = omega (arith, u.below) in
      clash (sym (first-before (untidy_in t) (limit - begins) begins x some (omega arith)) ∙ s.1)

-- ---- what goes with one of them

-- one row of children is below a place
kids-one : (x : ℕ) (k m w : Tree) → Distinct w → Kids x k w → Kids x m w → k ≡ m
kids-one x k m nil u g h = absurd g
kids-one x k m (grow p d l r) u (inl e) (inl f) = e.1 ∙ sym f.1
kids-one x k m (grow p d l r) u (inl e) (inr (inl h)) = absurd (u.not_below (in-eq l e.0 (kids-in x m l h)))
kids-one x k m (grow p d l r) u (inl e) (inr (inr h)) = absurd (u.not_beside (in-eq r e.0 (kids-in x m r h)))
kids-one x k m (grow p d l r) u (inr (inl g)) (inl f) = absurd (u.not_below (in-eq l f.0 (kids-in x k l g)))
kids-one x k m (grow p d l r) u (inr (inl g)) (inr (inl h)) = kids-one x k m l u.below g h
kids-one x k m (grow p d l r) u (inr (inl g)) (inr (inr h)) = absurd (u.apart x (kids-in x k l g) (kids-in x m r h))
kids-one x k m (grow p d l r) u (inr (inr g)) (inl f) = absurd (u.not_beside (in-eq r f.0 (kids-in x k r g)))
kids-one x k m (grow p d l r) u (inr (inr g)) (inr (inl h)) = absurd (u.apart x (kids-in x m l h) (kids-in x k r g))
kids-one x k m (grow p d l r) u (inr (inr g)) (inr (inr h)) = kids-one x k m r u.beside g h

-- the free piece at the end of a row has no part's area
end-area : (t : List Node) (q : ℕ) → area_along t (free_last_place t q) ≡ 0
unfolding free_last_place
end-area t q = go (free_last t q) refl
  where
    go : (b : Bool) → free_last t q ≡ b → area_along t (cond b ((at t q).last ∷ []) []) ≡ 0
    go false e = refl
    go true e = rw (free-is (at t (at t q).last).datum.kind e) refl

module _ (settings : Settings) (t : List Node) (w : Tree) (sound : Sound limit settings w) (h : Holds limit t w) (x : ℕ) (u : Untidy x w) where
  abbrev own : Tree
  own = grow u.place u.child nil nil

  own-shows : Shows limit t x own
  own-shows = shows limit t limit limit x own w h.rep u.only

  -- its child stands at a place
  pub bare-first : (at t x).first < limit
  bare-first = rw own-shows.first own-shows.rep.0

  -- that goes, and it
  pub bare-goes : bare_going t x ≡ going t x w
  unfolding bare_going
  bare-goes =
      let z = untidy-removable x w u in
      let o = row_of limit settings t w sound h x z in
      let row = after o.before (grow x z.piece o.below o.behind) in
      let under = kids-kids o.parent row x o.below w o.kids (kids-row x o.before z.piece o.below o.behind) in
      let below = kids-one x o.below own w h.distinct under u.only in
      let is = subtree-is o.parent x o.before z.piece o.below o.behind w h.distinct o.kids in
      rw (own-shows.first, is, below) refl

  -- and none of it is a part
  pub bare-area : area_along t (bare_going t x) ≡ 0
  unfolding bare_going
  bare-area =
      let i = kids-at x own u.place u.child w u.only (inl (refl, refl)) in
      let child : area_if_part (at t (at t x).first).datum ≡ 0 =
      rw (own-shows.first, datum-is limit t limit limit u.place u.child w h.rep i, u.free) refl
      in
      let piece : area_if_part (at t x).datum ≡ 0 = rw (datum-is limit t limit limit x u.piece w h.rep u.there, u.structure) refl in
      omega (arith, child, piece, end-area t (at t x).parent)
