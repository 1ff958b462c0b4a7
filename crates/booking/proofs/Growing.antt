-- A list of places that grows one entry at a time: what is still to come brings it to what all bring it to. Assumes nothing.
use mathlib.Core.Path.{◌≡◌, refl, sym, ap, ◌∙◌}
use mathlib.Core.Bool.{Bool, true, false}
use mathlib.Core.List.{List, [], ◌∷◌, ◌++◌, append-nil, append_assoc}
use Prim.Native.Nat.{ℕ, zero, suc, ◌+◌, ◌≤◌, ◌<◌}
use native.Mathlib.Omega.{arith}
use lib.ListN.{length, take, drop, get_or}
use Rattle.piece.specs.Kinds.{is_free, is_part}
use Rattle.lists.specs.Lists.{limit}
use Rattle.tree.specs.ListSteps.{push, put, put_all}
use Rattle.tree.specs.Enrolment.{when}
use Rattle.layout_nodes.specs.declared.listing.Listing.{Listing}
use Rattle.layout_nodes.specs.Listings.{Kept, entries_of, listing}
use Rattle.layout_nodes.proofs.Listed.{entries-are, kept-as, length-entries, push-length, put-length}
use Rattle.booking.specs.declared.new_nodes.NewNode.{NewNode}
use Rattle.booking.specs.NewNodes.{enrolments, frees_of, no_new}
use Rattle.booking.proofs.Runs.{next-entry, none_left}

-- a step brings one entry more, and all are such steps
pub record Growing (step : List ℕ → ℕ → List ℕ) (all : List ℕ → List ℕ → List ℕ) : Type 0 where
  pub none : (xs : List ℕ) → all xs [] ≡ xs
  pub more : (xs ps : List ℕ) (p : ℕ) → all xs (p ∷ ps) ≡ all (step xs p) ps
  pub one : (xs : List ℕ) (p : ℕ) → length (step xs p) ≡ length xs + 1

pub put-grows : (areas : ℕ → ℕ) → Growing (put areas) (put_all areas)
put-grows areas = record { none = λ xs. refl; more = λ xs ps p. refl; one = λ xs p. put-length areas xs p }

pub push-grows : Growing push ◌++◌
push-grows =
    record { none = λ xs. append-nil xs; more = λ xs ps p. sym (append_assoc xs (p ∷ []) ps); one = λ xs p. push-length xs p }

-- the list l, of which the places of todo make the total
pub record Coming (all : List ℕ → List ℕ → List ℕ) (total todo : List ℕ) (l : Listing) : Type 0 where
  pub kept : Kept l
  pub room : l.count + length todo ≤ limit
  pub left : all (entries_of l) todo ≡ total

pub coming-start : (all : List ℕ → List ℕ → List ℕ) (todo : List ℕ) (l : Listing) → Kept l → l.count + length todo ≤ limit →
    Coming all (all (entries_of l) todo) todo l
coming-start all todo l k h = record { kept = k; room = h; left = refl }

module _ {step : List ℕ → ℕ → List ℕ} {all : List ℕ → List ℕ → List ℕ} (grow : Growing step all) {total : List ℕ} where
  pub coming-end : {l : Listing} → Coming all total [] l → l ≡ listing total
  coming-end {l} h = h.kept.zeros ∙ ap listing (sym (grow.none (entries_of l)) ∙ h.left)

  -- the next place
  module _ {p : ℕ} {todo : List ℕ} {l : Listing} (h : Coming all total (p ∷ todo) l) where
    pub coming-room : l.count < limit
    coming-room = omega (arith, h.room)

    pub coming-more : {m : Listing} → m ≡ listing (step (entries_of l) p) → Coming all total todo m
    coming-more {m} e =
        let k : length (step (entries_of l) p) ≡ l.count + 1 = rw (grow.one (entries_of l) p, length-entries h.kept) refl in
        record {
          kept = kept-as (step (entries_of l) p) e (omega (arith, h.room));
          room = let n = ap (λ (x : Listing). x.count) e in omega (arith, h.room);
          left = rw (entries-are (step (entries_of l) p) e, ← grow.more (entries_of l) todo p) h.left;
        }

-- a place that comes only if so
module _ {all : List ℕ → List ℕ → List ℕ} {total : List ℕ} {l : Listing} (b : Bool) (p : ℕ) (todo : List ℕ)
    (h : Coming all total (when b p ++ todo) l) where
  pub coming-so : b ≡ true → Coming all total (p ∷ todo) l
  coming-so e = rw e at h

  pub coming-not : b ≡ false → {m : Listing} → m ≡ l → Coming all total todo m
  coming-not e {m} same = rw same (rw e at h)

-- the free ones among n nodes are no more than n
when-most : (b : Bool) (p : ℕ) (ps : List ℕ) → length (when b p ++ ps) ≤ 1 + length ps
when-most true p ps = omega arith
when-most false p ps = omega arith

pub frees-most : (n : ℕ) (l : List NewNode) → length (frees_of (take n l)) ≤ n
frees-most zero l = omega arith
frees-most (suc n) [] = omega arith
frees-most (suc n) (m ∷ l) =
    omega (arith, when-most (is_free m.datum.kind) m.place (frees_of (take n l)), frees-most n l)

-- ---- the loops along the new nodes ns, of which i are passed

-- the free ones: xs was the list, and l is the list so far
abbrev pub Putting : (ℕ → ℕ) → List NewNode → List ℕ → ℕ → Listing → Type 0
Putting areas ns xs i l = Coming (put_all areas) (put_all areas xs (frees_of ns)) (frees_of (drop i ns)) l

module _ (ns : List NewNode) (i : ℕ) where
  -- the next node, and what comes after it
  abbrev node : NewNode
  node = get_or ns i no_new

  abbrev rest : List ℕ
  rest = frees_of (drop (i + 1) ns)

  abbrev later : List ℕ
  later = enrolments (drop (i + 1) ns)

module _ (areas : ℕ → ℕ) (ns : List NewNode) (xs : List ℕ) (i : ℕ) {l : Listing} (w : Putting areas ns xs i l) where
  abbrev n : NewNode
  n = node ns i

  module _ (h : i < length ns) where
    next : Coming (put_all areas) (put_all areas xs (frees_of ns)) (when (is_free n.datum.kind) n.place ++ (rest ns i)) l
    next = rw (next-entry ns i no_new h) at w

    module _ (e : is_free n.datum.kind ≡ true) where
      so : Coming (put_all areas) (put_all areas xs (frees_of ns)) (n.place ∷ (rest ns i)) l
      so = coming-so (is_free n.datum.kind) n.place (rest ns i) next e

      pub putting-needs : Kept l × (l.count < limit)
      putting-needs = (so.kept, coming-room (put-grows areas) so)

      pub putting-more : {m : Listing} → m ≡ listing (put areas (entries_of l) n.place) → Putting areas ns xs (i + 1) m
      putting-more f = coming-more (put-grows areas) so f

    pub putting-pass : is_free n.datum.kind ≡ false → {m : Listing} → m ≡ l → Putting areas ns xs (i + 1) m
    putting-pass e f = coming-not (is_free n.datum.kind) n.place (rest ns i) next e f

  pub putting-end : length ns ≤ i → l ≡ listing (put_all areas xs (frees_of ns))
  putting-end h = coming-end (put-grows areas) (rw (none_left ns i h) at w)

-- what is enrolled
abbrev pub Enrolling : List NewNode → List ℕ → ℕ → Listing → Type 0
Enrolling ns xs i l = Coming ◌++◌ (xs ++ enrolments ns) (enrolments (drop i ns)) l

module _ (ns : List NewNode) (xs : List ℕ) (i : ℕ) where
  abbrev m : NewNode
  m = node ns i

  -- the node itself has come, if it is a part
  abbrev pub Parted : Listing → Type 0
  Parted l = Coming ◌++◌ (xs ++ enrolments ns) (when m.eldest m.under ++ later ns i) l

  module _ {l : Listing} (w : Enrolling ns xs i l) (h : i < length ns) where
    first : Coming ◌++◌ (xs ++ enrolments ns) (when (is_part m.datum.kind) m.place ++ (when m.eldest m.under ++ later ns i)) l
    first = rw (next-entry ns i no_new h) at w

    module _ (e : is_part m.datum.kind ≡ true) where
      part : Coming ◌++◌ (xs ++ enrolments ns) (m.place ∷ (when m.eldest m.under ++ later ns i)) l
      part = coming-so (is_part m.datum.kind) m.place (when m.eldest m.under ++ later ns i) first e

      pub part-needs : Kept l × (l.count < limit)
      part-needs = (part.kept, coming-room push-grows part)

      pub part-more : {k : Listing} → k ≡ listing (push (entries_of l) m.place) → Parted k
      part-more f = coming-more push-grows part f

    pub part-pass : is_part m.datum.kind ≡ false → {k : Listing} → k ≡ l → Parted k
    part-pass e f = coming-not (is_part m.datum.kind) m.place (when m.eldest m.under ++ later ns i) first e f

  module _ {l : Listing} (w : Parted l) where
    module _ (e : m.eldest ≡ true) where
      parent : Coming ◌++◌ (xs ++ enrolments ns) (m.under ∷ later ns i) l
      parent = coming-so m.eldest m.under (later ns i) w e

      pub parent-needs : Kept l × (l.count < limit)
      parent-needs = (parent.kept, coming-room push-grows parent)

      pub parent-more : {k : Listing} → k ≡ listing (push (entries_of l) m.under) → Enrolling ns xs (i + 1) k
      parent-more f = coming-more push-grows parent f

    pub parent-pass : m.eldest ≡ false → {k : Listing} → k ≡ l → Enrolling ns xs (i + 1) k
    parent-pass e f = coming-not m.eldest m.under (later ns i) w e f

  pub enrolling-end : {l : Listing} → Enrolling ns xs i l → length ns ≤ i → l ≡ listing (xs ++ enrolments ns)
  enrolling-end w h = coming-end push-grows (rw (none_left ns i h) at w)
