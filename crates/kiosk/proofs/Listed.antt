-- The laws of the records: the test of kinds and cuts says that all are listed; a record that is listed goes into a layout and back, and so does one of
-- a sound layout; one that isn't stands for zeros, which aren't sound; a layout goes into a record and back, and that is listed; the session at the
-- start is the record of zeros. Rests on specs/Records.
use mathlib.Core.Path.{◌≡◌, refl, sym, ap, ◌∙◌}
use mathlib.Core.Bool.{true, false}
use mathlib.Core.List.{List, [], ◌∷◌, map}
use mathlib.Core.Logic.{◌⊎◌, inl, inr}
use Prim.Native.Nat.{ℕ, zero, suc, ◌<◌}
use native.Mathlib.Omega.{arith}
use lib.ListN.{length, get_or, replicate, get_or-map}
use borrow.Author.Tests.{leb-true, le-leb}
use Rattle.piece.proofs.Numbers.{kind-listed, cut-listed, kind-back, cut-back, kind-stays, cut-stays}
use Rattle.lists.specs.Lists.{limit}
use Rattle.lists.proofs.Scan.{test, clash}
use Rattle.table.specs.declared.Node.{Node}
use Rattle.table.specs.Table.{zero_node}
use Rattle.sound.proofs.Says.{Says, le-says, and-says, every-says}
use Rattle.layout.specs.declared.layout.Layout.{Layout}
use Rattle.layout.specs.Check.{sound_b}
use Rattle.layout.specs.Zero.{zero_layout}
use Rattle.layout.proofs.Exactly.{zero-refused}
use Rattle.session.specs.declared.Session.{Session}
use Rattle.session.specs.Session.{started}
use Rattle.kiosk.specs.declared.records.NodeRecord.{NodeRecord}
use Rattle.kiosk.specs.declared.records.LayoutRecord.{LayoutRecord}
use Rattle.kiosk.specs.declared.records.SessionRecord.{SessionRecord}
use Rattle.kiosk.specs.Records.{node_of_record, fields_of, layout_of, session_of, node_record, layout_record, record_of, no_record, no_session}
use Rattle.kiosk.specs.Records.{Listed, listed_b, AllListed, all_listed_b}

-- ---- what the test says

listed-says : (r : NodeRecord) → Says (listed_b r) (Listed r)
unfolding listed_b Listed
listed-says r = and-says (le-says r.datum.kind 2) (le-says r.datum.cut 1)

pub all-listed-says : (rs : List NodeRecord) → Says (all_listed_b rs) (AllListed rs)
unfolding all_listed_b
all-listed-says rs = every-says (λ i. listed-says (get_or rs i no_record)) (length rs)

-- a record that is listed stands for its fields
listed-fields : (r : LayoutRecord) → AllListed r.nodes → layout_of r ≡ fields_of r
unfolding layout_of
listed-fields r h = rw ((all-listed-says r.nodes).passes h) refl

-- one that isn't, for zeros
pub unlisted-zero : (r : LayoutRecord) → all_listed_b r.nodes ≡ false → layout_of r ≡ zero_layout
unfolding layout_of
unlisted-zero r h = rw h refl

-- so that is not sound
pub unlisted-unsound : (r : LayoutRecord) → all_listed_b r.nodes ≡ false → sound_b (layout_of r) ≡ false
unlisted-unsound r h = ap sound_b (unlisted-zero r h) ∙ zero-refused

-- one unlisted place is enough
pub unlisted-at : (r : LayoutRecord) (i : ℕ) → i < length r.nodes → (Listed (get_or r.nodes i no_record) → ⊥) → all_listed_b r.nodes ≡ false
unlisted-at r i h not_listed = go (test (all_listed_b r.nodes))
  where
    go : (all_listed_b r.nodes ≡ true) ⊎ (all_listed_b r.nodes ≡ false) → all_listed_b r.nodes ≡ false
    go (inl e) = absurd (not_listed ((all-listed-says r.nodes).says e i h))
    go (inr e) = e

pub sound-listed : (r : LayoutRecord) → sound_b (layout_of r) ≡ true → AllListed r.nodes
sound-listed r h = go (test (all_listed_b r.nodes))
  where
    go : (all_listed_b r.nodes ≡ true) ⊎ (all_listed_b r.nodes ≡ false) → AllListed r.nodes
    go (inl e) = (all-listed-says r.nodes).says e
    go (inr e) = absurd (clash (sym (unlisted-unsound r e) ∙ h))

-- ---- there and back, over a list

-- where each entry comes back, the list does
each_back : {A B : Type 0} (f : A → B) (g : B → A) (P : A → Type 0) → ((x : A) → P x → g (f x) ≡ x) → (z : A) (xs : List A)
    → ((i : ℕ) → i < length xs → P (get_or xs i z)) → map g (map f xs) ≡ xs
each_back f g P back z [] h = refl
each_back f g P back z (x ∷ xs) h = λ i. back x (h zero (omega arith)) i ∷ each_back f g P back z xs (λ k b. h (suc k) (omega arith)) i

each_same : {A B : Type 0} (f : A → B) (a : A) (n : ℕ) → map f (replicate n a) ≡ replicate n (f a)
each_same f a zero = refl
each_same f a (suc n) = ap (λ (r : List _). f a ∷ r) (each_same f a n)

-- ---- what is written is listed

node-listed : (n : Node) → Listed (node_record n)
unfolding node_record Listed
node-listed n = (leb-true _ 2 (kind-listed n.datum.kind), leb-true _ 1 (cut-listed n.datum.cut))

pub layout-listed : (l : Layout) → AllListed (layout_record l).nodes
unfolding layout_record node_record
layout-listed l i _ = rw (get_or-map node_record l.nodes i zero_node) (node-listed (get_or l.nodes i zero_node))

-- ---- a session, into a record and back

node-back : (n : Node) → node_of_record (node_record n) ≡ n
unfolding node_of_record node_record
node-back n = rw (kind-back, cut-back) refl

fields_back : (l : Layout) → fields_of (layout_record l) ≡ l
unfolding fields_of layout_record
fields_back l =
    rw (each_back node_record node_of_record (λ _. Unit {0}) (λ n _. node-back n) zero_node l.nodes (λ _ _. tt)) refl

pub layout-back : (l : Layout) → layout_of (layout_record l) ≡ l
layout-back l = listed-fields (layout_record l) (layout-listed l) ∙ fields_back l

pub session-back : (s : Session) → session_of (record_of s) ≡ s
session-back s = rw (layout-back s.layout, layout-back s.kept) refl

-- ---- a record, into a session and back

node_stays : (r : NodeRecord) → Listed r → node_record (node_of_record r) ≡ r
unfolding node_of_record node_record Listed
node_stays r h = rw (kind-stays r.datum.kind (le-leb _ 2 h.0), cut-stays r.datum.cut (le-leb _ 1 h.1)) refl

fields-stay : (r : LayoutRecord) → AllListed r.nodes → layout_record (fields_of r) ≡ r
unfolding fields_of layout_record
fields-stay r h = rw (each_back node_of_record node_record Listed node_stays no_record r.nodes h) refl

pub layout_stays : (r : LayoutRecord) → AllListed r.nodes → layout_record (layout_of r) ≡ r
layout_stays r h = ap layout_record (listed-fields r h) ∙ fields-stay r h

-- the record of a sound layout is the one that stands for it, and there is no other
pub sound-stays : (r : LayoutRecord) → sound_b (layout_of r) ≡ true → layout_record (layout_of r) ≡ r
sound-stays r h = layout_stays r (sound-listed r h)

pub record-back : (r : SessionRecord) → AllListed r.layout.nodes → AllListed r.kept.nodes → record_of (session_of r) ≡ r
record-back r h k = rw (layout_stays r.layout h, layout_stays r.kept k) refl

-- ---- the start

pub starts-zero : record_of started ≡ no_session
unfolding layout_record zero_layout node_record
starts-zero = rw (each_same node_record zero_node limit, each_same node_record zero_node limit) refl
