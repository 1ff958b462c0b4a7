-- What the tests of one place say: an unheld place is zero, a held one is a free piece, a part or a structure as far as its own node shows;
-- and what the test of the top says.
use mathlib.Core.Path.{◌≡◌, refl, ap, ◌∙◌}
use mathlib.Core.List.{List}
use Prim.Native.Nat.{ℕ, ◌<◌, ◌≤◌}
use native.Mathlib.Omega.{arith}
use Rattle.piece.specs.declared.orientation.Orientation.{Orientation}
use Rattle.piece.specs.declared.orientation.Orientation.TheVariants.{Horizontal, Vertical}
use Rattle.piece.specs.declared.size.Size.{Size}
use Rattle.piece.specs.declared.node.Datum.{Datum}
use Rattle.piece.specs.declared.node.Kind.{Kind}
use Rattle.piece.specs.declared.node.Kind.TheVariants.{Free, Part, Structure}
use Rattle.piece.specs.declared.settings.Settings.{Settings}
use Rattle.piece.specs.Kinds.{is_free, is_structure}
use Rattle.piece.specs.Sides.{is_horizontal}
use Rattle.tree.specs.Sound.{max_number, Sided}
use Rattle.tree.proofs.Pieces.{sided}
use Rattle.table.specs.declared.Node.{Node}
use Rattle.table.specs.Table.{at, mk, zero_datum, zero_node}
use Rattle.sound.specs.Places.{zero_datum_b, zero_links_b, zero_b, sided_b, leaf_b, kind_b, place_b, places_b, top_datum_b, top_links_b, top_b}
use Rattle.sound.proofs.Says.{Says, clash, worded, eq-says, lt-says, le-says, some-says, true-says, false-says, and-says, if-says, every-says}

free-says : (κ : Kind) → Says (is_free κ) (κ ≡ Free)
free-says Free = true-says refl
free-says Part = worded false-says absurd (λ e. clash (cc))
free-says Structure = worded false-says absurd (λ e. clash (cc))

pub structure-says : (κ : Kind) → Says (is_structure κ) (κ ≡ Structure)
structure-says Free = worded false-says absurd (λ e. clash (cc))
structure-says Part = worded false-says absurd (λ e. clash (cc))
structure-says Structure = true-says refl

horizontal-says : (c : Orientation) → Says (is_horizontal c) (c ≡ Horizontal)
horizontal-says Horizontal = true-says refl
horizontal-says Vertical = worded false-says absurd (λ e. clash (cc))

zero-datum-says : (d : Datum) → Says (zero_datum_b d) (d ≡ zero_datum)
unfolding zero_datum_b
zero-datum-says d =
    let s =
    and-says (eq-says d.serial 0) (and-says (eq-says d.size.width 0) (and-says (eq-says d.size.height 0)
    (and-says (eq-says d.number 0) (and-says (eq-says d.level 0) (and-says (eq-says d.eaten 0)
    (and-says (free-says d.kind) (horizontal-says d.cut)))))))
    in
    worded s
    (λ h i.
    record {
      serial = h.0 i;
      size = record { width = h.1.0 i; height = h.1.1.0 i };
      number = h.1.1.1.0 i;
      level = h.1.1.1.1.0 i;
      kind = h.1.1.1.1.1.1.0 i;
      cut = h.1.1.1.1.1.1.1 i;
      eaten = h.1.1.1.1.1.0 i;
    })
    (λ e. rw e (refl, (refl, (refl, (refl, (refl, (refl, (refl, refl))))))))

zero-links-says : (n : Node) → Says (zero_links_b n) (n ≡ mk n.datum 0 0 0 0 0)
unfolding zero_links_b
zero-links-says n =
    let s =
    and-says (eq-says n.parent 0) (and-says (eq-says n.first 0) (and-says (eq-says n.last 0)
    (and-says (eq-says n.prev 0) (eq-says n.next 0))))
    in
    worded s
    (λ h i. mk n.datum (h.0 i) (h.1.1.1.0 i) (h.1.0 i) (h.1.1.0 i) (h.1.1.1.1 i))
    (λ e. (
      ap (λ (x : Node). x.parent) e,
      (
        ap (λ (x : Node). x.first) e,
        (ap (λ (x : Node). x.last) e, (ap (λ (x : Node). x.prev) e, ap (λ (x : Node). x.next) e)),
      ),
    ))

zero-says : (n : Node) → Says (zero_b n) (n ≡ zero_node)
zero-says n =
    worded (and-says (zero-datum-says n.datum) (zero-links-says n))
    (λ h. h.1 ∙ ap (λ (d : Datum). mk d 0 0 0 0 0) h.0)
    (λ e. (ap (λ (x : Node). x.datum) e, rw e refl))

sided-says : (s : Size) → Says (sided_b s) (Sided s)
sided-says s = worded (and-says (le-says 1 s.width) (le-says 1 s.height)) (λ h. sided h.0 h.1) (λ h. (h.wide, h.tall))

-- no children
pub record Leaf (limit : ℕ) (n : Node) : Type 0 where
  pub first : n.first ≡ limit
  pub last : n.last ≡ limit

pub record FreeNode (limit : ℕ) (n : Node) : Type 0 where
  pub leaf : Leaf limit n
  pub unnumbered : n.datum.number ≡ 0
  pub next : n.next ≡ limit

pub record PartNode (limit : ℕ) (n : Node) : Type 0 where
  pub leaf : Leaf limit n
  pub numbered : n.datum.number ≤ max_number
  pub sided : Sided n.datum.size

pub record StructureNode (limit : ℕ) (n : Node) : Type 0 where
  pub first : n.first < limit
  pub unnumbered : n.datum.number ≡ 0
  pub sided : Sided n.datum.size

-- what a node of this kind shows
abbrev pub KindNode : ℕ → Kind → Node → Type 0
KindNode limit Free n = FreeNode limit n
KindNode limit Part n = PartNode limit n
KindNode limit Structure n = StructureNode limit n

module _ (limit : ℕ) (n : Node) where
  leaf-says : Says (leaf_b limit n) (Leaf limit n)
  leaf-says =
      worded (and-says (eq-says n.first limit) (eq-says n.last limit))
      (λ h. record { first = h.0; last = h.1 })
      (λ h. (h.first, h.last))

  kind-says : (κ : Kind) → Says (kind_b limit κ n) (KindNode limit κ n)
  kind-says Free =
      worded (and-says leaf-says (and-says (eq-says n.datum.number 0) (eq-says n.next limit)))
      (λ h. record { leaf = h.0; unnumbered = h.1.0; next = h.1.1 })
      (λ h. (h.leaf, (h.unnumbered, h.next)))
  kind-says Part =
      worded (and-says leaf-says (and-says (le-says n.datum.number max_number) (sided-says n.datum.size)))
      (λ h. record { leaf = h.0; numbered = h.1.0; sided = h.1.1 })
      (λ h. (h.leaf, (h.numbered, h.sided)))
  kind-says Structure =
      worded (and-says (lt-says n.first limit) (and-says (eq-says n.datum.number 0) (sided-says n.datum.size)))
      (λ h. record { first = h.0; unnumbered = h.1.0; sided = h.1.1 })
      (λ h. (h.first, (h.unnumbered, h.sided)))

-- what a place shows by itself
pub record Place (limit : ℕ) (n : Node) : Type 0 where
  pub empty : n.datum.serial ≡ 0 → n ≡ zero_node
  pub piece : 0 < n.datum.serial → KindNode limit n.datum.kind n

place-says : (limit : ℕ) (n : Node) → Says (place_b limit n) (Place limit n)
unfolding place_b
place-says limit n =
    worded (if-says (eq-says n.datum.serial 0) (zero-says n) (kind-says limit n n.datum.kind))
    (λ h. record { empty = h.0; piece = λ l. h.1 (λ e. omega arith) })
    (λ h. (h.empty, λ m. h.piece (omega arith)))

pub places-says : (limit : ℕ) (t : List Node) → Says (places_b limit t) ((i : ℕ) → i < limit → Place limit (at t i))
unfolding places_b
places-says limit t = every-says (λ i. place-says limit (at t i)) limit

-- what the top shows by itself
pub record TopNode (limit : ℕ) (settings : Settings) (n : Node) : Type 0 where
  pub held : 0 < n.datum.serial
  pub level : n.datum.level ≡ 0
  pub eaten : n.datum.eaten ≡ 0
  pub kind : n.datum.kind ≡ Structure
  pub size : n.datum.size ≡ settings.sheet
  pub parent : n.parent ≡ limit
  pub prev : n.prev ≡ limit
  pub next : n.next ≡ limit

pub top-says : (limit : ℕ) (settings : Settings) (n : Node) → Says (top_b limit settings n) (TopNode limit settings n)
unfolding top_b top_datum_b top_links_b
top-says limit settings n =
    let d =
    and-says (some-says n.datum.serial) (and-says (eq-says n.datum.level 0) (and-says (eq-says n.datum.eaten 0)
    (and-says (structure-says n.datum.kind)
    (and-says (eq-says n.datum.size.width settings.sheet.width) (eq-says n.datum.size.height settings.sheet.height)))))
    in
    let l = and-says (eq-says n.parent limit) (and-says (eq-says n.prev limit) (eq-says n.next limit)) in
    worded (and-says d l)
    (λ h.
    record {
      held = h.0.0;
      level = h.0.1.0;
      eaten = h.0.1.1.0;
      kind = h.0.1.1.1.0;
      size = λ i. record { width = h.0.1.1.1.1.0 i; height = h.0.1.1.1.1.1 i };
      parent = h.1.0;
      prev = h.1.1.0;
      next = h.1.1.1;
    })
    (λ h. (
      (h.held, (h.level, (h.eaten, (h.kind, (ap (λ (x : Size). x.width) h.size, ap (λ (x : Size). x.height) h.size))))),
      (h.parent, (h.prev, h.next)),
    ))
