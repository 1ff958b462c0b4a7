-- Where the last field of a mark and of a part stands, added up; and the last exit of `read::insert`, over any values: its tests passed, its fields read.
use Rattle.std.proofs.Common.{◌≡◌, ℕ, ◌+◌, ◌≤◌, Bool, true, false, Ok, Err, List, get_or, sym, refl, ◌∙◌, arith, le-leb}
use Rattle.piece.specs.declared.unlisted.Unlisted.{Unlisted}
use Rattle.piece.specs.declared.rotation.Rotation.{Rotation}
use Rattle.piece.specs.declared.parttype.PartType.{PartType}
use Rattle.piece.specs.declared.insertion_blueprint.InsertionShape.{InsertionShape}
use Rattle.piece.specs.Numbers.{rotation_of, shape_of, rotation_listed, shape_listed, if_listed, listed_rotation, listed_shape}
use Rattle.marks.specs.declared.Mark.{Mark}
use Rattle.frames.specs.declared.Ask.TheVariants.{Insert}
use Rattle.frames.specs.declared.Request.TheVariants.{OfLayout}
use Rattle.frames.specs.Fields.{mark_at, part_at}
use Rattle.frames.specs.Requests.{read_insert}

pub serial-place : (i : ℕ) → i + 2 + 1 ≡ i + 3
serial-place i = omega arith

pub turn-place : (i : ℕ) → i + 2 + 4 + 4 ≡ i + 10
turn-place i = omega arith

-- what a number that was read says: it is listed and its value, or it is not listed
pub is_listed : {A : Type 0} (listed : Bool) (a x : A) → Ok x ≡ if_listed listed a → (listed ≡ true) × (x ≡ a)
is_listed true a x e = (refl, cc)
is_listed false a x e = cc

pub not-listed : {A : Type 0} (listed : Bool) (a : A) (u : Unlisted) → Err u ≡ if_listed listed a → listed ≡ false
not-listed false a u e = refl
not-listed true a u e = cc

module _ (b : List ℕ) where
  all_listed : get_or b 18 0 ≤ 2 → rotation_listed (get_or b 19 0) ≡ true → shape_listed (get_or b 20 0) ≡ true
      → read_insert b ≡ OfLayout (Insert (mark_at b 1) (part_at b 8) (rotation_of (get_or b 19 0)) (shape_of (get_or b 20 0)))
  unfolding read_insert
  all_listed t r s = rw (le-leb (get_or b 18 0) 2 t, r, s) refl

  pub insert-read : (m : Mark) (p : PartType) (r : Rotation) (s : InsertionShape)
      → get_or b 18 0 ≤ 2 → Ok r ≡ listed_rotation (get_or b 19 0) → Ok s ≡ listed_shape (get_or b 20 0) → m ≡ mark_at b 1 → p ≡ part_at b 8
      → OfLayout (Insert m p r s) ≡ read_insert b
  insert-read m p r s t hr hs hm hp =
      let er = is_listed _ _ _ hr in
      let es = is_listed _ _ _ hs in
      let e : OfLayout (Insert m p r s) ≡ OfLayout (Insert (mark_at b 1) (part_at b 8) (rotation_of (get_or b 19 0)) (shape_of (get_or b 20 0))) = simp (hm, hp, er.1, es.1) in
      e ∙ sym (all_listed t er.0 es.0)
