-- What a call is asked about: a part outside the domain (refusal 3), a mark of another layout or one that is gone (4 and 5), and the head of a call
-- on a free piece, offers or insert: refusals 1, 3, 4, 5, 6.
use Rattle.std.specs.Prelude.{Bool, cond, not, ◌&&◌, ◌||◌, eqb, leb, Result, Ok, Err}
use Rattle.piece.specs.declared.parttype.PartType.{PartType}
use Rattle.piece.specs.Kinds.{is_free}
use Rattle.table.specs.Table.{at}
use Rattle.marks.specs.declared.Mark.{Mark}
use Rattle.marks.specs.declared.Refusal.TheVariants.{NotSound, PartOutside, OtherLayout, Gone, NotFree}
use Rattle.layout.specs.declared.layout.Layout.{Layout}
use Rattle.marks.specs.declared.Refusal.{Refusal}
use Rattle.piece.specs.declared.node.Datum.{Datum}
use Rattle.layout.specs.Check.{limit, side_b, sound_b}

-- refusal 3: "part side outside the domain"
abbrev pub part_b : PartType → Bool
part_b p = side_b p.size.width && side_b p.size.height

-- refusals 4 and 5: "mark or snapshot has another layout number"; "gone: place not held, or another serial there"
abbrev pub gone_b : Layout → Mark → Bool
gone_b l m =
    leb limit m.place
    || (eqb (at l.nodes m.place).datum.serial 0 || not (eqb (at l.nodes m.place).datum.serial m.serial))

unfoldable pub sought_of : Layout → Mark → Result Datum Refusal
sought_of l m =
    cond (eqb m.layout l.number) (cond (gone_b l m) (Err Gone) (Ok (at l.nodes m.place).datum))
    (Err OtherLayout)

-- refusal 6: "offers or insert on a node that isn't free"
abbrev pub only_free : Result Datum Refusal → Result Datum Refusal
only_free (Err r) = Err r
only_free (Ok d) = cond (is_free d.kind) (Ok d) (Err NotFree)

-- the free piece that a mark names, for a part: "tested in this order; each is given exactly on its condition"
unfoldable pub free_piece_of : Layout → Mark → PartType → Result Datum Refusal
free_piece_of l m p =
    cond (sound_b l) (cond (part_b p) (only_free (sought_of l m)) (Err PartOutside)) (Err NotSound)
