-- What each call that only reads answers: document 01's rule in the terms of the tree and the lists, after the refusals in their order.
use Rattle.std.specs.Prelude.{List, Bool, true, cond, ◌&&◌, ℕ, ltb, get_or, Result, Ok, Err, Float}
use Rattle.piece.specs.declared.parttype.PartType.{PartType}
use Rattle.piece.specs.Sides.{area}
use Rattle.piece.specs.Offers.{as_offer_list, offers_of}
use Rattle.piece.specs.Row.{nil, grow}
use Rattle.piece.specs.Kinds.{is_free}
use Rattle.tree.specs.Tree.{Tree, count}
use Rattle.tree.specs.Figures.{part_area, free_area, eaten_area, sheet_usage, tree_usage}
use Rattle.table.specs.Table.{at}
use Rattle.marks.specs.declared.Mark.{Mark}
use Rattle.marks.specs.declared.Refusal.{Refusal}
use Rattle.marks.specs.declared.Refusal.TheVariants.{NotSound, PastTheEnd}
use Rattle.layout.specs.declared.layout.Layout.{Layout}
use Rattle.piece.specs.declared.node.Datum.{Datum}
use Rattle.layout.specs.Check.{tree, sound_b}
use Rattle.layout.specs.Asked.{free_piece_of}
use Rattle.piece.specs.declared.insertion_option.OfferList.{OfferList}

-- ---- Figures: refusal 1

unfoldable pub used_area_of : Layout → Result ℕ Refusal
used_area_of l = cond (sound_b l) (Ok (part_area (tree l))) (Err NotSound)

unfoldable pub free_area_of : Layout → Result ℕ Refusal
free_area_of l = cond (sound_b l) (Ok (free_area (tree l))) (Err NotSound)

-- document 02, No. 4
unfoldable pub eaten_area_of : Layout → Result ℕ Refusal
eaten_area_of l = cond (sound_b l) (Ok (eaten_area (tree l))) (Err NotSound)

unfoldable pub nodes_held_of : Layout → Result ℕ Refusal
nodes_held_of l = cond (sound_b l) (Ok (count (tree l))) (Err NotSound)

unfoldable pub sheet_usage_of : Layout → Result Float Refusal
sheet_usage_of l =
    cond (sound_b l) (Ok (sheet_usage (part_area (tree l)) (area l.settings.sheet))) (Err NotSound)

unfoldable pub tree_usage_of : Layout → Result Float Refusal
tree_usage_of l = cond (sound_b l) (Ok (tree_usage (tree l))) (Err NotSound)

-- no node has a part or a child: "`is_empty` is no on every sound layout"
abbrev pub all_free : Tree → Bool
all_free nil = true
all_free (grow p d k r) = is_free d.kind && (all_free k && all_free r)

unfoldable pub is_empty_of : Layout → Result Bool Refusal
is_empty_of l = cond (sound_b l) (Ok (all_free (tree l))) (Err NotSound)

-- ---- The two lists: "a position gives a mark"; refusals 1, 12

-- the mark of the piece at a place
abbrev pub mark_of : Layout → ℕ → Mark
mark_of l p = record { layout = l.number; place = p; serial = (at l.nodes p).datum.serial }

abbrev pub mark_at_position : Layout → List ℕ → ℕ → ℕ → Result Mark Refusal
mark_at_position l list n k =
    cond (sound_b l) (cond (ltb k n) (Ok (mark_of l (get_or list k 0))) (Err PastTheEnd)) (Err NotSound)

unfoldable pub free_mark_of : Layout → ℕ → Result Mark Refusal
free_mark_of l k = mark_at_position l l.free l.frees k

unfoldable pub removable_mark_of : Layout → ℕ → Result Mark Refusal
removable_mark_of l k = mark_at_position l l.removable l.removables k

-- ---- Offers on a mark, after the head of a call on a free piece: refusals 1, 3, 4, 5, 6

abbrev pub offered_for : Layout → PartType → Result Datum Refusal → Result OfferList Refusal
offered_for l p (Err r) = Err r
offered_for l p (Ok d) = Ok (as_offer_list (offers_of d p l.settings))

unfoldable pub offers_call : Layout → Mark → PartType → Result OfferList Refusal
offers_call l m p = offered_for l p (free_piece_of l m p)

-- how many offers an answer has: none where it is refused
abbrev pub offers_count : Result OfferList Refusal → ℕ
offers_count (Err r) = 0
offers_count (Ok o) = o.count
