-- Every mark that a call answers names a piece of the state that the call gave, or in which it was asked. Assumes nothing.
use mathlib.Core.List.{List}
use Rattle.marks.specs.declared.Mark.{Mark}
use Rattle.layout.specs.declared.layout.Layout.{Layout}
use Rattle.layout.specs.SoundLayout.{SoundLayout, Sized}
use Rattle.demands.specs.Life.{Given, by_open, by_insert_first, by_insert_part, by_insert_free, by_remove, by_free_list, by_removable_list, Later, Life, NamesPiece}
use Rattle.demands.proofs.Lives.{states-sound}
use Rattle.demands.proofs.Marks.{later-both}
use Rattle.demands.proofs.MarksNamed.{open-mark-names, insert-marks-name, remove-mark-names, free-position-names, removable-position-names}

pub named : {k : Layout} {m : Mark} → Sized k → SoundLayout k → Given k m → NamesPiece k m
named sized sound (by_open o m h) = (open-mark-names o m h).names
named sized sound (by_insert_first l n p r s a w h d) = (insert-marks-name l n p r s a w h d).first
named sized sound (by_insert_part l n p r s a w h d) = (insert-marks-name l n p r s a w h d).part.names
named sized sound (by_insert_free l n p r s a w h d m i) = ((insert-marks-name l n p r s a w h d).frees m i).names
named sized sound (by_remove l n room a w h d) = (remove-mark-names l n room a w h d).names
named sized sound (by_free_list l i m h) = (free-position-names l sized sound i m h).names
named sized sound (by_removable_list l i m h) = (removable-position-names l sized sound i m h).0

pub given-names : {ls : List Layout} → Life ls → (k l : Layout) → Later k l ls → (m : Mark) → Given k m → NamesPiece k m
given-names {ls} life k l later m g =
    let h = states-sound life k (later-both k l ls later).0 in named h.1 h.0 g
