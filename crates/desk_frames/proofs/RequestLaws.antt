-- Every request that fits its fields is read from its line at the desk. Rests on the same law over any table of forms in `frames`.
use mathlib.Core.Path.{◌≡◌, refl, sym, ap, ◌∙◌}
use mathlib.Core.Bool.{true, false}
use mathlib.Core.List.{List, [], ◌∷◌}
use Prim.Native.Nat.{ℕ, ◌+◌, ◌<◌, ◌≤◌}
use native.Mathlib.Omega.{arith}
use lib.ListN.{get_or}
use Rattle.hexadecimal.specs.Hex.{digit_of, letter_of, pair_of}
use Rattle.piece.proofs.Numbers.{turn-listed, turn-back}
use Rattle.frames.specs.declared.Request.{Request}
use Rattle.frames.specs.declared.Request.TheVariants.{Malformed}
use Rattle.frames.specs.Bytes.{pairs, chars_of, total, framed}
use Rattle.frames.specs.Fields.{widths}
use Rattle.frames.specs.Requests.{Form, bare_form, made_by, op_in, carried, carried_by, frame_of}
use Rattle.frames.specs.Ranges.{RequestFits}
use Rattle.frames.proofs.Laws.{by-test, pairs-chars, then, are-framed}
use Rattle.frames.proofs.Forms.{Fits, none, more, mark-fits, part-fits, are_written}
use Rattle.frames.proofs.RequestLaws.{table-asks, request-back}
use Rattle.desk_frames.specs.declared.Question.TheVariants.{WhyNot, RoomLight, FreePiece, RemovablePiece, PartNumbers, Figures, Snapshot, Cuts, EatenArea, Amounts}
use Rattle.desk_frames.specs.declared.DeskRequest.{DeskRequest}
use Rattle.desk_frames.specs.declared.DeskRequest.TheVariants.{Asks, Tidy, AtCounter}
use Rattle.desk_frames.specs.Requests.{is_own, malformed_line, why_not_form, light_form, position_form, question_form, desk_request_of, desk_carried_by, desk_frame_of}
use Rattle.desk_frames.specs.Ranges.{DeskRequestFits}
use Rattle.desk_frames.proofs.Superset.{not_own, own-at-counter}

-- ---- a question, or to tidy
module _ (op : ℕ) (f : Form DeskRequest) (vs : List ℕ) (is : question_form op ≡ f) (own : is_own op ≡ true) (small : op < 256)
    (fits : Fits f.fields vs) where
  op-back : op_in (chars_of (framed (carried op f vs))) ≡ op
  op-back = ap (λ (l : List ℕ). get_or l 0 0) (pairs-chars (framed (carried op f vs)) (are-framed (then small (are_written fits))).tested)

  asks : 2 + widths f.fields ≤ 32 → desk_request_of (chars_of (framed (carried op f vs))) ≡ made_by malformed_line f vs
  unfolding desk_request_of
  asks short = rw (ap is_own op-back ∙ own) (table-asks malformed_line question_form op f vs is small fits short)

-- ---- what the counter is asked: its ops are not the desk's own
malformed-op : is_own (op_in (frame_of Malformed)) ≡ false
unfolding pairs total chars_of carried_by digit_of letter_of pair_of
malformed-op = refl

counters-op : (q : Request) → RequestFits q → is_own (op_in (frame_of q)) ≡ false
counters-op q f =
    by-test (is_own (op_in (frame_of q)))
    (λ e.
    let m : q ≡ Malformed = sym (request-back q f) ∙ own-at-counter (frame_of q) e in
    ap (λ (p : Request). is_own (op_in (frame_of p))) m ∙ malformed-op)
    (λ e. e)

-- ---- each request
pub desk-request-back : (q : DeskRequest) → DeskRequestFits q → desk_request_of (desk_frame_of q) ≡ q
unfolding desk_carried_by question_form
desk-request-back (Asks (WhyNot m p)) f =
    asks 17 why_not_form _ refl refl (omega arith) (mark-fits (part-fits none p f.1) m f.0) (omega arith)
    ∙ rw (turn-listed p.fixed_rotation, turn-back p.fixed_rotation) refl
desk-request-back (Asks (RoomLight p)) f =
    asks 18 light_form _ refl refl (omega arith) (part-fits none p f) (omega arith) ∙ rw (turn-listed p.fixed_rotation, turn-back p.fixed_rotation) refl
desk-request-back (Asks (FreePiece k)) f = asks 19 (position_form FreePiece) (k ∷ []) refl refl (omega arith) (more f none) (omega arith)
desk-request-back (Asks (RemovablePiece k)) f = asks 20 (position_form RemovablePiece) (k ∷ []) refl refl (omega arith) (more f none) (omega arith)
desk-request-back (Asks PartNumbers) f = asks 21 (bare_form (Asks PartNumbers)) [] refl refl (omega arith) none (omega arith)
desk-request-back (Asks Figures) f = asks 22 (bare_form (Asks Figures)) [] refl refl (omega arith) none (omega arith)
desk-request-back (Asks Snapshot) f = asks 23 (bare_form (Asks Snapshot)) [] refl refl (omega arith) none (omega arith)
desk-request-back (Asks Cuts) f = asks 24 (bare_form (Asks Cuts)) [] refl refl (omega arith) none (omega arith)
desk-request-back (Asks EatenArea) f = asks 25 (bare_form (Asks EatenArea)) [] refl refl (omega arith) none (omega arith)
desk-request-back (Asks Amounts) f = asks 26 (bare_form (Asks Amounts)) [] refl refl (omega arith) none (omega arith)
desk-request-back Tidy f = asks 27 (bare_form Tidy) [] refl refl (omega arith) none (omega arith)
desk-request-back (AtCounter q) f = not_own (frame_of q) (counters-op q f) ∙ ap AtCounter (request-back q f)
