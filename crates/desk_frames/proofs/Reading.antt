-- What `read::request` answers at each exit, over any line: no frame, an op that is not the desk's own, and those of a reader by the desk's forms.
-- Rests on the exits of such a reader in `frames`.
use mathlib.Core.Path.{◌≡◌, refl, sym, ap, ◌∙◌}
use mathlib.Core.Bool.{Bool, true, false}
use mathlib.Core.List.{List}
use Prim.Native.Nat.{ℕ}
use lib.ListN.{get_or}
use Rattle.std.proofs.Common.{Some, None}
use Rattle.frames.specs.declared.Request.TheVariants.{Malformed}
use Rattle.frames.specs.declared.read.Frame.{Frame}
use Rattle.frames.specs.Requests.{form_of, op_in, request_of}
use Rattle.frames.specs.Framing.{ReadsFrame}
use Rattle.frames.proofs.Laws.{by-test}
use Rattle.frames.proofs.Requests.{no-frame, op-read, wrong-length, well}
use Rattle.desk_frames.specs.declared.DeskRequest.TheVariants.{AtCounter}
use Rattle.desk_frames.specs.Requests.{is_own, malformed_line, question_form, desk_length_of, desk_asked_by, desk_request_of}

module _ (line : List ℕ) where
  pub no-desk-frame : ReadsFrame line None → malformed_line ≡ desk_request_of line
  unfolding desk_request_of request_of
  no-desk-frame h =
      by-test (is_own (op_in line)) (λ e. rw e (no-frame malformed_line question_form line h)) (λ e. rw e (ap AtCounter (no-frame Malformed form_of line h)))

  module _ {f : Frame} (r : ReadsFrame line (Some f)) where
    is-own : {b : Bool} → is_own (get_or f.bytes 0 0) ≡ b → is_own (op_in line) ≡ b
    is-own h = ap is_own (sym (op-read malformed_line question_form line r)) ∙ h

    pub counters-op : is_own (get_or f.bytes 0 0) ≡ false → AtCounter (request_of line) ≡ desk_request_of line
    unfolding desk_request_of
    counters-op h = rw (is-own h) refl

    module _ (own : is_own (get_or f.bytes 0 0) ≡ true) where
      pub wrong-desk-length : (f.count ≡ desk_length_of (get_or f.bytes 0 0) → ⊥) → malformed_line ≡ desk_request_of line
      unfolding desk_request_of desk_length_of
      wrong-desk-length h = rw (is-own own) (wrong-length malformed_line question_form line r h)

      pub well-asked : f.count ≡ desk_length_of (get_or f.bytes 0 0) → desk_asked_by (get_or f.bytes 0 0) f.bytes ≡ desk_request_of line
      unfolding desk_request_of desk_length_of desk_asked_by
      well-asked h = rw (is-own own) (well malformed_line question_form line r h)
