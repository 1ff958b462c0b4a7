-- The desk takes the counter's lines as the counter does: a line whose op is not the desk's own asks what it asks at the counter, and there an op of the
-- desk's own is malformed.
use mathlib.Core.Path.{◌≡◌, refl, sym, ap, ◌∙◌}
use mathlib.Core.Bool.{Bool, true, false, cond, ◌&&◌}
use mathlib.Core.List.{List}
use Prim.Native.Nat.{ℕ, ◌<◌, ◌≤◌}
use native.Mathlib.Omega.{arith}
use lib.Dec.{eqb, leb}
use lib.ListN.{length}
use borrow.Author.Tests.{ne_eqb, leb-true, eqb-true}
use Rattle.frames.specs.declared.Request.{Request}
use Rattle.frames.specs.declared.Request.TheVariants.{Malformed}
use Rattle.frames.specs.Bytes.{pairs}
use Rattle.frames.specs.Fields.{values, all_listed, applied_to}
use Rattle.frames.specs.Requests.{Form, bare_form, form_of, form_length, made_by, read_by, is_frame, op_in, fits_forms, line_asks, request_of}
use Rattle.frames.proofs.Laws.{by-test, first-true}
use Rattle.desk_frames.specs.declared.DeskRequest.{DeskRequest}
use Rattle.desk_frames.specs.declared.DeskRequest.TheVariants.{Asks, Tidy, AtCounter}
use Rattle.desk_frames.specs.Requests.{is_own, malformed_line, question_form, why_not_form, light_form, desk_request_of}

-- an op past the counter's asks nothing there
form-none : (op : ℕ) → 7 < op → form_of op ≡ bare_form Malformed
unfolding form_of
form-none op h =
    rw (
      ne_eqb op 1 (λ e. omega arith),
      ne_eqb op 2 (λ e. omega arith),
      ne_eqb op 3 (λ e. omega arith),
      ne_eqb op 4 (λ e. omega arith),
      ne_eqb op 5 (λ e. omega arith),
      ne_eqb op 6 (λ e. omega arith),
      ne_eqb op 7 (λ e. omega arith),
    ) refl

either_way : (b : Bool) → cond b Malformed Malformed ≡ Malformed
either_way true = refl
either_way false = refl

-- THE COUNTER'S LINES
pub not_own : (line : List ℕ) → is_own (op_in line) ≡ false → desk_request_of line ≡ AtCounter (request_of line)
unfolding desk_request_of
not_own line e = rw e refl

-- THE DESK'S OWN, at the counter
pub own-at-counter : (line : List ℕ) → is_own (op_in line) ≡ true → request_of line ≡ Malformed
unfolding request_of
own-at-counter line e =
    let h : 17 ≤ op_in line = leb-true 17 (op_in line) (first-true (leb 17 (op_in line)) (leb (op_in line) 27) e) in
    ap (λ (g : Form Request). cond (is_frame line && eqb (length (pairs line)) (form_length g)) (read_by Malformed g (pairs line)) Malformed)
    (form-none (op_in line) (omega arith))
    ∙ either_way (is_frame line && eqb (length (pairs line)) 2)

-- ---- what a request at the desk is at the counter: a question is malformed there, and so is tidying
abbrev pub at_counter : DeskRequest → Request
at_counter (Asks q) = Malformed
at_counter Tidy = Malformed
at_counter (AtCounter q) = q

made : (f : Form DeskRequest) (vs : List ℕ) → at_counter (applied_to f.fields f.asks vs) ≡ Malformed → at_counter (made_by malformed_line f vs) ≡ Malformed
made f vs h = by-test (all_listed f.fields vs) (λ e. rw e h) (λ e. rw e refl)

-- the desk's table asks a question, or to tidy, or nothing
reads-question : (op : ℕ) (b : List ℕ) → at_counter (read_by malformed_line (question_form op) b) ≡ Malformed
unfolding question_form
reads-question op b =
    by-test (eqb op 17) (λ e. rw (eqb-true op 17 e) (made why_not_form (values why_not_form.fields b 1) refl))
    (λ e17. by-test (eqb op 18) (λ e. rw (eqb-true op 18 e) (made light_form (values light_form.fields b 1) refl))
    (λ e18. by-test (eqb op 19) (λ e. rw (eqb-true op 19 e) refl)
    (λ e19. by-test (eqb op 20) (λ e. rw (eqb-true op 20 e) refl)
    (λ e20. by-test (eqb op 21) (λ e. rw (eqb-true op 21 e) refl)
    (λ e21. by-test (eqb op 22) (λ e. rw (eqb-true op 22 e) refl)
    (λ e22. by-test (eqb op 23) (λ e. rw (eqb-true op 23 e) refl)
    (λ e23. by-test (eqb op 24) (λ e. rw (eqb-true op 24 e) refl)
    (λ e24. by-test (eqb op 25) (λ e. rw (eqb-true op 25 e) refl)
    (λ e25. by-test (eqb op 26) (λ e. rw (eqb-true op 26 e) refl)
    (λ e26. by-test (eqb op 27) (λ e. rw (eqb-true op 27 e) refl)
    (λ e27. rw (e17, e18, e19, e20, e21, e22, e23, e24, e25, e26, e27) refl)))))))))))

line-question : (line : List ℕ) → at_counter (line_asks malformed_line question_form line) ≡ Malformed
line-question line = by-test (fits_forms question_form line) (λ e. rw e (reads-question (op_in line) (pairs line))) (λ e. rw e refl)

-- EVERY LINE asks at the counter what is asked of the counter at the desk
pub at-counter-is : (line : List ℕ) → at_counter (desk_request_of line) ≡ request_of line
unfolding desk_request_of
at-counter-is line = by-test (is_own (op_in line)) (λ e. rw e (line-question line ∙ sym (own-at-counter line e))) (λ e. rw e refl)
