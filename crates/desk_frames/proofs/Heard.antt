-- The other way round: a line that is not malformed at the desk is the frame of what it asks. So each request has one line, and every other line is
-- malformed. Rests on the same law over any table of forms in `frames`.
use mathlib.Core.Path.{◌≡◌, refl, ap}
use mathlib.Core.Logic.{◌⊎◌, inl, inr, ⊎_elim}
use mathlib.Core.Bool.{true}
use mathlib.Core.List.{List, [], ◌∷◌}
use Prim.Native.Nat.{ℕ}
use lib.Dec.{eqb}
use borrow.Author.Tests.{eqb-true}
use Rattle.piece.specs.Numbers.{turn_listed}
use Rattle.piece.proofs.Numbers.{turn-stays}
use Rattle.frames.specs.Requests.{Form, bare_form, op_in, request_of}
use Rattle.frames.proofs.Laws.{by-test, first-true}
use Rattle.frames.proofs.Forms.{none, more}
use Rattle.frames.proofs.Heard.{Meaning, HeardBy, bare-means, table-heard, heard, request-fits}
use Rattle.desk_frames.specs.declared.Question.TheVariants.{FreePiece, RemovablePiece, PartNumbers, Figures, Snapshot, Cuts, EatenArea, Amounts}
use Rattle.desk_frames.specs.declared.DeskRequest.{DeskRequest}
use Rattle.desk_frames.specs.declared.DeskRequest.TheVariants.{Asks, Tidy, AtCounter}
use Rattle.desk_frames.specs.Requests.{is_own, malformed_line, why_not_form, light_form, position_form, question_form, desk_request_of, desk_carried_by, desk_frame_of}
use Rattle.desk_frames.specs.Ranges.{DeskRequestFits}

-- ---- each op of the desk's own
abbrev Meant : ℕ → Form DeskRequest → Type 0
Meant op f = Meaning malformed_line desk_carried_by DeskRequestFits op f

why-not-meant : Meant 17 why_not_form
unfolding desk_carried_by
why-not-meant vs (more a (more b (more c (more d (more e (more f (more {v = n} g none))))))) h =
    let k = turn-stays n (first-true (turn_listed n) true h) in
    record {
      carries = inr (rw k refl);
      fits = (record { layout = a; place = b; serial = c }, record { number = d; size = record { width = e; height = f } });
    }

light-meant : Meant 18 light_form
unfolding desk_carried_by
light-meant vs (more d (more e (more f (more {v = n} g none)))) h =
    let k = turn-stays n (first-true (turn_listed n) true h) in
    record { carries = inr (rw k refl); fits = record { number = d; size = record { width = e; height = f } } }

free-meant : Meant 19 (position_form FreePiece)
unfolding desk_carried_by
free-meant vs (more a none) h = record { carries = inr refl; fits = a }

removable-meant : Meant 20 (position_form RemovablePiece)
unfolding desk_carried_by
removable-meant vs (more a none) h = record { carries = inr refl; fits = a }

bare-meant : (op : ℕ) (q : DeskRequest) → (q ≡ malformed_line) ⊎ (desk_carried_by q ≡ op ∷ []) → DeskRequestFits q → Meant op (bare_form q)
bare-meant = bare-means malformed_line desk_carried_by DeskRequestFits tt

question-meant : (op : ℕ) → Meant op (question_form op)
unfolding question_form desk_carried_by
question-meant op =
    by-test (eqb op 17) (λ e. rw (eqb-true op 17 e) why-not-meant)
    (λ e17. by-test (eqb op 18) (λ e. rw (eqb-true op 18 e) light-meant)
    (λ e18. by-test (eqb op 19) (λ e. rw (eqb-true op 19 e) free-meant)
    (λ e19. by-test (eqb op 20) (λ e. rw (eqb-true op 20 e) removable-meant)
    (λ e20. by-test (eqb op 21) (λ e. rw (eqb-true op 21 e) (bare-meant 21 (Asks PartNumbers) (inr refl) tt))
    (λ e21. by-test (eqb op 22) (λ e. rw (eqb-true op 22 e) (bare-meant 22 (Asks Figures) (inr refl) tt))
    (λ e22. by-test (eqb op 23) (λ e. rw (eqb-true op 23 e) (bare-meant 23 (Asks Snapshot) (inr refl) tt))
    (λ e23. by-test (eqb op 24) (λ e. rw (eqb-true op 24 e) (bare-meant 24 (Asks Cuts) (inr refl) tt))
    (λ e24. by-test (eqb op 25) (λ e. rw (eqb-true op 25 e) (bare-meant 25 (Asks EatenArea) (inr refl) tt))
    (λ e25. by-test (eqb op 26) (λ e. rw (eqb-true op 26 e) (bare-meant 26 (Asks Amounts) (inr refl) tt))
    (λ e26. by-test (eqb op 27) (λ e. rw (eqb-true op 27 e) (bare-meant 27 Tidy (inr refl) tt))
    (λ e27. rw (e17, e18, e19, e20, e21, e22, e23, e24, e25, e26, e27) (bare-meant op malformed_line (inl refl) tt))))))))))))

-- ---- every line
module _ (line : List ℕ) where
  at-counter : HeardBy malformed_line desk_carried_by DeskRequestFits line (AtCounter (request_of line))
  unfolding desk_carried_by
  at-counter = record { frame = ⊎_elim (λ m. inl (ap AtCounter m)) inr (heard line); fits = request-fits line }

  line-heard : HeardBy malformed_line desk_carried_by DeskRequestFits line (desk_request_of line)
  unfolding desk_request_of
  line-heard =
      by-test (is_own (op_in line)) (λ e. rw e (table-heard malformed_line desk_carried_by DeskRequestFits tt question_form question-meant line)) (λ e. rw e at-counter)

  pub desk-heard : (desk_request_of line ≡ malformed_line) ⊎ (line ≡ desk_frame_of (desk_request_of line))
  desk-heard = line-heard.frame

  -- and a line asks only what fits
  pub desk-request-fits : DeskRequestFits (desk_request_of line)
  desk-request-fits = line-heard.fits
