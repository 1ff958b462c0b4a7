-- Every request that fits its fields is read from its line; and so it is by any table of forms. Rests on Forms.
use Rattle.std.proofs.Common.{◌≡◌, ℕ, ◌+◌, ◌%◌, ◌<◌, ◌≤◌, true, List, [], ◌∷◌, length, get_or, sym, refl, ap, ◌∙◌, arith, length-append, eq-eqb, le-leb}
use Rattle.hexadecimal.specs.Hex.{digit_of, letter_of, pair_of}
use Rattle.frames.specs.declared.Ask.TheVariants.{Open, Offers, Insert, Remove, Report}
use Rattle.piece.proofs.Numbers.{cut_small, rotation-small, shape-small, cut-listed, turn-listed, rotation-listed, shape-listed, cut-back, turn-back, rotation-back, shape-back}
use Rattle.frames.specs.declared.Request.{Request}
use Rattle.frames.specs.declared.Request.TheVariants.{OfLayout, Keep, Restore, Malformed}
use Rattle.frames.specs.Bytes.{pairs, all_bytes, chars_of, total, check_of, framed}
use Rattle.frames.specs.Fields.{widths, values}
use Rattle.frames.specs.Requests.{Form, open_form, offers_form, insert_form, remove_form, bare_form, form_of, form_length, made_by, read_by, request_made}
use Rattle.frames.specs.Requests.{is_frame, line_asks, request_of, carried, carried_by, frame_of}
use Rattle.frames.specs.Ranges.{RequestFits}
use Rattle.frames.proofs.Lists.{length-chars}
use Rattle.frames.proofs.Laws.{framed-adds, pairs-chars, then, are-framed}
use Rattle.frames.proofs.Forms.{Fits, none, more, mark-fits, part-fits, values-drop, values-back, length-written, are_written}

-- ---- numbers that fit the fields of an op are read from its frame, by any table of forms
module _ {A : Type 0} (bad : A) (forms : ℕ → Form A) where
  module _ (bs : List ℕ) (bytes : all_bytes bs ≡ true) (short : length bs ≤ 32) (adds : total bs % 256 ≡ 0)
      (long : length bs ≡ form_length (forms (get_or bs 0 0))) where
    back : pairs (chars_of bs) ≡ bs
    back = pairs-chars bs bytes

    is-frame : is_frame (chars_of bs) ≡ true
    unfolding is_frame
    is-frame =
        rw (
          le-leb (length (chars_of bs)) 64 (omega (arith, length-chars bs)),
          eq-eqb (length (chars_of bs) % 2) 0 (omega (arith, length-chars bs)),
          back,
          bytes,
          eq-eqb (total bs % 256) 0 adds,
        ) refl

    line-asks : line_asks bad forms (chars_of bs) ≡ read_by bad (forms (get_or bs 0 0)) bs
    line-asks = rw (is-frame, back, eq-eqb (length bs) (form_length (forms (get_or bs 0 0))) long) refl

  module _ (op : ℕ) (f : Form A) (vs : List ℕ) (is : forms op ≡ f) (small : op < 256) (fits : Fits f.fields vs) where
    abbrev bytes : List ℕ
    bytes = carried op f vs

    long : length (framed bytes) ≡ 2 + widths f.fields
    long = omega (arith, length-append bytes (check_of bytes ∷ []), length-written fits)

    read : values f.fields (framed bytes) 1 ≡ vs
    read = sym (values-drop f.fields (framed bytes) 1) ∙ values-back fits (check_of bytes ∷ [])

    pub table-asks : 2 + widths f.fields ≤ 32 → line_asks bad forms (chars_of (framed bytes)) ≡ made_by bad f vs
    table-asks short =
        line-asks (framed bytes) (are-framed (then small (are_written fits))).tested (omega (arith, long)) (framed-adds bytes)
        (long ∙ ap (λ (g : Form A). 2 + widths g.fields) (sym is))
        ∙ ap (λ (g : Form A). read_by bad g (framed bytes)) is
        ∙ ap (made_by bad f) read

-- ---- each op of the counter's
asks : (op : ℕ) (f : Form Request) (vs : List ℕ) → form_of op ≡ f → op < 256 → Fits f.fields vs → 2 + widths f.fields ≤ 32
    → request_of (chars_of (framed (carried op f vs))) ≡ request_made f vs
unfolding request_of
asks = table-asks Malformed form_of

-- the line of no bytes but a check
malformed-back : request_of (frame_of Malformed) ≡ Malformed
unfolding request_of is_frame pairs all_bytes total form_of chars_of carried_by digit_of letter_of pair_of
malformed-back = refl

pub request-back : (q : Request) → RequestFits q → request_of (frame_of q) ≡ q
unfolding carried_by form_of
request-back (OfLayout (Open o)) f =
    asks 1 open_form _ refl (omega arith)
    (more f.number (more f.sheet.width (more f.sheet.height (more (cut_small o.cut) (more f.stages (more f.blade none)))))) (omega arith)
    ∙ rw (cut-listed o.cut, cut-back o.cut) refl
request-back (OfLayout (Offers m p)) f =
    asks 2 offers_form _ refl (omega arith) (mark-fits (part-fits none p f.1) m f.0) (omega arith) ∙ rw (turn-listed p.fixed_rotation, turn-back p.fixed_rotation) refl
request-back (OfLayout (Insert m p r s)) f =
    asks 3 insert_form _ refl (omega arith) (mark-fits (part-fits (more (rotation-small r) (more (shape-small s) none)) p f.1) m f.0) (omega arith)
    ∙ rw (turn-listed p.fixed_rotation, rotation-listed r, shape-listed s, turn-back p.fixed_rotation, rotation-back r, shape-back s) refl
request-back (OfLayout (Remove m)) f = asks 4 remove_form _ refl (omega arith) (mark-fits none m f) (omega arith)
request-back (OfLayout Report) f = asks 7 (bare_form (OfLayout Report)) [] refl (omega arith) none (omega arith)
request-back Keep f = asks 5 (bare_form Keep) [] refl (omega arith) none (omega arith)
request-back Restore f = asks 6 (bare_form Restore) [] refl (omega arith) none (omega arith)
request-back Malformed f = malformed-back
