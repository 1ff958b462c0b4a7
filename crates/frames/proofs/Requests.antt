-- What `read::frame_in` finds at each exit, over any line; and what a reader that goes by a table of forms answers at each of its own, over any table: the
-- counter's (`read::request`) and the desk's go by it. And bytes ask the same with zeros after them.
use Rattle.std.proofs.Common.{◌≡◌, ℕ, zero, suc, ◌+◌, ◌/◌, ◌%◌, ◌<◌, ◌≤◌, Bool, true, false, Some, None, ◌&&◌, eqb, leb, List, [], ◌∷◌, ◌++◌, length, get_or, drop, replicate, sym, refl, ap, ◌∙◌, arith, get_or-drop, eq-eqb, ne_eqb, le-leb, leb-true}
use lib.Seq.{sets-eq}
use borrow.Author.Tests.{lt-leb}
use Rattle.frames.specs.declared.read.Frame.{Frame}
use Rattle.frames.specs.Bytes.{pairs, all_bytes, total}
use Rattle.frames.specs.Requests.{Form, form_length, made_by, read_by, is_frame, op_in, line_asks}
use Rattle.frames.specs.Framing.{padded_bytes, ReadsFrame}
use Rattle.frames.proofs.Lists.{length_pairs}
use Rattle.frames.proofs.Laws.{first-true}
use Rattle.frames.proofs.Forms.{values_same}

all-zero : (n j : ℕ) → ◌≡◌ {A = ℕ} (get_or (replicate n 0) j 0) 0
all-zero zero j = refl
all-zero (suc n) zero = refl
all-zero (suc n) (suc j) = all-zero n j

with-zeros : (b z : List ℕ) → ((j : ℕ) → get_or z j 0 ≡ 0) → (i : ℕ) → get_or (b ++ z) i 0 ≡ get_or b i 0
with-zeros [] z none i = none i
with-zeros (x ∷ b) z none zero = refl
with-zeros (x ∷ b) z none (suc i) = with-zeros b z none i

pub held_at : (b : List ℕ) → length b ≤ 32 → (i : ℕ) → get_or (padded_bytes b) i 0 ≡ get_or b i 0
held_at b h i =
    ap (λ (l : List ℕ). get_or l i 0) (sets-eq b (replicate 32 0) 0 (omega arith))
    ∙ with-zeros b (drop (0 + length b) (replicate 32 0))
    (λ j. get_or-drop (0 + length b) (replicate 32 0) j 0 ∙ all-zero 32 (0 + length b + j)) i

-- ---- the exits of `frame_in`: each is a clause of `is_frame`
module _ (line : List ℕ) where
  pub too_long : 64 < length line → is_frame line ≡ false
  unfolding is_frame
  too_long h = rw (lt-leb (length line) 64 h) refl

  module _ (short : length line ≤ 64) where
    pub odd : (length line % 2 ≡ 0 → ⊥) → is_frame line ≡ false
    unfolding is_frame
    odd h = rw (le-leb (length line) 64 short, ne_eqb (length line % 2) 0 h) refl

    module _ (even : length line % 2 ≡ 0) where
      pub no_digit : all_bytes (pairs line) ≡ false → is_frame line ≡ false
      unfolding is_frame
      no_digit h = rw (le-leb (length line) 64 short, eq-eqb (length line % 2) 0 even, h) refl

      module _ (digits : all_bytes (pairs line) ≡ true) where
        pub wrong-sum : (total (pairs line) % 256 ≡ 0 → ⊥) → is_frame line ≡ false
        unfolding is_frame
        wrong-sum h = rw (le-leb (length line) 64 short, eq-eqb (length line % 2) 0 even, digits, ne_eqb (total (pairs line) % 256) 0 h) refl

        pub a-frame : total (pairs line) % 256 ≡ 0 → is_frame line ≡ true
        unfolding is_frame
        a-frame h = rw (le-leb (length line) 64 short, eq-eqb (length line % 2) 0 even, digits, eq-eqb (total (pairs line) % 256) 0 h) refl

  short-bytes : is_frame line ≡ true → length (pairs line) ≤ 32
  unfolding is_frame
  short-bytes h =
      let rest : Bool = eqb (length line % 2) 0 && (all_bytes (pairs line) && eqb (total (pairs line) % 256) 0) in
      let short = leb-true (length line) 64 (first-true (leb (length line) 64) rest h) in
      omega (arith, length_pairs line)

pub reads_none : {line : List ℕ} → is_frame line ≡ false → ReadsFrame line None
reads_none e = record { good = sym e; bytes = tt; count = tt }

pub reads-one : {line bytes : List ℕ} → is_frame line ≡ true → bytes ≡ padded_bytes (pairs line)
    → ReadsFrame line (Some (record { bytes = bytes; count = length line / 2 }))
reads-one {line} e b = record { good = sym e; bytes = b; count = sym (length_pairs line) }

-- ---- the exits of a reader that goes by a table of forms, and says what is bad where a line is malformed
module _ {A : Type 0} (bad : A) (forms : ℕ → Form A) (line : List ℕ) where
  -- only the bytes count, by their places
  read_same : (x b : List ℕ) → ((i : ℕ) → get_or x i 0 ≡ get_or b i 0) → (f : Form A) → read_by bad f x ≡ read_by bad f b
  read_same x b same f = ap (made_by bad f) (values_same x b same f.fields 1)

  pub no-frame : ReadsFrame line None → bad ≡ line_asks bad forms line
  no-frame r = rw (sym r.good) refl

  module _ {f : Frame} (r : ReadsFrame line (Some f)) where
    is-frame : is_frame line ≡ true
    is-frame = sym r.good

    held : (i : ℕ) → get_or f.bytes i 0 ≡ get_or (pairs line) i 0
    held i = ap (λ (l : List ℕ). get_or l i 0) (r.bytes) ∙ held_at (pairs line) (short-bytes line is-frame) i

    pub op-read : get_or f.bytes 0 0 ≡ op_in line
    op-read = held 0

    length-is : form_length (forms (get_or f.bytes 0 0)) ≡ form_length (forms (op_in line))
    length-is = ap (λ (op : ℕ). form_length (forms op)) op-read

    pub wrong-length : (f.count ≡ form_length (forms (get_or f.bytes 0 0)) → ⊥) → bad ≡ line_asks bad forms line
    wrong-length h =
        let not : length (pairs line) ≡ form_length (forms (op_in line)) → ⊥ = λ e. h (r.count ∙ e ∙ sym length-is) in
        rw (is-frame, ne_eqb (length (pairs line)) (form_length (forms (op_in line))) not) refl

    pub well : f.count ≡ form_length (forms (get_or f.bytes 0 0)) → read_by bad (forms (get_or f.bytes 0 0)) f.bytes ≡ line_asks bad forms line
    well h =
        let yes : length (pairs line) ≡ form_length (forms (op_in line)) = sym (r.count) ∙ h ∙ length-is in
        ap (λ (op : ℕ). read_by bad (forms op) f.bytes) op-read
        ∙ read_same f.bytes (pairs line) held (forms (op_in line))
        ∙ sym (rw (is-frame, eq-eqb (length (pairs line)) (form_length (forms (op_in line))) yes) refl)
