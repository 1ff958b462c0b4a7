-- The other way round: a line that is not malformed is the frame of what it asks. So each request has one line, and every other line is malformed.
use Rattle.std.proofs.Common.{◌≡◌, ℕ, ◌+◌, ◌-◌, ◌/◌, ◌%◌, ◌<◌, ◌≤◌, Bool, true, ◌&&◌, eqb, ltb, leb, ◌⊎◌, List, [], ◌∷◌, ◌++◌, length, get_or, sym, refl, ap, ◌∙◌, ap₂, inl, inr, ⊎_elim, arith, ltb-false, ltb-true, le-ltb, lt-ltb, eqb-true, leb-false, leb-true}
use Rattle.piece.specs.Numbers.{cut_listed, turn_listed, rotation_listed, shape_listed}
use Rattle.piece.proofs.Numbers.{cut-stays, turn-stays, rotation-stays, shape-stays}
use Rattle.hexadecimal.specs.Hex.{digit_of, letter_of, pair_of}
use Rattle.hexadecimal.proofs.Pairs.{high-bad, low-bad, both-good}
use Rattle.frames.specs.declared.Ask.TheVariants.{Report}
use Rattle.frames.specs.declared.Request.{Request}
use Rattle.frames.specs.declared.Request.TheVariants.{OfLayout, Keep, Restore, Malformed}
use Rattle.frames.specs.Bytes.{pairs, all_bytes, chars_of, total, check_of, framed}
use Rattle.frames.specs.Fields.{widths, values, all_listed, applied_to}
use Rattle.frames.specs.Requests.{Form, open_form, offers_form, insert_form, remove_form, bare_form, form_of, form_length, read_by}
use Rattle.frames.specs.Requests.{is_frame, fits_forms, line_asks, request_of, carried, carried_by, frame_of}
use Rattle.frames.specs.Ranges.{RequestFits}
use Rattle.frames.proofs.Lists.{total-append}
use Rattle.frames.proofs.Laws.{by-test, first-true, second-true}
use Rattle.frames.proofs.Forms.{Fits, none, more, values-drop, all_drop, whole}

-- ---- characters
low : (c : ℕ) → c < 48 → digit_of c ≡ 16
unfolding digit_of
low c a = rw (lt-ltb c 48 a) refl

nought-to-nine : (c : ℕ) → 48 ≤ c → c < 58 → digit_of c ≡ c - 48
unfolding digit_of
nought-to-nine c a b = rw (le-ltb c 48 a, lt-ltb c 58 b) refl

between : (c : ℕ) → 58 ≤ c → c < 97 → digit_of c ≡ 16
unfolding digit_of
between c a b = rw (le-ltb c 48 (omega arith), le-ltb c 58 a, lt-ltb c 97 b) refl

a-to-f : (c : ℕ) → 97 ≤ c → c < 103 → digit_of c ≡ c - 87
unfolding digit_of
a-to-f c a b = rw (le-ltb c 48 (omega arith), le-ltb c 58 (omega arith), le-ltb c 97 a, lt-ltb c 103 b) refl

high : (c : ℕ) → 103 ≤ c → digit_of c ≡ 16
unfolding digit_of
high c a = rw (le-ltb c 48 (omega arith), le-ltb c 58 (omega arith), le-ltb c 97 (omega arith), le-ltb c 103 a) refl

small-letter : (d : ℕ) → d < 10 → letter_of d ≡ d + 48
unfolding letter_of
small-letter d h = rw (lt-ltb d 10 h) refl

large-letter : (d : ℕ) → 10 ≤ d → letter_of d ≡ d + 87
unfolding letter_of
large-letter d h = rw (le-ltb d 10 h) refl

letter-digit : (c : ℕ) → digit_of c < 16 → letter_of (digit_of c) ≡ c
letter-digit c h =
    by-test (ltb c 48) (λ e. absurd (omega (arith, low c (ltb-true c 48 e))))
    (λ e. by-test (ltb c 58)
    (λ f. let d = nought-to-nine c (ltb-false c 48 e) (ltb-true c 58 f) in
    small-letter (digit_of c) (omega (arith, d, ltb-true c 58 f)) ∙ omega (arith, d, ltb-false c 48 e))
    (λ f. by-test (ltb c 97) (λ g. absurd (omega (arith, between c (ltb-false c 58 f) (ltb-true c 97 g))))
    (λ g. by-test (ltb c 103)
    (λ k. let d = a-to-f c (ltb-false c 97 g) (ltb-true c 103 k) in
    large-letter (digit_of c) (omega (arith, d, ltb-false c 97 g)) ∙ omega (arith, d, ltb-false c 97 g))
    (λ k. absurd (omega (arith, high c (ltb-false c 103 k)))))))

module _ (h l : ℕ) (e : pair_of h l < 256) where
  high_digit : digit_of h < 16
  high_digit = by-test (leb 16 (digit_of h)) (λ t. absurd (omega (arith, high-bad h l (leb-true 16 (digit_of h) t)))) (λ f. leb-false 16 (digit_of h) f)

  low_digit : digit_of l < 16
  low_digit = by-test (leb 16 (digit_of l)) (λ t. absurd (omega (arith, low-bad h l (leb-true 16 (digit_of l) t)))) (λ f. leb-false 16 (digit_of l) f)

  first-letter : letter_of (pair_of h l / 16) ≡ h
  first-letter =
      let d : pair_of h l / 16 ≡ digit_of h = omega (arith, both-good h l high_digit low_digit, low_digit) in
      rw d (letter-digit h high_digit)

  second-letter : letter_of (pair_of h l % 16) ≡ l
  second-letter =
      let d : pair_of h l % 16 ≡ digit_of l = omega (arith, both-good h l high_digit low_digit, low_digit) in
      rw d (letter-digit l low_digit)

pub chars-pairs : (line : List ℕ) → length line % 2 ≡ 0 → all_bytes (pairs line) ≡ true → chars_of (pairs line) ≡ line
unfolding pairs chars_of all_bytes
chars-pairs [] e a = refl
chars-pairs (h ∷ []) e a = absurd (omega arith)
chars-pairs (h ∷ l ∷ s) e a =
    let small = ltb-true (pair_of h l) 256 (first-true (ltb (pair_of h l) 256) (all_bytes (pairs s)) a) in
    let rest = chars-pairs s (omega arith) (second-true (ltb (pair_of h l) 256) (all_bytes (pairs s)) a) in
    rw (first-letter h l small, second-letter h l small, rest) refl

-- what a frame is
pub record FrameFacts (line : List ℕ) : Type 0 where
  pub even : length line % 2 ≡ 0
  pub bytes : all_bytes (pairs line) ≡ true
  pub adds : total (pairs line) % 256 ≡ 0

pub frame-facts : (line : List ℕ) → is_frame line ≡ true → FrameFacts line
unfolding is_frame
frame-facts line w =
    let adds = eqb (total (pairs line) % 256) 0 in
    let digits = all_bytes (pairs line) in
    let even = eqb (length line % 2) 0 in
    let x : (even && (digits && adds)) ≡ true = second-true (leb (length line) 64) (even && (digits && adds)) w in
    let y : (digits && adds) ≡ true = second-true even (digits && adds) x in
    record {
      even = eqb-true (length line % 2) 0 (first-true even (digits && adds) x);
      bytes = first-true digits adds y;
      adds = eqb-true (total (pairs line) % 256) 0 (second-true digits adds y);
    }

-- the last byte is the check of those before it
closed : (b c : List ℕ) (k : ℕ) → b ≡ c ++ (k ∷ []) → k < 256 → total b % 256 ≡ 0 → b ≡ framed c
unfolding total
closed b c k e small adds =
    let check : k ≡ check_of c = omega (arith, ap total e, total-append c (k ∷ [])) in
    e ∙ ap (λ (x : ℕ). c ++ (x ∷ [])) check

-- ---- over any table of forms: `bad` is what a malformed line asks, `bytes_of` says what each request carries, `Fitting` which of them fit their fields

-- what numbers of the fields of an op make carries them, and fits
pub record Means {A : Type 0} (bad : A) (bytes_of : A → List ℕ) (Fitting : A → Type 0) (op : ℕ) (f : Form A) (vs : List ℕ) (q : A) : Type 0 where
  pub carries : (q ≡ bad) ⊎ (bytes_of q ≡ carried op f vs)
  pub fits : Fitting q

-- if all are listed
abbrev pub Meaning : {A : Type 0} → A → (A → List ℕ) → (A → Type 0) → ℕ → Form A → Type 0
Meaning bad bytes_of Fitting op f =
    (vs : List ℕ) → Fits f.fields vs → all_listed f.fields vs ≡ true → Means bad bytes_of Fitting op f vs (applied_to f.fields f.asks vs)

-- a line is that of what it asks, or it is malformed; and what it asks fits
pub record HeardBy {A : Type 0} (bad : A) (bytes_of : A → List ℕ) (Fitting : A → Type 0) (line : List ℕ) (q : A) : Type 0 where
  pub frame : (q ≡ bad) ⊎ (line ≡ chars_of (framed (bytes_of q)))
  pub fits : Fitting q

module _ {A : Type 0} (bad : A) (bytes_of : A → List ℕ) (Fitting : A → Type 0) (bad-fits : Fitting bad) where
  pub bare-means : (op : ℕ) (q : A) → (q ≡ bad) ⊎ (bytes_of q ≡ op ∷ []) → Fitting q → Meaning bad bytes_of Fitting op (bare_form q)
  bare-means op q c f vs none h = record { carries = c; fits = f }

  -- bytes of the length of their op are the frame of what they ask, or ask nothing; and what they ask fits
  record HeardIn (b : List ℕ) (q : A) : Type 0 where
    frame : (q ≡ bad) ⊎ (b ≡ framed (bytes_of q))
    fits : Fitting q

  form-heard : (b : List ℕ) → all_bytes b ≡ true → total b % 256 ≡ 0 → (op : ℕ) (f : Form A) → Meaning bad bytes_of Fitting op f
      → length b ≡ 2 + widths f.fields → get_or b 0 0 ≡ op → HeardIn b (read_by bad f b)
  form-heard [] a adds op f means n o = absurd (omega arith)
  form-heard (x ∷ c) a adds op f means n o =
      let z = whole f.fields c (all_drop 1 (x ∷ c) a) (omega arith) in
      let vs = values f.fields c 0 in
      let read : values f.fields (x ∷ c) 1 ≡ vs = sym (values-drop f.fields (x ∷ c) 1) in
      let bytes : x ∷ c ≡ carried op f vs ++ (z.last ∷ []) = ap₂ (λ (y : ℕ) (l : List ℕ). y ∷ l) o z.shown in
      rw read
      (by-test (all_listed f.fields vs)
      (λ e.
      let m = means vs z.fits e in
      rw e (record {
        frame = ⊎_elim inl (λ h. inr (closed (x ∷ c) (carried op f vs) z.last bytes z.small adds ∙ ap framed (sym h))) m.carries;
        fits = m.fits;
      }))
      (λ e. rw e (record { frame = inl refl; fits = bad-fits })))

  -- every line
  module _ (forms : ℕ → Form A) (means : (op : ℕ) → Meaning bad bytes_of Fitting op (forms op)) (line : List ℕ) where
    abbrev b : List ℕ
    b = pairs line

    abbrev fitting : Bool
    fitting = eqb (length b) (form_length (forms (get_or b 0 0)))

    module _ (w : fits_forms forms line ≡ true) where
      framed-well : is_frame line ≡ true
      framed-well = first-true (is_frame line) fitting w

      long : length b ≡ form_length (forms (get_or b 0 0))
      long = eqb-true (length b) (form_length (forms (get_or b 0 0))) (second-true (is_frame line) fitting w)

      well-heard : HeardBy bad bytes_of Fitting line (read_by bad (forms (get_or b 0 0)) b)
      well-heard =
          let f = frame-facts line framed-well in
          let h = form-heard b f.bytes f.adds (get_or b 0 0) (forms (get_or b 0 0)) (means (get_or b 0 0)) long refl in
          record { frame = ⊎_elim inl (λ e. inr (sym (chars-pairs line f.even f.bytes) ∙ ap chars_of e)) h.frame; fits = h.fits }

    pub table-heard : HeardBy bad bytes_of Fitting line (line_asks bad forms line)
    table-heard =
        by-test (fits_forms forms line) (λ w. rw w (well-heard w)) (λ e. rw e (record { frame = inl refl; fits = bad-fits }))

-- ---- each op of the counter's
abbrev Meant : ℕ → Form Request → Type 0
Meant op f = Meaning Malformed carried_by RequestFits op f

open-meant : Meant 1 open_form
unfolding carried_by
open-meant vs (more a (more b (more c (more {v = n} d (more e (more f none)))))) h =
    let k = cut-stays n (first-true (cut_listed n) true h) in
    record { carries = inr (rw k refl); fits = record { number = a; sheet = record { width = b; height = c }; stages = e; blade = f } }

offers-meant : Meant 2 offers_form
unfolding carried_by
offers-meant vs (more a (more b (more c (more d (more e (more f (more {v = n} g none))))))) h =
    let k = turn-stays n (first-true (turn_listed n) true h) in
    record {
      carries = inr (rw k refl);
      fits = (record { layout = a; place = b; serial = c }, record { number = d; size = record { width = e; height = f } });
    }

insert-meant : Meant 3 insert_form
unfolding carried_by
insert-meant vs (more a (more b (more c (more d (more e (more f (more {v = n} g (more {v = r} i (more {v = k} j none))))))))) h =
    let y = second-true (turn_listed n) (rotation_listed r && (shape_listed k && true)) h in
    let z = first-true (shape_listed k) true (second-true (rotation_listed r) (shape_listed k && true) y) in
    let t = turn-stays n (first-true (turn_listed n) (rotation_listed r && (shape_listed k && true)) h) in
    let u = rotation-stays r (first-true (rotation_listed r) (shape_listed k && true) y) in
    let v = shape-stays k z in
    record {
      carries = inr (rw (t, u, v) refl);
      fits = (record { layout = a; place = b; serial = c }, record { number = d; size = record { width = e; height = f } });
    }

remove-meant : Meant 4 remove_form
unfolding carried_by
remove-meant vs (more a (more b (more c none))) h = record { carries = inr refl; fits = record { layout = a; place = b; serial = c } }

bare-meant : (op : ℕ) (q : Request) → (q ≡ Malformed) ⊎ (carried_by q ≡ op ∷ []) → RequestFits q → Meant op (bare_form q)
bare-meant = bare-means Malformed carried_by RequestFits tt

form-meant : (op : ℕ) → Meant op (form_of op)
unfolding form_of carried_by
form-meant op =
    by-test (eqb op 1) (λ e. rw (eqb-true op 1 e) open-meant)
    (λ e1. by-test (eqb op 2) (λ e. rw (eqb-true op 2 e) offers-meant)
    (λ e2. by-test (eqb op 3) (λ e. rw (eqb-true op 3 e) insert-meant)
    (λ e3. by-test (eqb op 4) (λ e. rw (eqb-true op 4 e) remove-meant)
    (λ e4. by-test (eqb op 5) (λ e. rw (eqb-true op 5 e) (bare-meant 5 Keep (inr refl) tt))
    (λ e5. by-test (eqb op 6) (λ e. rw (eqb-true op 6 e) (bare-meant 6 Restore (inr refl) tt))
    (λ e6. by-test (eqb op 7) (λ e. rw (eqb-true op 7 e) (bare-meant 7 (OfLayout Report) (inr refl) tt))
    (λ e7. rw (e1, e2, e3, e4, e5, e6, e7) (bare-meant op Malformed (inl refl) tt))))))))

module _ (line : List ℕ) where
  line-heard : HeardBy Malformed carried_by RequestFits line (request_of line)
  unfolding request_of
  line-heard = table-heard Malformed carried_by RequestFits tt form_of form-meant line

  pub heard : (request_of line ≡ Malformed) ⊎ (line ≡ frame_of (request_of line))
  heard = line-heard.frame

  -- and a line asks only what fits
  pub request-fits : RequestFits (request_of line)
  request-fits = line-heard.fits
