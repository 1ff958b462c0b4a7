-- Numbers as bytes and back, over any list of fields: what specs/Fields derives from the list. Rests on Laws.
use Rattle.std.proofs.Common.{◌≡◌, ℕ, zero, suc, ◌+◌, ◌*◌, ◌/◌, ◌%◌, ◌^◌, ◌<◌, ◌≤◌, true, ltb, List, [], ◌∷◌, ◌++◌, length, get_or, drop, sym, refl, ap, ◌∙◌, ap₂, append_assoc, add-zero, arith, length-append, length-drop, get_or-drop, drop-drop, ltb-true}
use Rattle.piece.specs.declared.parttype.PartType.{PartType}
use Rattle.piece.proofs.Numbers.{turn_small}
use Rattle.marks.specs.declared.Mark.{Mark}
use Rattle.frames.specs.Bytes.{all_bytes, two, four}
use Rattle.frames.specs.Fields.{Width, single, double, quad, Field, mark_fields, part_fields, size_of, widths, value_at, values, field_bytes, written}
use Rattle.frames.specs.Fields.{mark_nos, part_nos, mark_bytes}
use Rattle.frames.specs.Ranges.{MarkFits, PartFits}
use Rattle.frames.proofs.Laws.{first-true, second-true, AreBytes, no_bytes, then, join, are-two, are-four}

abbrev bound_of : Width → ℕ
bound_of single = 2 ^ 8
bound_of double = 2 ^ 16
bound_of quad = 2 ^ 32

-- each number fits its field
pub data Fits : List Field → List ℕ → Type 0 where
  none : Fits [] []
  more : {f : Field} {fs : List Field} {v : ℕ} {vs : List ℕ} → v < bound_of f.width → Fits fs vs → Fits (f ∷ fs) (v ∷ vs)

-- marks and parts that fit, before further numbers
module _ {fs : List Field} {vs : List ℕ} (rest : Fits fs vs) where
  pub mark-fits : (m : Mark) → MarkFits m → Fits (mark_fields ++ fs) (mark_nos m ++ vs)
  mark-fits m f = more f.layout (more f.place (more f.serial rest))

  pub part-fits : (p : PartType) → PartFits p → Fits (part_fields ++ fs) (part_nos p ++ vs)
  part-fits p f = more f.number (more f.size.width (more f.size.height (more (turn_small p.fixed_rotation) rest)))

abbrev cons : ℕ → List ℕ → List ℕ
cons v vs = v ∷ vs

-- ---- reading goes by the bytes at their places
module _ (x b : List ℕ) (same : (i : ℕ) → get_or x i 0 ≡ get_or b i 0) where
  value_same : (w : Width) (i : ℕ) → value_at w x i ≡ value_at w b i
  value_same single i = same i
  value_same double i = simp same
  value_same quad i = simp same

  pub values_same : (fs : List Field) (i : ℕ) → values fs x i ≡ values fs b i
  values_same [] i = refl
  values_same (f ∷ fs) i = ap₂ cons (value_same f.width i) (values_same fs (i + size_of f.width))

-- from the i-th byte on is from the first on, of what is left
value-drop : (b : List ℕ) (i : ℕ) (w : Width) → value_at w (drop i b) 0 ≡ value_at w b i
value-drop b i single = get_or-drop i b 0 0 ∙ rw add-zero refl
value-drop b i double = simp (get_or-drop, add-zero)
value-drop b i quad = let e : i + 2 + 1 ≡ i + 3 = omega arith in rw e (simp (get_or-drop, add-zero))

pub values-drop : (fs : List Field) (b : List ℕ) (i : ℕ) → values fs (drop i b) 0 ≡ values fs b i
values-drop [] b i = refl
values-drop (f ∷ fs) b i =
    ap₂ cons (value-drop b i f.width)
    (sym (values-drop fs (drop i b) (0 + size_of f.width))
    ∙ ap (λ (l : List ℕ). values fs l 0) (drop-drop (0 + size_of f.width) i b)
    ∙ values-drop fs b (i + (0 + size_of f.width))
    ∙ ap (values fs b) (omega arith))

-- ---- numbers that fit, as bytes and back
past : (fs : List Field) (w : Width) (v : ℕ) (rest : List ℕ) → values fs (field_bytes w v ++ rest) (0 + size_of w) ≡ values fs rest 0
past fs single v rest = sym (values-drop fs (field_bytes single v ++ rest) 1)
past fs double v rest = sym (values-drop fs (field_bytes double v ++ rest) 2)
past fs quad v rest = sym (values-drop fs (field_bytes quad v ++ rest) 4)

two_back : (n : ℕ) → n / 256 * 256 + n % 256 ≡ n
two_back n = omega arith

four-back : (n : ℕ) → n / 65536 * 65536 + n % 65536 ≡ n
four-back n = omega arith

value-back : (w : Width) (v : ℕ) (rest : List ℕ) → v < bound_of w → value_at w (field_bytes w v ++ rest) 0 ≡ v
value-back single v rest h = omega arith
value-back double v rest h = two_back v
value-back quad v rest h = simp (two_back, four-back)

pub values-back : {fs : List Field} {vs : List ℕ} → Fits fs vs → (rest : List ℕ) → values fs (written fs vs ++ rest) 0 ≡ vs
values-back none rest = refl
values-back (more {f} {fs} {v} {vs} h hs) rest =
    ap (λ (l : List ℕ). values (f ∷ fs) l 0) (append_assoc (field_bytes f.width v) (written fs vs) rest)
    ∙ ap₂ cons (value-back f.width v (written fs vs ++ rest) h) (past fs f.width v (written fs vs ++ rest) ∙ values-back hs rest)

length-in : (w : Width) (v : ℕ) → length (field_bytes w v) ≡ size_of w
length-in single v = refl
length-in double v = refl
length-in quad v = refl

pub length-written : {fs : List Field} {vs : List ℕ} → Fits fs vs → length (written fs vs) ≡ widths fs
length-written none = refl
length-written (more {f} {fs} {v} {vs} h hs) =
    omega (arith, length-append (field_bytes f.width v) (written fs vs), length-in f.width v, length-written hs)

are-in : (w : Width) (v : ℕ) → v < bound_of w → AreBytes (field_bytes w v)
are-in single v h = then (omega arith) no_bytes
are-in double v h = are-two v h
are-in quad v h = are-four v h

pub are_written : {fs : List Field} {vs : List ℕ} → Fits fs vs → AreBytes (written fs vs)
are_written none = no_bytes
are_written (more {f} {fs} {v} {vs} h hs) = join (are-in f.width v h) (are_written hs)

pub are-mark : (m : Mark) → MarkFits m → AreBytes (mark_bytes m)
are-mark m f = are_written (mark-fits none m f)

-- ---- bytes, as numbers and back
byte_at : (b : List ℕ) → all_bytes b ≡ true → (i : ℕ) → get_or b i 0 < 256
unfolding all_bytes
byte_at [] a i = omega arith
byte_at (x ∷ b) a zero = ltb-true x 256 (first-true (ltb x 256) (all_bytes b) a)
byte_at (x ∷ b) a (suc i) = byte_at b (second-true (ltb x 256) (all_bytes b) a) i

pub all_drop : (n : ℕ) (b : List ℕ) → all_bytes b ≡ true → all_bytes (drop n b) ≡ true
unfolding all_bytes
all_drop zero b a = a
all_drop (suc n) [] a = refl
all_drop (suc n) (x ∷ b) a = all_drop n b (second-true (ltb x 256) (all_bytes b) a)

two-of : (x y : ℕ) → y < 256 → two (x * 256 + y) ≡ x ∷ y ∷ []
two-of x y h =
    let e : (x * 256 + y) / 256 ≡ x = omega arith in
    let f : (x * 256 + y) % 256 ≡ y = omega arith in
    rw (e, f) refl

four-of : (x y : ℕ) → y < 65536 → four (x * 65536 + y) ≡ two x ++ two y
four-of x y h =
    let e : (x * 65536 + y) / 65536 ≡ x = omega arith in
    let f : (x * 65536 + y) % 65536 ≡ y = omega arith in
    rw (e, f) refl

-- a field, and what is left behind it
field_back : (w : Width) (c : List ℕ) → all_bytes c ≡ true → size_of w ≤ length c
    → (field_bytes w (value_at w c 0) ++ drop (0 + size_of w) c ≡ c) × (value_at w c 0 < bound_of w)
field_back single [] a h = absurd (omega arith)
field_back single (x ∷ c) a h = let s = byte_at (x ∷ c) a 0 in (ap (λ (k : ℕ). k ∷ c) (omega arith), s)
field_back double [] a h = absurd (omega arith)
field_back double (x ∷ []) a h = absurd (omega arith)
field_back double (x ∷ y ∷ c) a h =
    let s = byte_at (x ∷ y ∷ c) a 0 in
    let t = byte_at (x ∷ y ∷ c) a 1 in
    (ap (λ (k : List ℕ). k ++ c) (two-of x y t), omega arith)
field_back quad [] a h = absurd (omega arith)
field_back quad (x ∷ []) a h = absurd (omega arith)
field_back quad (x ∷ y ∷ []) a h = absurd (omega arith)
field_back quad (x ∷ y ∷ z ∷ []) a h = absurd (omega arith)
field_back quad (x ∷ y ∷ z ∷ u ∷ c) a h =
    let s = byte_at (x ∷ y ∷ z ∷ u ∷ c) a 0 in
    let t = byte_at (x ∷ y ∷ z ∷ u ∷ c) a 1 in
    let v = byte_at (x ∷ y ∷ z ∷ u ∷ c) a 2 in
    let w = byte_at (x ∷ y ∷ z ∷ u ∷ c) a 3 in
    (ap (λ (k : List ℕ). k ++ c) (four-of (x * 256 + y) (z * 256 + u) (omega arith) ∙ ap₂ (λ (k l : List ℕ). k ++ l) (two-of x y t) (two-of z u w)), omega arith)

-- bytes as long as the fields, and one more, are what the fields write and that one
pub record Whole (fs : List Field) (c : List ℕ) : Type 0 where
  pub last : ℕ
  pub small : last < 256
  pub shown : c ≡ written fs (values fs c 0) ++ (last ∷ [])
  pub fits : Fits fs (values fs c 0)

pub whole : (fs : List Field) (c : List ℕ) → all_bytes c ≡ true → length c ≡ widths fs + 1 → Whole fs c
whole [] [] a n = absurd (omega arith)
whole [] (k ∷ []) a n = record { last = k; small = byte_at (k ∷ []) a 0; shown = refl; fits = none }
whole [] (k ∷ x ∷ c) a n = absurd (omega arith)
whole (f ∷ fs) c a n =
    let s = 0 + size_of f.width in
    let z = whole fs (drop s c) (all_drop s c a) (length-drop s c ∙ omega arith) in
    let w = field_back f.width c a (omega arith) in
    let same : values fs (drop s c) 0 ≡ values fs c s = values-drop fs c s in
    record {
      last = z.last;
      small = z.small;
      shown =
          sym w.0
          ∙ ap (λ (l : List ℕ). field_bytes f.width (value_at f.width c 0) ++ l)
          (z.shown ∙ ap (λ (vs : List ℕ). written fs vs ++ (z.last ∷ [])) same)
          ∙ sym (append_assoc (field_bytes f.width (value_at f.width c 0)) (written fs (values fs c s)) (z.last ∷ []));
      fits = more w.1 (rw same at z.fits);
    }
