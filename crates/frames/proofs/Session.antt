-- Document 01's session, computed: what its lines ask (the third is the second again), lines that are malformed,
-- and its three answers and the malformed one, character for character.
use Rattle.std.proofs.Common.{◌≡◌, ℕ, List, [] as none, ◌∷◌ as ◌and◌, refl}
use Prim.Native.Char.{code}
use Prim.Native.String.{String, [], ◌∷◌}
use Rattle.hexadecimal.specs.Hex.{digit_of, letter_of, pair_of}
use Rattle.piece.specs.declared.orientation.Orientation.TheVariants.{Vertical}
use Rattle.piece.specs.declared.rotation.Rotation.TheVariants.{Default}
use Rattle.std.specs.Prelude.{None}
use Rattle.piece.specs.declared.insertion_blueprint.InsertionShape.TheVariants.{AlongCurrentCut}
use Rattle.marks.specs.declared.Mark.{Mark}
use Rattle.marks.specs.declared.Refusal.TheVariants.{Gone}
use Rattle.frames.specs.declared.Ask.TheVariants.{Open, Insert}
use Rattle.frames.specs.declared.Request.TheVariants.{OfLayout, Malformed}
use Rattle.frames.specs.Bytes.{pairs, all_bytes, chars_of, total}
use Rattle.frames.specs.Requests.{form_of, is_frame, request_of}
use Rattle.frames.specs.Answers.{opened, inserted, refused, malformed, each, content_of, answer_line}

unfoldable pub codes : String → List ℕ
codes [] = none
codes (c ∷ text) = code c and codes text

abbrev pub mark : ℕ → ℕ → Mark
mark place serial = record { layout = 1; place = place; serial = serial }

pub asks-opening :
    request_of (codes "010001000000640000003c0103005a")
    ≡ OfLayout (Open (record { number = 1; settings = record { stages = 3; blade = 0; sheet = record { width = 100; height = 60 } }; cut = Vertical }))
unfolding codes request_of is_frame pairs all_bytes total form_of digit_of pair_of
asks-opening = refl

pub asks-insertion :
    request_of (codes "03000101000000020007000000280000003c0000018d")
    ≡ OfLayout (Insert (mark 1 2) (record { number = 7; size = record { width = 40; height = 60 }; fixed_rotation = None }) Default AlongCurrentCut)
unfolding codes request_of is_frame pairs all_bytes total form_of digit_of pair_of
asks-insertion = refl

-- an empty line, an upper-case digit, a character too many, a wrong check
pub malformed-lines :
    (request_of none ≡ Malformed)
    × (request_of (codes "010001000000640000003C0103005a") ≡ Malformed)
    × (request_of (codes "010001000000640000003c0103005a0") ≡ Malformed)
    × (request_of (codes "010001000000640000003c0103005b") ≡ Malformed)
unfolding codes request_of is_frame pairs all_bytes total form_of digit_of pair_of
malformed-lines = (refl, refl, refl, refl)

pub answers-opening : answer_line (opened (mark 1 2)) ≡ codes "010000010100000002fb\n"
unfolding codes content_of chars_of total letter_of
answers-opening = refl

pub answers-insertion :
    answer_line (inserted (mark 1 3) (mark 1 3) (mark 2 4 and none)) ≡ codes "030000010100000003000101000000030100010200000004eb\n"
unfolding codes content_of chars_of total letter_of each
answers-insertion = refl

pub answers-gone : answer_line (refused 3 Gone) ≡ codes "0305f8\n"
unfolding codes content_of chars_of total letter_of
answers-gone = refl

pub answers-malformed : answer_line malformed ≡ codes "ff0ef3\n"
unfolding codes content_of chars_of total letter_of
answers-malformed = refl
