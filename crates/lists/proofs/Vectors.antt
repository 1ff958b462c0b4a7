-- What the definitions say of small lists, computed. Assumes nothing.
use mathlib.Core.Path.{◌≡◌, refl}
use mathlib.Core.Bool.{true, false}
use mathlib.Core.List.{List, [], ◌∷◌}
use Prim.Native.Nat.{ℕ}
use Rattle.lists.specs.Lists.{padded, put_in, take_out, swap_out, swapped}
use Rattle.lists.specs.Search.{first_from, every, index_of, zero_tail, differ}
use Rattle.lists.specs.Flags.{ok_b, column, flags_of}

three : List ℕ
three = 4 ∷ 2 ∷ 3 ∷ []

list : padded 5 three ≡ 4 ∷ 2 ∷ 3 ∷ 0 ∷ 0 ∷ []
unfolding three padded
list = refl

put : put_in (padded 5 three) 3 1 9 ≡ 4 ∷ 9 ∷ 2 ∷ 3 ∷ 0 ∷ []
unfolding three padded put_in
put = refl

append : put_in (padded 5 three) 3 3 9 ≡ 4 ∷ 2 ∷ 3 ∷ 9 ∷ 0 ∷ []
unfolding three padded put_in
append = refl

out : take_out (padded 5 three) 3 1 ≡ 4 ∷ 3 ∷ 0 ∷ 0 ∷ 0 ∷ []
unfolding three padded take_out
out = refl

hole : swap_out (padded 5 three) 3 0 ≡ 3 ∷ 2 ∷ 0 ∷ 0 ∷ 0 ∷ []
unfolding three padded swap_out
hole = refl

-- the final entry itself goes out
last : swap_out (padded 5 three) 3 2 ≡ padded 5 (swapped three 2)
unfolding three padded swap_out swapped
last = refl

index : index_of (padded 5 three) 3 3 ≡ 2
unfolding three padded index_of first_from
index = refl

-- a zero behind the count is no entry
none : index_of (padded 5 three) 3 0 ≡ 3
unfolding three padded index_of first_from
none = refl

tail : zero_tail 5 (padded 5 three) 3 ≡ true
unfolding three padded zero_tail every
tail = refl

no-tail : zero_tail 5 (padded 5 three) 2 ≡ false
unfolding three padded zero_tail every
no-tail = refl

serials : differ 5 (7 ∷ 0 ∷ 8 ∷ 0 ∷ 9 ∷ []) ≡ true
unfolding differ every
serials = refl

twice : differ 5 (7 ∷ 0 ∷ 8 ∷ 0 ∷ 7 ∷ []) ≡ false
unfolding differ every
twice = refl

flags : flags_of 5 (padded 5 three) 3 ≡ 0 ∷ 0 ∷ 1 ∷ 1 ∷ 1 ∷ []
unfolding three padded flags_of ok_b column every
flags = refl

-- the zeros behind the count count as places where the count is too great
repeated : ok_b 5 (padded 5 three) 5 ≡ false
unfolding three padded ok_b every
repeated = refl
