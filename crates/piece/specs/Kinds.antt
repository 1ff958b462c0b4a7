-- The tests of a kind: a free piece, a part, a structure.
use Rattle.std.specs.Prelude.{Bool, true, false}
use Rattle.piece.specs.declared.node.Kind.{Kind}
use Rattle.piece.specs.declared.node.Kind.TheVariants.{Free, Part, Structure}

abbrev pub is_free : Kind → Bool
is_free Free = true
is_free Part = false
is_free Structure = false

abbrev pub is_part : Kind → Bool
is_part Free = false
is_part Part = true
is_part Structure = false

abbrev pub is_structure : Kind → Bool
is_structure Free = false
is_structure Part = false
is_structure Structure = true
