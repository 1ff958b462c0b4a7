-- Document 01, "Marks": "Marks are layout number, place (0..254) and serial." A mark that is none is all zero.
use Rattle.marks.specs.declared.Mark.{Mark}

abbrev pub zero_mark : Mark
zero_mark = record { layout = 0; place = 0; serial = 0 }
