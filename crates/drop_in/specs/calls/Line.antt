-- The line that says who takes a call.
use Rattle.std.specs.Prelude.{ℕ, List, ◌++◌, codes, decimal}
use Rattle.drop_in.specs.declared.line.Line.{Line}
use Rattle.drop_in.specs.declared.line.Line.TheVariants.{Begins, Dunekettle, Original, Shell, Stream, Zipped}

-- its text, with the line feed
abbrev pub line_text : Line → List ℕ
line_text Begins = codes "r\n"
line_text Dunekettle = codes "d\n"
line_text (Original path) = codes "o " ++ path.now ++ codes "\n"
line_text (Stream word path) = codes "s " ++ decimal word ++ codes " " ++ path.now ++ codes "\n"
line_text (Zipped word) = codes "z " ++ decimal word ++ codes "\n"
line_text (Shell reason) = codes "t " ++ reason.now ++ codes "\n"
