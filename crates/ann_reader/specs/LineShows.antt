-- What the values of a reader show of lines and forms (private calls only).
use Rattle.ann_reader.specs.declared.line.Line.{Line as LineValue}
use Rattle.ann_reader.specs.Lines.{Line}

-- a line
abbrev pub seen_line : LineValue → Line
seen_line line = record { number = line.number; bytes = line.text.now }
