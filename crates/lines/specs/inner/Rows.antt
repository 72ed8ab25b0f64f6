-- A line's five numbers, as they stand beside one another in the code.
use Rattle.element.specs.Octets.{Octets}
use Rattle.lines.specs.declared.rows.Row as R
use Rattle.lines.specs.Line.{row}

abbrev pub row_of : R.Row → Octets
row_of r = row r.item r.answer r.detail r.named r.other
