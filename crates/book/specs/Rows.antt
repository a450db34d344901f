-- A row of a table as the code holds it. Assumes nothing.
use Rattle.rules.specs.Rows as rules
use Rattle.book.specs.declared.row.Row.{Row}

-- a row of the code as the specification's row
abbrev pub row_from : Row → rules.Row
row_from r = record { slot = r.slot; flow = r.flow; job = r.job; processors = r.processors }
