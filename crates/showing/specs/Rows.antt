-- What a `Row` of the code shows. Assumes nothing: these are definitions.
use Rattle.std.specs.Prelude.{List, ℕ}
use Rattle.text.specs.Text.{date}
use Rattle.showing.specs.declared.lines.Row.{Row}
use Rattle.showing.specs.Shown.{columns}

abbrev pub row_text : Row → List ℕ
row_text r = columns r.sui r.number r.leap r.handle (date r.year r.month r.day) r.days
