-- A line as the program holds it before its bytes are put. Assumes nothing: these are definitions.
use Rattle.std.specs.Prelude.{List, ℕ, nat_abs}
use Rattle.text.specs.Text.{line, date, time}
use Rattle.text.specs.declared.Moment.{Moment}
use Rattle.clock.specs.declared.ShownTime.{ShownTime}
use Rattle.listing.specs.declared.lines.Line.{Line}

abbrev pub moment_of : ShownTime → Moment
moment_of t = record {
  year = nat_abs t.date.year;
  month = nat_abs t.date.month;
  day = nat_abs t.date.day;
  hour = t.hour;
  minute = t.minute;
  second = t.second;
  millisecond = t.millisecond;
}

-- the bytes of a line
abbrev pub moment_line : ℕ → ℕ → Moment → List ℕ
moment_line letter index m = line letter index (date m.year m.month m.day) (time m.hour m.minute m.second m.millisecond)

abbrev pub line_text : Line → List ℕ
line_text l = moment_line l.letter l.index l.moment
