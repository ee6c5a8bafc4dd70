-- `writer::writing::put_content` meets its contract. Assumes nothing.
use Rattle.content.specs.Content.{content}
use Rattle.almanac.specs.theory.Writer.{content_placed}
use Rattle.writer.proofs.writing.put_content.Goals as goal

pub returns : goal.returns
returns c =
    let a = c.args in
    content_placed (content a.leap.now a.suis.now a.months.now) c.requires.fits_layout a.out.now c.requires.months_in_bounds c.entry_section.ensures c.sui_section.ensures c.month_section.ensures
