-- `listing::parts::put_refusal` meets its contract. Assumes nothing.
use Rattle.listing.proofs.parts.put_refusal.Goals as goal

pub returns-then-number-lt10 : goal.returns-then-number-lt10
returns-then-number-lt10 c = rw (c.short_refusal-line.ensures, c.number-number.ensures) at c.put_only.ensures

pub returns : goal.returns
returns c = rw (c.long_refusal-line.ensures, c.number-number.ensures) at c.put_only-2.ensures
