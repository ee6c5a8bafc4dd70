-- `kept_years::putting::put_suis` meets its contract. Assumes nothing.
use Rattle.almanac.specs.Layout.{content_at}
use Rattle.kept_years.specs.theory.Putting.{no_room, all_put}
use Rattle.kept_years.proofs.putting.put_suis.Goals as goal

pub returns-then-out-bytes : goal.returns-then-out-bytes
returns-then-out-bytes c =
    let a = c.args in record { result_value = (no_room (content_at a.file.now a.n).suis a.years.now a.out.now a.n.suis c.if-out-bytes.true).0; out_after = (no_room (content_at a.file.now a.n).suis a.years.now a.out.now a.n.suis c.if-out-bytes.true).1 }

pub returns : goal.returns
returns c =
    let a = c.args in record { result_value = (all_put (content_at a.file.now a.n).suis a.years.now a.out.now a.n.suis c.if-out-bytes.false c.put_lines.ensures).0; out_after = (all_put (content_at a.file.now a.n).suis a.years.now a.out.now a.n.suis c.if-out-bytes.false c.put_lines.ensures).1 }
