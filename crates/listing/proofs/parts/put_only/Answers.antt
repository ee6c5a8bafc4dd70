-- `listing::parts::put_only` meets its contract. Assumes nothing.
use Rattle.listing.proofs.OneLine.{past, no_room, all_put}
use Rattle.listing.proofs.parts.put_only.Goals as goal

pub returns-then-from-gt0 : goal.returns-then-from-gt0
returns-then-from-gt0 c = record { value = (past c.args.line.now c.args.room.now c.args.from c.if-from-gt0.true).0; room_after = (past c.args.line.now c.args.room.now c.args.from c.if-from-gt0.true).1 }

pub returns-then-room-line : goal.returns-then-room-line
returns-then-room-line c = record { value = (no_room c.args.line.now c.args.room.now c.args.from c.if-from-gt0.false c.if-room-line.true).0; room_after = (no_room c.args.line.now c.args.room.now c.args.from c.if-from-gt0.false c.if-room-line.true).1 }

pub returns : goal.returns
returns c = record { value = (all_put c.args.line.now c.args.room.now c.args.from c.if-from-gt0.false c.if-room-line.false _ c.put.ensures).0; room_after = (all_put c.args.line.now c.args.room.now c.args.from c.if-from-gt0.false c.if-room-line.false _ c.put.ensures).1 }
