-- `text::inner::put_both` meets its contract. Assumes nothing.
use Rattle.std.proofs.Common.{◌≡◌, ℕ, ◌+◌, ◌≤◌, List, ◌++◌, length, take, drop, ap, ◌∙◌, length-append}
use Rattle.whole.specs.Lists.{placed, placed_both}
use Rattle.text.proofs.inner.put_both.Goals as goal

-- what the room holds after both
twice : (room head tail first second : List ℕ) (at : ℕ) → at + (length head + length tail) ≤ length room → first ≡ placed at head room → second ≡ placed (at + length head) tail first → second ≡ take at room ++ (head ++ tail) ++ drop (at + (length head + length tail)) room
twice room head tail first second at h p q =
    q ∙ ap (placed (at + length head) tail) p ∙ placed_both room head at tail h ∙ ap (λ (n : ℕ). take at room ++ (head ++ tail) ++ drop (at + n) room) (length-append head tail)

pub returns-clause-room_after : goal.returns-clause-room_after
returns-clause-room_after c = twice c.args.room.now c.args.head.now c.args.tail.now _ _ c.args.at c.requires c.put.ensures c.put-2.ensures
