-- After month 12 of a sui comes month 1: the handle is 22 less. Assumes nothing.
use Rattle.std.specs.Prelude.{◌≡◌, ℤ, ◌+ℤ◌, ◌-ℤ◌, ◌*ℤ◌}
use Rattle.std.proofs.Math.Bool.{true}
use Rattle.std.proofs.Math.IntN.{pos}
use Rattle.whole.specs.Tests.{is_exactly}
use Rattle.content.specs.Steps.{handle_after}

pub after_twelfth : (year h : ℤ) → is_exactly (pos 32 *ℤ year +ℤ pos 24) h ≡ true → h -ℤ pos 22 ≡ handle_after year h
unfolding handle_after
after_twelfth year h e = rw e
