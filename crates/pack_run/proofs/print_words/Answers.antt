-- `pack_run::print_words` meets its contract: the words that were packed are in the room. Assumes nothing.
use Rattle.std.specs.Prelude.{Result, Ok, Err}
use Rattle.std.proofs.Common.{◌≡◌, ℕ, ◌*◌, ◌≤◌, List, ◌++◌, length, drop, sym, Bool, true, false, cond, nat_lt, arith, length-append, length-take-le}
use Rattle.packing.specs.Packing.{Scanned, numbers, bad, scan, start, bytes_of, answer_for, held_after, packed, held}
use Rattle.packing.specs.declared.PackError.{PackError}
use Rattle.packing.specs.declared.PackError.TheVariants.{Room}
use Rattle.packing.specs.theory.Filling.{bytes_length}
use Rattle.pack_run.proofs.print_words.Goals as goal

inside : (text room : List ℕ) {bytes : ℕ} {last : List ℕ} → Ok bytes ≡ packed text (length room) → last ≡ held text room → bytes ≤ length last
unfolding packed held
inside text room {bytes} {last} p q = go (scan start text) p q
  where
    by_room : (words : List ℕ) (n : ℕ) → length words ≡ n → (short : Bool) → ◌≡◌ {A = Result ℕ PackError} (Ok bytes) (cond short (Err Room) (Ok n)) → last ≡ cond short room (words ++ drop n room) → bytes ≤ length last
    by_room words n e true p q = let z : ◌≡◌ {A = ℕ} 0 1 = cc in absurd (omega arith)
    by_room words n e false p q = let is : bytes ≡ n = cc in rw (q, length-append) (omega arith)

    go : (s : Scanned) → Ok bytes ≡ answer_for s (length room) → last ≡ held_after s room → bytes ≤ length last
    go (numbers zs) p q = by_room (bytes_of zs) (8 * length zs) (bytes_length zs) (nat_lt (length room) (8 * length zs)) p q
    go (bad line word) p q = let z : ◌≡◌ {A = ℕ} 0 1 = cc in absurd (omega arith)

pub slice_bounds-write_all-end : goal.slice_bounds-write_all-end
slice_bounds-write_all-end g c = inside c.args.text.now c.args.out.now c.in-Ok.ensures.value c.in-Ok.ensures.out_after

pub slice_bounds-write_all-end-in-Ok : goal.slice_bounds-write_all-end-in-Ok
slice_bounds-write_all-end-in-Ok g c = sym (length-take-le _ _ (inside c.args.text.now c.args.out.now c.in-Ok.ensures.value c.in-Ok.ensures.out_after))
