-- `packed_task::packed::pack` meets its contract: the cells from the last one on are packed. Assumes nothing.
use Rattle.std.proofs.Common.{◌≡◌, ◌*◌, ◌%◌, reverse, ◌∙◌, rules}
use Rattle.std.specs.List.{fold}
use lib.Bits.{bit_or}
use Rattle.packed_task.specs.Packed.{digit_by}
use Rattle.packed_task.proofs.Packing.{digit_by_digit, packing_folded}
use Rattle.packed_task.proofs.packed.pack.Goals as goal

pub returns : goal.returns
returns c = let a = c.args in let g = digit_by a.rule in
    let e : c.fold.result ≡ fold (λ p x. bit_or (p * 16 % 18446744073709551616) (g x)) 0 (reverse a.cells.now) = search rules in e ∙ packing_folded g (digit_by_digit a.rule) a.cells.now c.requires
