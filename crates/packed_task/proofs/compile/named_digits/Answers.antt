-- `packed_task::compile::named_digits` meets its contract. Assumes nothing.
use Rattle.std.proofs.Common.{◌-◌, ap, ◌∙◌}
use Rattle.packed_task.specs.Packed.{digit_by}
use Rattle.packed_task.proofs.Packing.{left_are_not_named}
use Rattle.packed_task.proofs.compile.named_digits.Goals as goal

pub returns-then-pre-eq16 : goal.returns-then-pre-eq16
returns-then-pre-eq16 c = ap (λ k. 18446744073709551615 - k) c.requires.1 ∙ left_are_not_named c.args.pre.now c.if-pre-eq16.true

pub returns : goal.returns
unfolding digit_by
returns c = c.pack.ensures
