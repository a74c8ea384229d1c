-- `squeeze`: every second byte's low digit by a mask, then the pairs side by side. Assumes nothing.
use Rattle.std.proofs.Common.{◌/◌, refl, arith}
use Rattle.packed_task.proofs.Squeezing.{pairs_small, pairs_squeezed, squeezed_small}
use Rattle.packed_task.proofs.words.squeeze.Goals as goal

pub overflow_mul-y : goal.overflow_mul-y
overflow_mul-y c = let l = pairs_small (c.args.x / 256) in record { fits = omega (arith, l) }

pub overflow_add-y : goal.overflow_add-y
overflow_add-y c = let l = pairs_small (c.args.x / 256) in let k = pairs_small c.args.x in record { fits = omega (arith, l, k) }

pub overflow_add-z : goal.overflow_add-z
overflow_add-z c = let l = pairs_small (c.args.x / 256) in let k = pairs_small c.args.x in record { fits = omega (arith, l, k) }

pub returns : goal.returns
returns c = let e = pairs_squeezed c.args.x _ _ refl refl in (e, omega (arith, e, squeezed_small c.args.x))
