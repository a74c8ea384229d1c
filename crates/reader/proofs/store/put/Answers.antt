-- `reader::store::put` meets its contract. Assumes nothing.
use lib.Seq.{set_out}
use mathlib.Core.Path.{sym}
use Rattle.reader.proofs.store.put.Goals as goal

pub returns-else-at-r : goal.returns-else-at-r
returns-else-at-r c = sym (set_out c.args.r.now c.args.at c.args.x c.if-at-r.false)
