-- `reader::lists::item_of` meets its contract, kind by kind. Assumes nothing.
use mathlib.Core.Path.{◌∙◌, ap, sym}
use Rattle.reader.specs.Lists.{item_of, pair_of}
use Rattle.reader.proofs.lists.item_of.Goals as goal

pub returns-in-Pairs : goal.returns-in-Pairs
unfolding item_of pair_of
returns-in-Pairs c = c.join.ensures ∙ rw (c.number-v.ensures, c.number-x.ensures, c.cut-parts.ensures.0, c.cut-parts.ensures.1) (sym (ap (λ k. item_of k c.args.next c.args.piece.now) c.in-Pairs.is))

pub returns-in-Values : goal.returns-in-Values
unfolding item_of
returns-in-Values c = c.join-in-Values.ensures ∙ rw c.number-x-in-Values.ensures (sym (ap (λ k. item_of k c.args.next c.args.piece.now) c.in-Values.is))

pub returns-in-Members : goal.returns-in-Members
unfolding item_of
returns-in-Members c = c.join-in-Members.ensures ∙ rw c.number-v-in-Members.ensures (sym (ap (λ k. item_of k c.args.next c.args.piece.now) c.in-Members.is))
