-- `words_of`: plain cells by their digits, others cell by cell. Assumes nothing.
use Rattle.std.proofs.Common.{◌+◌, ◌*◌, sym, ◌∙◌}
use Rattle.packed_task.specs.Packed.{digit_by}
use Rattle.packed_task.proofs.Squeezing.{plain_words}
use Rattle.packed_task.proofs.words.words_of.Goals as goal

pub overflow_sub-result : goal.overflow_sub-result
overflow_sub-result c = (plain_words c.args.cells.now c.if-cells-eq16.true (sym c.all_plain.ensures ∙ c.if-all_plain.true) (c.squeeze.result + 4294967296 * c.squeeze-then-all_plain.result) (c.squeeze-then-all_plain-2.result + 4294967296 * c.squeeze-then-all_plain-3.result)
    (rw (c.squeeze.ensures.0, c.squeeze-then-all_plain.ensures.0, c.eight-x.ensures, c.eight-y.ensures))
    (rw (c.squeeze-then-all_plain-2.ensures.0, c.squeeze-then-all_plain-3.ensures.0, c.eight-x.ensures, c.eight-y.ensures))).0

pub returns-then-all_plain : goal.returns-then-all_plain
returns-then-all_plain c = let t = plain_words c.args.cells.now c.if-cells-eq16.true (sym c.all_plain.ensures ∙ c.if-all_plain.true) (c.squeeze.result + 4294967296 * c.squeeze-then-all_plain.result) (c.squeeze-then-all_plain-2.result + 4294967296 * c.squeeze-then-all_plain-3.result)
    (rw (c.squeeze.ensures.0, c.squeeze-then-all_plain.ensures.0, c.eight-x.ensures, c.eight-y.ensures))
    (rw (c.squeeze-then-all_plain-2.ensures.0, c.squeeze-then-all_plain-3.ensures.0, c.eight-x.ensures, c.eight-y.ensures)) in (t.1, t.2)

pub returns : goal.returns
unfolding digit_by
returns c = (c.pack.ensures, c.pack-2.ensures)
