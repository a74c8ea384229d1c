-- `packed_task::applying::applying` meets its contract. Assumes nothing.
use Rattle.std.proofs.Common.{◌/◌, refl, arith}
use Rattle.packed_task.proofs.SetsFilled.{met_bytes_two, met_bytes_four, met_bytes_eight, meet_two, meet_none}
use Rattle.packed_task.proofs.applying.applying.Goals as goal

pub returns-then-bytes-le2 : goal.returns-then-bytes-le2
returns-then-bytes-le2 c = let a = c.args in let sets = a.sets.now in rw (← met_bytes_two a.bytes c.if-bytes-le2.true) (meet_two sets 0 0 a.s (a.s / 65536) _ _ refl (meet_none sets 2 (a.s / 65536)) c.two_bytes.ensures)

pub returns-then-bytes-le4 : goal.returns-then-bytes-le4
returns-then-bytes-le4 c = let a = c.args in let sets = a.sets.now in rw (← met_bytes_four a.bytes c.if-bytes-le2.false c.if-bytes-le4.true)
    (meet_two sets 0 2 a.s (a.s / 65536) _ _ refl (meet_two sets 2 0 (a.s / 65536) (a.s / 4294967296) _ _ (omega arith) (meet_none sets 4 (a.s / 4294967296)) c.two_bytes-then-bytes-le4.ensures) c.two_bytes-then-bytes-le4-2.ensures)

pub returns : goal.returns
returns c = let a = c.args in let sets = a.sets.now in rw (← met_bytes_eight a.bytes c.if-bytes-le4.false)
    (meet_two sets 0 6 a.s (a.s / 65536) _ _ refl
    (meet_two sets 2 4 (a.s / 65536) (a.s / 4294967296) _ _ (omega arith)
    (meet_two sets 4 2 (a.s / 4294967296) (a.s / 281474976710656) _ _ (omega arith)
    (meet_two sets 6 0 (a.s / 281474976710656) 0 _ _ (omega arith) (meet_none sets 8 0) c.two_bytes-2.ensures) c.two_bytes-upper.ensures) c.two_bytes-3.ensures) c.two_bytes-4.ensures)
