-- `search::write::Writer::write_plan` meets its contract. Invariant of the loop: the outcomes left succeed, and their bytes after those written make the
-- whole plan (`Underway`); what is known of plans that stand in the buffer is right. The depth falls. Assumes nothing.
use Rattle.std.proofs.Common.{refl, ◌∙◌, arith}
use Rattle.search.proofs.Standing.{stands_before, stands_sized, copy_written}
use Rattle.search.proofs.Writing.{acts, arrived-written, underway_begins, next_writable, underway_goes_on, underway_ends}
use Rattle.search.proofs.write.Writer.+write_plan.Goals as goal

pub copy_to-requires : goal.copy_to-requires
copy_to-requires t c = let w = c.requires in let h = rw c.in-Some.is at c.find_passage.ensures in (stands_before _ w.stands _ _ _ _ _ _ _ h.1 w.succeeding.is, omega (arith, stands_sized _ w.stands _ _ _ _ _ _ _ h.1 w.succeeding.is, w.fits))

pub overflow_add-result : goal.overflow_add-result
overflow_add-result t c = let w = c.requires in let h = rw c.in-Some.is at c.find_passage.ensures in omega (arith, stands_sized _ w.stands _ _ _ _ _ _ _ h.1 w.succeeding.is, w.near)

pub returns-in-Some : goal.returns-in-Some
returns-in-Some t c = let w = c.requires in let h = rw c.in-Some.is at c.find_passage.ensures in
    record {
      same_instance = refl;
      same_memory = refl;
      same_written = refl;
      same_plan = refl;
      long = c.copy_to.auto.plan;
      writes = λ p k f. copy_written _ w.stands _ _ _ _ _ _ p h.1 f _ _ _ w.succeeding.remembers c.copy_to.ensures c.copy_to.auto.plan;
    }

pub returns-in_default-action_of : goal.returns-in_default-action_of
returns-in_default-action_of t c = record {
  same_instance = refl;
  same_memory = refl;
  same_written = refl;
  same_plan = refl;
  long = c.put.auto.plan;
  writes = arrived-written c.requires.succeeding c.start_of-start.ensures c.in_default-action_of.ensures c.put.ensures refl c.requires.stands;
}

pub left_after-left-requires : goal.left_after-left-requires
left_after-left-requires t c = let x = c.requires.succeeding in let o = c.in-Some-action_of.ensures in let a = acts x c.start_of-start.ensures o.0 o.1 in a.light

pub invariant_of-action : goal.invariant_of-action
invariant_of-action t c = let x = c.requires.succeeding in let o = c.in-Some-action_of.ensures in let a = acts x c.start_of-start.ensures o.0 o.1 in record { below = omega (arith, a.within, c.args.self.now.instance.now.matching.ready.few_actions) }

pub loop-k-init : goal.loop-k-init
loop-k-init t c = let o = c.in-Some-action_of.ensures in (underway_begins c.requires c.start_of-start.ensures o.0 o.1 c.left_after-left.ensures c.outcome_count-k-end.ensures c.put.ensures refl, refl, refl, refl, refl)

pub invariant_of-successor : goal.invariant_of-successor
invariant_of-successor t c = let x = c.requires.succeeding in let o = c.in-Some-action_of.ensures in let a = acts x c.start_of-start.ensures o.0 o.1 in let n = c.args.self.now.instance.now.matching.ready.few_outcomes _ a.within in
    record { below = omega (arith, n, c.loop-k-test.true, c.outcome_count-k-end.ensures) }

pub write_plan-end-requires : goal.write_plan-end-requires
write_plan-end-requires t c = let x = c.requires.succeeding in let o = c.in-Some-action_of.ensures in let a = acts x c.start_of-start.ensures o.0 o.1 in let f = c.left_after-left.ensures in
    (omega (arith, f, c.args.self.now.instance.now.matching.ready.weights c.in-Some-action_of.m a.within, a.light, c.decreases), rw c.loop-k.invariant.1 (next_writable c.loop-k.invariant.0 c.loop-k-test.true c.successor-x.ensures (omega (arith, x.shallow, f))))

pub loop-k-preserved : goal.loop-k-preserved
loop-k-preserved t c = let i = c.loop-k.invariant in let y = c.write_plan-end.ensures in
    (underway_goes_on i.0 c.loop-k-test.true c.successor-x.ensures y.long (rw i.1 at y.writes), y.same_instance ∙ i.1, y.same_memory ∙ i.2, y.same_written ∙ i.3, y.same_plan ∙ i.4)

pub returns : goal.returns
returns t c = let i = c.loop-k.invariant in record {
  same_instance = i.1;
  same_memory = i.2;
  same_written = i.3;
  same_plan = i.4;
  long = i.0.writing.same_length ∙ c.put.auto.plan;
  writes = underway_ends i.0 _ c.loop-k-test.false c.put.ensures c.note_passage.ensures;
}
