-- `search::rounds::answer_found` meets its contract: too long, or written and filled up. Assumes nothing.
use Rattle.std.proofs.Common.{arith}
use Rattle.search.proofs.Conclusions.{too_long, fits, rest_filled}
use Rattle.search.proofs.rounds.answer_found.Goals as goal

pub returns-then-plan-bytes : goal.returns-then-plan-bytes
returns-then-plan-bytes c = λ x f. too_long _ _ x _ _ _ _ _ f c.if-plan-bytes.true c.clear.ensures

pub write_found-requires : goal.write_found-requires
write_found-requires c = let p = c.requires in let f = p.2.1 in
    (record { remembers = p.0; shallow = p.1; found = f.plan; made = f.made; is = f.again }, omega (arith, f.sized, c.if-plan-bytes.false), omega (arith, f.sized, f.short))

pub returns : goal.returns
returns c = λ x f. rw c.found_with.ensures (fits _ _ x _ _ _ _ _ f c.write_found.new.plan c.write_found.auto.plan c.if-plan-bytes.false (c.write_found.ensures f.plan f.made f.again) (rest_filled _ _ _ _ c.write_found.auto.plan c.if-plan-bytes.false c.clear-2.ensures))
