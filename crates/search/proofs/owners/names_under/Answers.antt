-- `search::owners::names_under` meets its contract: the outcomes are asked one after the other. Assumes nothing.
use Rattle.std.proofs.Common.{refl, ◌∙◌, not, eqb, rules, tests}
use native.Mathlib.Nat.{sub-zero}
use lib.Bits.{bit_and}
use Rattle.std.proofs.lemmas.Iterator.{YieldsList-from_range}
use Rattle.std.proofs.lemmas.Iterator.Search.{any_from_yields_List}
use Rattle.packed_task.specs.Packed.{outcome_count, keep_mask}
use Rattle.search.specs.Owned.{touches}
use Rattle.search.proofs.Owning.{any_of_numbers}
use Rattle.search.proofs.owners.names_under.Goals as goal

pub returns : goal.returns
unfolding touches
returns c = let a = c.args in
    any_from_yields_List (λ k. not (eqb (bit_and (keep_mask a.task.now a.m.number k) a.mask) a.mask)) _ _ c.any.result c.any.ensures.ran
    (YieldsList-from_range 0 c.outcome_count.result (outcome_count a.task.now a.m.number) refl (rw sub-zero c.outcome_count.ensures)) (λ x b q k. search (rules, tests)) ∙ any_of_numbers 0 (outcome_count a.task.now a.m.number) _
