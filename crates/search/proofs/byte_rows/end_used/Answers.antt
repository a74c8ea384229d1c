-- `search::byte_rows::end_used` meets its contract: the variables after the one that was found have no weight. Assumes nothing.
use Rattle.std.proofs.Common.{◌≡◌, arith, rules, tests}
use Rattle.std.proofs.lemmas.Iterator.{IsFirst-from_position}
use Rattle.std.proofs.lemmas.Iterator.Adapters.{YieldsList-from_rev_slice}
use Rattle.search.proofs.BlocksFilled.{unused_last}
use Rattle.search.proofs.byte_rows.end_used.Goals as goal

pub returns : goal.returns
returns c = let ws = c.args.weights.now in
    rw c.unwrap_or.ensures (
      omega arith,
      unused_last ws c.position.result (search rules)
          (IsFirst-from_position _ _ c.position.result (λ w. Unit {0}) (λ w. w ≡ 0) c.position.ensures.ran (YieldsList-from_rev_slice ws (rw c.rev.ensures.source c.iter.ensures.rest))
          (λ x q k. tt) (λ x q k. (search rules, search (rules, tests)))),
    )
