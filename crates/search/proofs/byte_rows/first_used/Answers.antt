-- `search::byte_rows::first_used` meets its contract: the variables before the one that was found have no weight. Assumes nothing.
use Rattle.std.proofs.Common.{◌≡◌, rules, tests}
use Rattle.std.proofs.lemmas.Iterator.{YieldsList-from_slice, IsFirst-from_position}
use Rattle.search.proofs.BlocksFilled.{unused_first}
use Rattle.search.proofs.byte_rows.first_used.Goals as goal

pub returns : goal.returns
returns c = let ws = c.args.weights.now in
    rw c.unwrap_or.ensures (unused_first ws c.position.result (search rules)
    (IsFirst-from_position _ _ c.position.result (λ w. Unit {0}) (λ w. w ≡ 0) c.position.ensures.ran (YieldsList-from_slice ws c.iter.ensures.rest)
    (λ x q k. tt) (λ x q k. (search rules, search (rules, tests)))))
