-- Laws of the scan for a conflict: the verdict action by action, and the affected patterns of an action pattern by pattern. A pattern that
-- is not affected is passed; the first that is stands first in the list of the affected ones, the next second, and these two make the
-- judgement. Assumes nothing.
use mathlib.Core.Path.{◌≡◌, refl, ◌∙◌}
use mathlib.Core.Bool.{true, false}
use mathlib.Core.List.{List, [], ◌∷◌}
use Prim.Native.Nat.{ℕ, ◌+◌, ◌≤◌, ◌<◌}
use native.Mathlib.Numerals.{add-one}
use lib.ListN.{length, get_or, drop}
use lib.Seq.{drop-cons}
use Rattle.planning.specs.Task.{Action, Task, action_at, no_action}
use Rattle.planning.specs.Pattern.{affects_pattern, affected_from, Verdict, additive, conflict, judge, verdict_from, verdict}
use Rattle.patterns.proofs.Weights.{drop_all}

-- The affected patterns from number p on.
abbrev pub affected_after : List (List ℕ) → Action → ℕ → List ℕ
affected_after ps a p = affected_from p (drop p ps) a

module _ (ps : List (List ℕ)) (a : Action) (p : ℕ) where
  pub affected_none_left : length ps ≤ p → affected_after ps a p ≡ []
  unfolding affected_from
  affected_none_left l = rw (drop_all ps p l)

  pub affected_passed : p < length ps → affects_pattern a (get_or ps p []) ≡ false → affected_after ps a p ≡ affected_after ps a (p + 1)
  unfolding affected_from
  affected_passed l e = rw (drop-cons ps p [] l, e, add-one p)

  pub affected_first : p < length ps → affects_pattern a (get_or ps p []) ≡ true → affected_after ps a p ≡ p ∷ affected_after ps a (p + 1)
  unfolding affected_from
  affected_first l e = rw (drop-cons ps p [] l, e, add-one p)

module _ (t : Task) (ps : List (List ℕ)) where
  -- The verdict on the actions from number m on.
  abbrev pub verdict_after : ℕ → Verdict
  verdict_after m = verdict_from m (drop m t.actions) ps

  pub verdict-at_start : verdict t ps ≡ verdict_after 0
  unfolding verdict
  verdict-at_start = refl

  pub verdict_at_end : (m : ℕ) → length t.actions ≤ m → verdict_after m ≡ additive
  unfolding verdict_from
  verdict_at_end m l = rw (drop_all t.actions m l)

  module _ (m : ℕ) (l : m < length t.actions) where
    verdict_judged : verdict_after m ≡ judge m (affected_after ps (action_at t m) 0) (λ u. verdict_after (m + 1))
    unfolding verdict_from
    verdict_judged = rw (drop-cons t.actions m no_action l, add-one m)

    -- Fewer than two affected patterns: the next action decides. Two: they are the conflict.
    pub none_affected : affected_after ps (action_at t m) 0 ≡ [] → verdict_after m ≡ verdict_after (m + 1)
    unfolding judge
    none_affected e = verdict_judged ∙ rw e

    pub one_affected : (p : ℕ) → affected_after ps (action_at t m) 0 ≡ p ∷ [] → verdict_after m ≡ verdict_after (m + 1)
    unfolding judge
    one_affected p e = verdict_judged ∙ rw e

    pub two_affected : (p q : ℕ) (others : List ℕ) → affected_after ps (action_at t m) 0 ≡ p ∷ (q ∷ others) → verdict_after m ≡ conflict m p q
    unfolding judge
    two_affected p q others e = verdict_judged ∙ rw e
