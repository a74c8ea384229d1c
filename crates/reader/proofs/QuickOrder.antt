-- A way through good lines goes on by one line more, for each line that can be due. Assumes nothing.
use mathlib.Core.Path.{◌≡◌, refl}
use mathlib.Core.Bool.{false, cond}
use mathlib.Core.List.{List, ◌++◌}
use native.Mathlib.Nat.{add-zero}
use Prim.Native.Nat.{ℕ, ◌+◌}
use native.Mathlib.Omega.{arith}
use lib.Dec.{ltb}
use lib.ListN.{get_or, set}
use Rattle.task_record.specs.Layout.{at_variables, at_actions, at_patterns, at_limit, at_sizes, at_goal, at_start, at_pattern, at_action, at_precondition, at_outcome, at_cost}
use Rattle.reader.specs.Bytes.{bytes}
use Rattle.reader.specs.Text.{has_key}
use Rattle.reader.specs.Grammar.{key_vars, key_size, key_moves, key_need, key_cost, key_outcomes, key_eff, key_goal, key_start, key_patterns, key_pattern, key_limit, action_from, pattern_from, next_due, number_line, take_due, take_line}
use Rattle.reader.specs.Quick.{ListLine, NumberLine, Leads}
use Rattle.reader.specs.declared.lists.Kind.TheVariants.{Pairs, Values, Members}
use Rattle.reader.specs.declared.order.Due.{Due}
use Rattle.reader.specs.declared.order.Due.TheVariants.{Vars, Size, Moves, Need, Outcomes, Eff, Goal, Start, Patterns, Pattern, Limit, Budget, Cost}
use Rattle.reader.proofs.WrittenPieces.{lacks}
use Rattle.reader.proofs.WrittenLines.{key_had}
use Rattle.reader.proofs.Optional.{text_left_out}
use Rattle.reader.proofs.QuickLines.{leads_on, number_leads, list_leads}

-- a cost that is left out
pub no-cost_leads : (m : ℕ) (r s : List ℕ) → has_key key_cost s ≡ false → Leads (Cost m) r s (Outcomes m) (set r (at_cost m) 1) s
no-cost_leads m r s h = record { lines = 0; same = λ n. rw add-zero (text_left_out n r m s h) }

module _ (d₀ : Due) (r₀ s₀ s e r r' : List ℕ) where
  abbrev Way : Due → List ℕ → List ℕ → Type 0
  Way due x at = Leads d₀ r₀ s₀ due x at

  pub vars_on : Way Vars r s → NumberLine s key_vars 1 16 r at_variables r' e → Way (Size 0) r' e
  unfolding take_line take_due next_due bytes lacks
  vars_on f n = leads_on d₀ Vars (Size 0) r₀ r r' s₀ s e f (number_leads s e key_vars Vars r r' refl 1 16 at_variables (omega arith) (λ l. refl) n)

  pub size_on : (i : ℕ) → Way (Size i) r s → NumberLine s key_size 2 16 r (at_sizes + i) r' e → Way (cond (ltb (i + 1) (get_or r' at_variables 0)) (Size (i + 1)) Moves) r' e
  unfolding take_line take_due next_due bytes lacks
  size_on i f n = leads_on d₀ (Size i) (next_due r' (Size i)) r₀ r r' s₀ s e f (number_leads s e key_size (Size i) r r' refl 2 16 (at_sizes + i) (omega arith) (λ l. refl) n)

  pub moves_on : Way Moves r s → NumberLine s key_moves 0 64 r at_actions r' e → Way (action_from r' 0) r' e
  unfolding take_line take_due next_due bytes lacks
  moves_on f n = leads_on d₀ Moves (action_from r' 0) r₀ r r' s₀ s e f (number_leads s e key_moves Moves r r' refl 0 64 at_actions (omega arith) (λ l. refl) n)

  pub need_on : (m : ℕ) → Way (Need m) r s → ListLine s key_need Pairs r (at_precondition m) r' e → Way (Cost m) r' e
  unfolding take_line take_due next_due bytes lacks
  need_on m f n = leads_on d₀ (Need m) (Cost m) r₀ r r' s₀ s e f (list_leads s e key_need (Need m) r r' refl Pairs (at_precondition m) (λ l. refl) n)

  -- a cost that is written
  cost_line : (m : ℕ) (l : List ℕ) → take_line r (Cost m) (key_cost ++ l) ≡ number_line r (Cost m) (key_cost ++ l) key_cost 1 255 (at_cost m)
  unfolding take_line take_due
  cost_line m l = rw (key_had key_cost l)

  pub cost_on : (m : ℕ) → Way (Cost m) r s → NumberLine s key_cost 1 255 r (at_cost m) r' e → Way (Outcomes m) r' e
  unfolding next_due bytes lacks
  cost_on m f n = leads_on d₀ (Cost m) (Outcomes m) r₀ r r' s₀ s e f (number_leads s e key_cost (Cost m) r r' refl 1 255 (at_cost m) (omega arith) (cost_line m) n)

  pub outcomes_on : (m : ℕ) → Way (Outcomes m) r s → NumberLine s key_outcomes 1 8 r (at_action m) r' e → Way (Eff m 0) r' e
  unfolding take_line take_due next_due bytes lacks
  outcomes_on m f n = leads_on d₀ (Outcomes m) (Eff m 0) r₀ r r' s₀ s e f (number_leads s e key_outcomes (Outcomes m) r r' refl 1 8 (at_action m) (omega arith) (λ l. refl) n)

  pub eff_on : (m o : ℕ) → Way (Eff m o) r s → ListLine s key_eff Pairs r (at_outcome m o) r' e → Way (cond (ltb (o + 1) (get_or r' (at_action m) 0)) (Eff m (o + 1)) (action_from r' (m + 1))) r' e
  unfolding take_line take_due next_due bytes lacks
  eff_on m o f n = leads_on d₀ (Eff m o) (next_due r' (Eff m o)) r₀ r r' s₀ s e f (list_leads s e key_eff (Eff m o) r r' refl Pairs (at_outcome m o) (λ l. refl) n)

  pub goal_on : Way Goal r s → ListLine s key_goal Pairs r at_goal r' e → Way Start r' e
  unfolding take_line take_due next_due bytes lacks
  goal_on f n = leads_on d₀ Goal Start r₀ r r' s₀ s e f (list_leads s e key_goal Goal r r' refl Pairs at_goal (λ l. refl) n)

  pub start_on : Way Start r s → ListLine s key_start Values r at_start r' e → Way Patterns r' e
  unfolding take_line take_due next_due bytes lacks
  start_on f n = leads_on d₀ Start Patterns r₀ r r' s₀ s e f (list_leads s e key_start Start r r' refl Values at_start (λ l. refl) n)

  pub patterns_on : Way Patterns r s → NumberLine s key_patterns 0 8 r at_patterns r' e → Way (pattern_from r' 0) r' e
  unfolding take_line take_due next_due bytes lacks
  patterns_on f n = leads_on d₀ Patterns (pattern_from r' 0) r₀ r r' s₀ s e f (number_leads s e key_patterns Patterns r r' refl 0 8 at_patterns (omega arith) (λ l. refl) n)

  pub pattern_on : (p : ℕ) → Way (Pattern p) r s → ListLine s key_pattern Members r (at_pattern p) r' e → Way (pattern_from r' (p + 1)) r' e
  unfolding take_line take_due next_due bytes lacks
  pattern_on p f n = leads_on d₀ (Pattern p) (pattern_from r' (p + 1)) r₀ r r' s₀ s e f (list_leads s e key_pattern (Pattern p) r r' refl Members (at_pattern p) (λ l. refl) n)

  pub limit_on : Way Limit r s → NumberLine s key_limit 0 255 r at_limit r' e → Way Budget r' e
  unfolding take_line take_due next_due bytes lacks
  limit_on f n = leads_on d₀ Limit Budget r₀ r r' s₀ s e f (number_leads s e key_limit Limit r r' refl 0 255 at_limit (omega arith) (λ l. refl) n)
