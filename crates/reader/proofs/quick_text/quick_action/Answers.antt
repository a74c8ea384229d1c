-- `reader::quick_text::quick_action` meets its contract: the precondition, the cost, the number of outcomes, the outcomes. Assumes nothing.
use Prim.Native.Nat.{◌+◌, ◌≤◌, ℕ}
use lib.ListN.{get_or}
use mathlib.Core.List.{List}
use mathlib.Core.Path.{◌≡◌, ◌∙◌}
use Rattle.std.proofs.lemmas.Option.{IfSome_then}
use Rattle.task_record.specs.Layout.{at_action, at_precondition}
use native.Mathlib.Omega.{arith}
use Rattle.reader.specs.Bytes.{bytes}
use Rattle.reader.specs.Quick.{ListLine, NumberLine, Leads}
use Rattle.reader.specs.Grammar.{action_from, key_need, key_outcomes}
use Rattle.reader.specs.declared.lists.Kind.TheVariants.{Pairs}
use Rattle.reader.specs.declared.order.Due.TheVariants.{Need, Cost, Outcomes, Eff}
use Rattle.reader.proofs.QuickLines.{leads_here, leads_on, list_kept, number_kept, number_range}
use Rattle.reader.proofs.QuickOrder.{need_on, outcomes_on}
use Rattle.reader.proofs.quick_text.quick_action.Goals as goal

-- what is known before the outcomes

before-outcomes : (m : ℕ) (s a b d r₀ r₁ r₂ r₃ : List ℕ) → ListLine s key_need Pairs r₀ (at_precondition m) r₁ a
    → (get_or r₂ 1 0 ≡ get_or r₁ 1 0) × Leads (Cost m) r₁ a (Outcomes m) r₂ b → NumberLine b key_outcomes 1 8 r₂ (at_action m) r₃ d
    → (get_or r₃ 1 0 ≡ get_or r₀ 1 0) × ((1 ≤ get_or r₃ (at_action m) 0) × (get_or r₃ (at_action m) 0 ≤ 8)) × Leads (Need m) r₀ s (Eff m 0) r₃ d
before-outcomes m s a b d r₀ r₁ r₂ r₃ p w q =
    let kept = list_kept s key_need Pairs r₀ (at_precondition m) r₁ a p in
    let more = number_kept b key_outcomes 1 8 r₂ (at_action m) r₃ d q in (
      more 1 (λ e. omega arith) ∙ w.0 ∙ kept 1 (omega arith),
      number_range b key_outcomes 1 8 r₂ (at_action m) r₃ d q,
      outcomes_on (Need m) r₀ s b d r₂ r₃ m
          (leads_on (Need m) (Cost m) (Outcomes m) r₀ r₁ r₂ s a b (need_on (Need m) r₀ s s a r₀ r₁ m (leads_here (Need m) r₀ s) p) w.1) q,
    )

pub quick_outcomes-requires : goal.quick_outcomes-requires
unfolding bytes
quick_outcomes-requires c =
    let a = c.args in
    let e = before-outcomes a.m a.s.now c.in_ok-a.a.now c.in_ok-b.b.now c.in_ok-c.c.now a.rec.now c.quick_list_line.new.rec c.quick_cost.new.rec c.quick_number_line.new.rec
    (rw (c.new.ensures, c.at_precondition.ensures) at c.in_ok-a.ensures) c.in_ok-b.ensures (rw (c.new-2.ensures, c.at_action.ensures) at c.in_ok-c.ensures) in
    (c.requires, e.1.0, e.1.1)

pub returns : goal.returns
unfolding bytes
returns c =
    let a = c.args in
    let r = c.quick_number_line.new.rec in
    let d = c.in_ok-c.c.now in
    let e = before-outcomes a.m a.s.now c.in_ok-a.a.now c.in_ok-b.b.now d a.rec.now c.quick_list_line.new.rec c.quick_cost.new.rec r
    (rw (c.new.ensures, c.at_precondition.ensures) at c.in_ok-a.ensures) c.in_ok-b.ensures (rw (c.new-2.ensures, c.at_action.ensures) at c.in_ok-c.ensures) in
    IfSome_then c.quick_outcomes.result c.quick_outcomes.ensures
    (λ x h. (h.0 ∙ e.0, leads_on (Need a.m) (Eff a.m 0) (action_from c.quick_outcomes.new.rec (a.m + 1)) a.rec.now r c.quick_outcomes.new.rec a.s.now d x.now e.2 h.1))
