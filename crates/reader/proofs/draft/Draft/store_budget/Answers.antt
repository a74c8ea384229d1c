-- `reader::draft::Draft::store_budget` meets its contract: the number of variables stands before the budget. Assumes nothing.
use mathlib.Core.Path.{sym, subst}
use native.Mathlib.Omega.{arith}
use Prim.Native.Nat.{◌≤◌, ℕ}
use Rattle.task_record.specs.Layout.{at_budget}
use Rattle.reader.specs.Grammar.{budget_bytes}
use Rattle.reader.proofs.QuickLists.{front_kept}
use Rattle.reader.proofs.draft.Draft.store_budget.Goals as goal

pub invariant_of-self : goal.invariant_of-self
invariant_of-self c =
    let e = front_kept c.self.inside.cells c.put_budget.new.rec at_budget (budget_bytes c.args.n) 0 c.put_budget.ensures (omega arith) in
    subst (λ (k : ℕ). k ≤ 16) (sym e) c.self.invariant
