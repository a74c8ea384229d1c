-- `reader::quick_text::quick_states` meets its contract: the goal, then the start. Assumes nothing.
use Rattle.std.proofs.lemmas.Option.{IfSome_then}
use Rattle.reader.specs.Bytes.{bytes}
use Rattle.reader.specs.declared.order.Due.TheVariants.{Goal}
use Rattle.reader.proofs.QuickLines.{leads_here}
use Rattle.reader.proofs.QuickOrder.{goal_on, start_on}
use Rattle.reader.proofs.quick_text.quick_states.Goals as goal

pub returns : goal.returns
unfolding bytes
returns c =
    let s = c.args.s.now in
    let r₀ = c.args.rec.now in
    let r₁ = c.quick_list_line.new.rec in
    let r₂ = c.quick_list_line-2.new.rec in
    let a = c.in_ok-a.a.now in
    let p = rw c.new.ensures at c.in_ok-a.ensures in
    IfSome_then c.quick_list_line-2.result (rw c.new-2.ensures at c.quick_list_line-2.ensures)
    (λ x h. start_on Goal r₀ s a x.now r₁ r₂ (goal_on Goal r₀ s s a r₀ r₁ (leads_here Goal r₀ s) p) h)
