-- `reader::quick_text::quick_lines` meets its contract: the lines up to the last action, the states, the rest. Assumes nothing.
use Rattle.std.proofs.lemmas.Option.{IfSome_then}
use Rattle.reader.specs.declared.order.Due.TheVariants.{Vars, Goal, Patterns, Budget}
use Rattle.reader.proofs.QuickLines.{leads_on}
use Rattle.reader.proofs.quick_text.quick_lines.Goals as goal

pub returns : goal.returns
returns c =
    let s = c.args.s.now in
    let r₀ = c.args.rec.now in
    let r₁ = c.quick_front.new.rec in
    let r₂ = c.quick_states.new.rec in
    let b = c.in_ok-b.b.now in
    let f = leads_on Vars Goal Patterns r₀ r₁ r₂ s c.in_ok-a.a.now b c.in_ok-a.ensures c.in_ok-b.ensures in
    IfSome_then c.quick_tail.result c.quick_tail.ensures (λ x h. leads_on Vars Patterns Budget r₀ r₂ c.quick_tail.new.rec s b x.now f h)
