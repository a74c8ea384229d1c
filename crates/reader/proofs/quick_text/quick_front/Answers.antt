-- `reader::quick_text::quick_front` meets its contract: the number of variables, the sizes, the number of actions, the actions. Assumes nothing.
use Rattle.std.proofs.lemmas.Option.{IfSome_then}
use Rattle.reader.specs.Bytes.{bytes}
use Rattle.reader.specs.Grammar.{action_from, key_vars}
use Rattle.reader.specs.declared.order.Due.TheVariants.{Vars, Size, Moves, Goal}
use Rattle.reader.proofs.QuickLines.{leads_here, leads_on, number_range}
use Rattle.reader.proofs.QuickOrder.{vars_on, moves_on}
use Rattle.reader.proofs.quick_text.quick_front.Goals as goal

pub quick_sizes-requires : goal.quick_sizes-requires
unfolding bytes
quick_sizes-requires c = (number_range c.args.s.now key_vars 1 16 c.args.rec.now 0 c.quick_number_line.new.rec c.in_ok-a.a.now (rw c.new.ensures at c.in_ok-a.ensures)).0

pub returns : goal.returns
unfolding bytes
returns c =
    let s = c.args.s.now in
    let r₀ = c.args.rec.now in
    let r₁ = c.quick_number_line.new.rec in
    let r₂ = c.quick_sizes.new.rec in
    let r₃ = c.quick_number_line-2.new.rec in
    let r₄ = c.quick_actions.new.rec in
    let a = c.in_ok-a.a.now in
    let b = c.in_ok-b.b.now in
    let d = c.in_ok-c.c.now in
    let p = rw c.new.ensures at c.in_ok-a.ensures in
    let q = rw c.new-2.ensures at c.in_ok-c.ensures in
    let e = vars_on Vars r₀ s s a r₀ r₁ (leads_here Vars r₀ s) p in
    let f = moves_on Vars r₀ s b d r₂ r₃ (leads_on Vars (Size 0) Moves r₀ r₁ r₂ s a b e c.in_ok-b.ensures) q in
    IfSome_then c.quick_actions.result c.quick_actions.ensures
    (λ x h. leads_on Vars (action_from r₃ 0) Goal r₀ r₃ r₄ s d x.now f h)
