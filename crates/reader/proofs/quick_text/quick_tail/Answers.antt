-- `reader::quick_text::quick_tail` meets its contract: the number of patterns, the patterns, the limit. Assumes nothing.
use Rattle.std.proofs.lemmas.Option.{IfSome_then}
use Rattle.reader.specs.Bytes.{bytes}
use Rattle.reader.specs.Grammar.{pattern_from}
use Rattle.reader.specs.declared.order.Due.TheVariants.{Patterns, Limit}
use Rattle.reader.proofs.QuickLines.{leads_here, leads_on}
use Rattle.reader.proofs.QuickOrder.{patterns_on, limit_on}
use Rattle.reader.proofs.quick_text.quick_tail.Goals as goal

pub returns : goal.returns
unfolding bytes
returns c =
    let s = c.args.s.now in
    let r₀ = c.args.rec.now in
    let r₁ = c.quick_number_line.new.rec in
    let r₂ = c.quick_patterns.new.rec in
    let a = c.in_ok-a.a.now in
    let b = c.in_ok-b.b.now in
    let p = patterns_on Patterns r₀ s s a r₀ r₁ (leads_here Patterns r₀ s) (rw c.new.ensures at c.in_ok-a.ensures) in
    let f = leads_on Patterns (pattern_from r₁ 0) Limit r₀ r₁ r₂ s a b p c.in_ok-b.ensures in
    IfSome_then c.quick_number_line-2.result (rw c.new-2.ensures at c.quick_number_line-2.ensures)
    (λ x h. limit_on Patterns r₀ s b x.now r₂ c.quick_number_line-2.new.rec f h)
