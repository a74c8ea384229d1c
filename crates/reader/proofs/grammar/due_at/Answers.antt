-- `reader::grammar::due_at` meets its contract: any line but a cost is the one that is due; a cost is, or it is left out. Assumes nothing.
use mathlib.Core.Path.{◌∙◌, ap, sym}
use mathlib.Core.List.{List}
use Prim.Native.Nat.{ℕ}
use lib.ListN.{set}
use Rattle.reader.specs.Bytes.{bytes}
use Rattle.reader.specs.Grammar.{key_cost, take_due, take_line}
use Rattle.reader.specs.declared.order.Due.{Due}
use Rattle.reader.specs.declared.order.Due.TheVariants.{Outcomes}
use Rattle.reader.proofs.Keys.{key_start}
use Rattle.reader.proofs.Optional.{given_line, left_out_line, other_line}
use Rattle.reader.proofs.grammar.due_at.Goals as goal

pub returns-in_default : goal.returns-in_default
returns-in_default c = other_line c.args.rec.now c.args.line.now c.args.due c.in_default.not-Cost

pub returns-then-starts_with : goal.returns-then-starts_with
unfolding bytes
returns-then-starts_with c =
    let l = c.args.line.now in
    ap (λ (d : Due). take_line c.args.rec.now d l) c.in-Cost.is
    ∙ given_line c.args.rec.now c.in-Cost.m l (sym (key_start key_cost l) ∙ sym c.starts_with.ensures.value ∙ c.if-starts_with.true)

pub returns : goal.returns
unfolding bytes
returns c =
    let l = c.args.line.now in
    ap (λ (d : Due). take_line c.args.rec.now d l) c.in-Cost.is
    ∙ left_out_line c.args.rec.now c.in-Cost.m l (sym (key_start key_cost l) ∙ sym c.starts_with.ensures.value ∙ c.if-starts_with.false)
    ∙ ap (λ (r : List ℕ). take_due r (Outcomes c.in-Cost.m) l) (ap (λ (k : ℕ). set c.args.rec.now k 1) (sym c.at_cost.ensures) ∙ sym c.put.ensures)
