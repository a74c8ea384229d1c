-- `reader::draft::Draft::allows` meets its contract: the invariant bounds the variables. Assumes nothing.
use mathlib.Core.Path.{◌∙◌, sym}
use native.Mathlib.Omega.{arith}
use Rattle.reader.proofs.draft.Draft.allows.Goals as goal

pub returns : goal.returns
returns c = λ e. let b = c.allowed.ensures.bounds e in (sym (rw c.self.view_is at c.allowed.ensures.value) ∙ e, omega (arith, b.0, c.self.invariant), b.2)
