-- `reader::draft::Draft::clear` meets its contract: a blank record has no variables. Assumes nothing.
use lib.ListN.{get_or}
use mathlib.Core.List.{List}
use mathlib.Core.Path.{◌≡◌, refl, sym, subst}
use native.Mathlib.Omega.{arith}
use Prim.Native.Nat.{◌≤◌, ℕ}
use Rattle.reader.specs.Grammar.{blank}
use Rattle.reader.proofs.draft.Draft.clear.Goals as goal

none-yet : get_or blank 0 0 ≡ 0
unfolding blank
none-yet = refl

pub invariant_of-self : goal.invariant_of-self
invariant_of-self c = subst (λ (r : List ℕ). get_or r 0 0 ≤ 16) (sym c.clear_record.ensures) (omega (arith, none-yet))
