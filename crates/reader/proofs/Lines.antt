-- The lines of a text one after the other: one that is taken, one that is faulty, and none left.
-- Assumes nothing.
use mathlib.Core.Path.{◌≡◌}
use mathlib.Core.Bool.{true, false}
use mathlib.Core.List.{List, [], ◌∷◌}
use Prim.Native.Nat.{ℕ, ◌+◌}
use Rattle.reader.specs.declared.order.Due.{Due}
use Rattle.reader.specs.declared.grammar.LineFault.{LineFault}
use Rattle.task_record.specs.declared.refusal.Refusal.TheVariants.{UnexpectedLine}
use Rattle.reader.specs.Grammar.{ended, taken, faulty, take_line, fault_at, complete, refused, read_from}

module _ (n : ℕ) (due : Due) (r : List ℕ) where
  pub read_taken : (l : List ℕ) (ls : List (List ℕ)) (d : Due) (x : List ℕ) → take_line r due l ≡ taken d x → read_from n due r (l ∷ ls) ≡ read_from (n + 1) d x ls
  unfolding read_from
  read_taken l ls d x e = rw e

  pub read_faulty : (l : List ℕ) (ls : List (List ℕ)) (fault : LineFault) → take_line r due l ≡ faulty fault → read_from n due r (l ∷ ls) ≡ refused (fault_at fault n)
  unfolding read_from
  read_faulty l ls fault e = rw e

  pub read_complete : ended due ≡ true → read_from n due r [] ≡ complete r
  unfolding read_from
  read_complete e = rw e

  pub read_missing : ended due ≡ false → read_from n due r [] ≡ refused (UnexpectedLine n)
  unfolding read_from
  read_missing e = rw e
