-- A buffer that bytes are written to, past its end too. Assumes nothing.
use Rattle.std.specs.Prelude.{◌≡◌, List, ◌++◌, ℕ, ◌+◌, length, take, drop}
use Rattle.std.proofs.lemmas.List.Edits.{sets}
use Rattle.report.specs.declared.lines.Lines.{Lines}

-- The bytes w were written from `at` on, as far as the buffer reaches, and `end` is the place after them.
pub record Written (w : List ℕ) (at : ℕ) (old new : List ℕ) (end : ℕ) : Type 0 where
  pub ends : end ≡ at + length w
  pub holds : new ≡ sets old at w

-- A buffer whose start holds w, as far as it reaches; the rest as found.
unfoldable pub overwritten : List ℕ → List ℕ → List ℕ
overwritten w old = take (length old) w ++ drop (length w) old

-- The lines went from old to new by the bytes w: they hold the same buffer, and w was written from their place on.
pub record Puts (w : List ℕ) (old new : Lines) : Type 0 where
  pub same : new.out.ghost_name ≡ old.out.ghost_name
  pub written : Written w old.at old.out.now new.out.now new.at
