-- "The last line counts alike with or without" its line break: of a text whose last byte is no line break, and of that text with one added, the
-- answers agree, and so do the records they leave. Assumes nothing.
use mathlib.Core.Path.{◌≡◌}
use mathlib.Core.List.{List, [], ◌∷◌, ◌++◌}
use Prim.Native.Nat.{ℕ}
use borrow.Author.Tests.{ne_eqb}
use Rattle.reader.specs.Text.{line_break, lines_of}
use Rattle.reader.specs.Grammar.{read_whole, read_answer, read_leaves}

-- s followed by x, which is no line break, is any text that has a last line without one
module _ (x : ℕ) (no-break : x ≡ line_break → ⊥) where
  pub lines_with_last_break : (s : List ℕ) → lines_of ((s ++ (x ∷ [])) ++ (line_break ∷ [])) ≡ lines_of (s ++ (x ∷ []))
  unfolding lines_of
  lines_with_last_break [] = rw (ne_eqb x line_break no-break)
  lines_with_last_break (y ∷ ys) = rw (lines_with_last_break ys)

  pub answer_with_last_break : (s record₀ : List ℕ) → read_answer ((s ++ (x ∷ [])) ++ (line_break ∷ [])) record₀ ≡ read_answer (s ++ (x ∷ [])) record₀
  unfolding read_answer read_whole
  answer_with_last_break s record₀ = rw (lines_with_last_break s)

  pub leaves_with_last_break : (s record₀ : List ℕ) → read_leaves ((s ++ (x ∷ [])) ++ (line_break ∷ [])) record₀ ≡ read_leaves (s ++ (x ∷ [])) record₀
  unfolding read_leaves read_whole
  leaves_with_last_break s record₀ = rw (lines_with_last_break s)
