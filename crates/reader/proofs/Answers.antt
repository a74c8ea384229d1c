-- What a call answers and leaves once it is known what the text says. Assumes nothing.
use mathlib.Core.Path.{◌≡◌}
use mathlib.Core.List.{List, ◌++◌}
use Prim.Native.Nat.{ℕ, ◌≤◌}
use lib.ListN.{drop, length}
use borrow.Author.Tests.{le-ltb}
use Rattle.task_record.specs.Layout.{record_size}
use Rattle.reader.specs.Grammar.{complete, read_answer, read_leaves, read_whole, refused}
use Rattle.std.specs.Prelude.{Ok, Err}
use Rattle.task_record.specs.declared.refusal.Refusal.{Refusal}

module _ (text record₀ : List ℕ) (room : record_size ≤ length record₀) where
  pub answers_read : (r : List ℕ) → read_whole text ≡ complete r → (Ok tt ≡ read_answer text record₀) × (r ++ drop record_size record₀ ≡ read_leaves text record₀)
  unfolding read_answer read_leaves
  answers_read r e = (rw (le-ltb (length record₀) record_size room, e), rw (le-ltb (length record₀) record_size room, e))

  pub answers_refused : (refusal : Refusal) → read_whole text ≡ refused refusal
      → (Err refusal ≡ read_answer text record₀) × (record₀ ≡ read_leaves text record₀)
  unfolding read_answer read_leaves
  answers_refused refusal e = (rw (le-ltb (length record₀) record_size room, e), rw (le-ltb (length record₀) record_size room, e))
