-- A record that the reader made from a text is sound, and so is what a call that answers Ok leaves in the record it was lent.
-- Assumes nothing.
use mathlib.Core.Path.{◌≡◌, refl, ap, subst, ◌∙◌}
use mathlib.Core.Bool.{Bool, true, false, false≢true}
use mathlib.Core.List.{List, [], ◌∷◌, ◌++◌}
use Prim.Native.Nat.{ℕ, ◌+◌, ◌≤◌}
use native.Mathlib.Omega.{arith}
use lib.Dec.{ltb}
use lib.ListN.{length, drop, take, length-take}
use lib.Seq.{take_at}
use borrow.Author.Tests.{le-ltb, ltb-false}
use Rattle.task_record.specs.Layout.{record_size}
use Rattle.task_record.specs.Record.{Sound}
use Rattle.reader.specs.Text.{lines_of}
use Rattle.reader.specs.Grammar.{ended, Line, taken, faulty, take_line, fault_at, Whole, complete, refused, proceed, read_from, blank, read_whole, answer_of, read_answer, read_leaves}
use Rattle.reader.specs.declared.order.Due.{Due}
use Rattle.reader.specs.declared.order.Due.TheVariants.{Vars, Size, Moves, Need, Outcomes, Eff, Goal, Start, Patterns, Pattern, Limit, Budget, End, Cost}
use Rattle.std.specs.Prelude.{Ok, is_ok}
use Rattle.task_record.specs.declared.refusal.Refusal.{Refusal}
use Rattle.task_record.specs.declared.refusal.Refusal.TheVariants.{UnexpectedLine}
use Rattle.planning.proofs.Test.{by_test}
use Rattle.task_record.proofs.Soundness.{sound_length}
use Rattle.task_record.proofs.LongerRecords.{check_of_front}
use Rattle.reader.proofs.StoredCells.{blank_front}
use Rattle.reader.proofs.Filling.{blank-filled, filled_sound}
use Rattle.reader.proofs.Begun.{Settled, Begun, Kept}
use Rattle.reader.proofs.LinesKept.{line_kept}

-- When nothing is due, the record is settled.
pub ended_settled : (due : Due) (r : List ℕ) → ended due ≡ true → Begun due r → Settled r
ended_settled Vars r e h = absurd (false≢true e)
ended_settled (Size i) r e h = absurd (false≢true e)
ended_settled Moves r e h = absurd (false≢true e)
ended_settled (Need m) r e h = absurd (false≢true e)
ended_settled (Cost m) r e h = absurd (false≢true e)
ended_settled (Outcomes m) r e h = absurd (false≢true e)
ended_settled (Eff m k) r e h = absurd (false≢true e)
ended_settled Goal r e h = absurd (false≢true e)
ended_settled Start r e h = absurd (false≢true e)
ended_settled Patterns r e h = h.0
ended_settled (Pattern p) r e h = h.0
ended_settled Limit r e h = h
ended_settled Budget r e h = h
ended_settled End r e h = h

-- A text that was read has its record; a refused one has none.
abbrev record_of : Whole → List ℕ
record_of (complete r) = r
record_of (refused refusal) = []

-- whether it was read
abbrev is_complete : Whole → Bool
is_complete (complete r) = true
is_complete (refused refusal) = false

-- a refused text is no record
pub refused_not_complete : {A : Type 0} (refusal : Refusal) (e : List ℕ) → refused refusal ≡ complete e → A
refused_not_complete refusal e h = absurd (false≢true (ap is_complete h))

-- one line, and what the rest makes of what it leaves
pub rest_settled : (n : ℕ) (x : Line) (rest : Due → List ℕ → Whole) (e : List ℕ) → ((d : Due) (r : List ℕ) → Begun d r → rest d r ≡ complete e → Settled e)
    → Kept x → proceed n x rest ≡ complete e → Settled e
rest_settled n (taken d r) rest e go k h = go d r k h
rest_settled n (faulty fault) rest e go k h = refused_not_complete (fault_at fault n) e h

-- all lines from one on
pub read_from_settled : (ls : List (List ℕ)) (n : ℕ) (due : Due) (r e : List ℕ) → Begun due r → read_from n due r ls ≡ complete e → Settled e
unfolding read_from
read_from_settled [] n due r e b h =
    by_test (ended due)
    (λ t. subst Settled (ap record_of (rw t at h)) (ended_settled due r t b))
    (λ t. refused_not_complete (UnexpectedLine n) e (rw t at h))
read_from_settled (l ∷ ls) n due r e b h =
    rest_settled n (take_line r due l) (λ d x. read_from (n + 1) d x ls) e (λ d x k q. read_from_settled ls (n + 1) d x e k q) (line_kept r l due b) h

-- A record that was read from a text is whole, has everything, and is sound.
pub read_settled : (text r : List ℕ) → read_whole text ≡ complete r → Settled r
unfolding read_whole
read_settled text r h =
    read_from_settled (lines_of text) 1 Vars blank r (blank-filled, blank_front 0 (omega arith), blank_front 1 (omega arith), blank_front 2 (omega arith)) h

-- what was read is sound
pub read_sound : (text r : List ℕ) → read_whole text ≡ complete r → Sound r
read_sound text r h = let s = read_settled text r h in filled_sound r s.filled s.some s.started

-- and 9,528 bytes long
pub read_length : (text r : List ℕ) → read_whole text ≡ complete r → length r ≡ record_size
read_length text r h = (read_settled text r h).filled.whole

-- A call that answers Ok had a record of 9,528 bytes or more, and a text that says a record.
pub answered_record : (w : Whole) → answer_of w ≡ Ok tt → (r : List ℕ) × (w ≡ complete r)
answered_record (complete r) h = (r, refl)
answered_record (refused refusal) h = absurd (false≢true (ap is_ok h))

-- the call tests the length first
pub read_answers : (text record₀ : List ℕ) → read_answer text record₀ ≡ Ok tt → (record_size ≤ length record₀) × (answer_of (read_whole text) ≡ Ok tt)
unfolding read_answer
read_answers text record₀ h =
    by_test (ltb (length record₀) record_size)
    (λ t. absurd (false≢true (ap is_ok (rw t at h))))
    (λ t. (ltb-false (length record₀) record_size t, rw t at h))

-- What it leaves: the record that the text says, in front of what stood after it.
pub read_leaves_lem : (text record₀ r : List ℕ) → record_size ≤ length record₀ → read_whole text ≡ complete r → read_leaves text record₀ ≡ r ++ drop record_size record₀
unfolding read_leaves
read_leaves_lem text record₀ r long h = rw (le-ltb (length record₀) record_size long, h)

-- The first 9,528 bytes that such a call leaves are a sound record, and so is all of it.
module _ (text record₀ : List ℕ) (answer : read_answer text record₀ ≡ Ok tt) where
  -- the first 9,528 bytes
  pub front_left_sound : Sound (take record_size (read_leaves text record₀))
  front_left_sound =
      let a = read_answers text record₀ answer in
      let w = answered_record (read_whole text) a.1 in
      let n = read_length text w.0 w.1 in
      rw (read_leaves_lem text record₀ w.0 a.0 w.1, take_at w.0 (drop record_size record₀) record_size n) (read_sound text w.0 w.1)

  -- all of it
  pub record_left_sound : Sound (read_leaves text record₀)
  unfolding Sound
  record_left_sound =
      let l = length-take record_size (read_leaves text record₀) in
      let n = sound_length (take record_size (read_leaves text record₀)) front_left_sound in
      check_of_front (read_leaves text record₀) (omega arith) ∙ front_left_sound
