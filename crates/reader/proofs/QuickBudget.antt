-- The last line of a good text: where a budget stands between its key and the text's end, with or without a line break, the text is read whole.
-- Assumes nothing.
use mathlib.Core.Path.{◌≡◌, refl, sym, ap, ◌∙◌}
use mathlib.Core.Bool.{Bool, true, false, not, false≢true}
use mathlib.Core.List.{List, [], ◌∷◌, ◌++◌, append-nil}
use Prim.Native.Nat.{ℕ, ◌+◌, ◌-◌, ◌≤◌, ◌<◌}
use native.Mathlib.Omega.{arith}
use lib.Dec.{ltb, eqb}
use lib.ListN.{length, take, drop, get_or, drop_of_length-le, take-append-drop}
use lib.Seq.{drop-drop, drop-append_seam}
use borrow.Author.Tests.{ltb-true, ltb-false, not-true}
use Rattle.planning.proofs.Test.{by_test}
use Rattle.task_record.proofs.Rest.{drop_step}
use Rattle.task_record.proofs.Tests.{both_left, both_right}
use Rattle.reader.specs.Bytes.{bytes}
use Rattle.reader.specs.Text.{line_break, has_key, lines_of, well_formed, number_of}
use Rattle.reader.specs.Grammar.{Line, taken, faulty, complete, go_on, next_due, key_budget, take_budget, budget_line, take_due, take_line, read_from}
use Rattle.reader.specs.declared.order.Due.TheVariants.{Budget, End}
use Rattle.reader.proofs.Decimals.{formed_some, formed_digits}
use Rattle.reader.proofs.Lines.{read_taken, read_complete}
use Rattle.reader.proofs.Split.{lines_none}
use Rattle.reader.proofs.WrittenPieces.{lacks, digits_lack, line_parted}
use Rattle.reader.proofs.WrittenLines.{key_had}
use Rattle.reader.proofs.QuickLines.{key_split, key_line}

-- a text without a line break is one line
line_alone : (s : List ℕ) → lacks line_break s ≡ true → 1 ≤ length s → lines_of s ≡ s ∷ []
unfolding lines_of lacks
line_alone [] h n = absurd (omega arith)
line_alone (x ∷ []) h n = rw (not-true (eqb x line_break) (both_left (not (eqb x line_break)) (lacks line_break []) h))
line_alone (x ∷ (y ∷ ys)) h n =
    rw (not-true (eqb x line_break) (both_left (not (eqb x line_break)) (lacks line_break (y ∷ ys)) h), line_alone (y ∷ ys) (both_right (not (eqb x line_break)) (lacks line_break (y ∷ ys)) h) (omega arith))

abbrev was_taken : Line → Bool
was_taken (taken due r) = true
was_taken (faulty fault) = false

-- what is taken as a budget is a number
budget_formed : (r r' s : List ℕ) → take_budget r Budget (number_of s) ≡ go_on Budget r' → well_formed s ≡ true
unfolding take_budget number_of
budget_formed r r' s e = by_test (well_formed s) (λ q. q) (λ q. absurd (false≢true (ap was_taken (rw q at e))))

module _ (t : List ℕ) (from end : ℕ) (room : from ≤ end) (within : end ≤ length t) (last : length t ≤ end + 1)
    (ended : end < length t → get_or t end 0 ≡ line_break) where
  abbrev part : List ℕ
  part = take (end - from) (drop from t)

  part_alone : well_formed part ≡ true → lines_of (drop from t) ≡ part ∷ []
  part_alone f =
      let plain = digits_lack line_break part (λ x a b e. omega arith) (formed_digits part f) in
      let e : from + (end - from) ≡ end = omega arith in
      let split : drop from t ≡ part ++ drop end t =
      sym (take-append-drop (end - from) (drop from t)) ∙ ap (λ (z : List ℕ). part ++ z) (drop-drop (end - from) from t ∙ ap (λ (k : ℕ). drop k t) e) in
      by_test (ltb end (length t))
      (λ q. let l = ltb-true end (length t) q in
      ap lines_of (split ∙ ap (λ (z : List ℕ). part ++ z) (drop_step t end l ∙ rw (ended l, drop_of_length-le t {i = end + 1} last)))
      ∙ line_parted part [] plain ∙ rw lines_none)
      (λ q. ap lines_of (split ∙ ap (λ (z : List ℕ). part ++ z) (drop_of_length-le t (ltb-false end (length t) q)) ∙ append-nil part)
      ∙ line_alone part plain (formed_some part f))

  pub budget_ends : (at : ℕ) (r r' : List ℕ) → from ≡ at + 7 → has_key key_budget (drop at t) ≡ true → take_budget r Budget (number_of part) ≡ go_on Budget r' → (n : ℕ)
      → read_from n Budget r (lines_of (drop at t)) ≡ complete r'
  unfolding take_line take_due budget_line next_due bytes lacks
  budget_ends at r r' f had e n =
      let split : drop at t ≡ key_budget ++ drop from t = key_split key_budget (drop at t) had ∙ rw (drop-drop 7 at t, f) in
      let line : take_line r Budget (key_budget ++ part) ≡ go_on Budget r' = rw (key_had key_budget part, drop-append_seam key_budget part) e in
      ap (read_from n Budget r) (ap lines_of split ∙ key_line key_budget (drop from t) part [] refl (part_alone (budget_formed r r' part e)))
      ∙ read_taken n Budget r (key_budget ++ part) [] End r' line
      ∙ read_complete (n + 1) End r' refl
