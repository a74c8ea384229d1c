-- The reader's answer as the document's numbers, of each case ("Where an answer is an enum, a definition gives, for each of its cases, this paper's
-- number and values") and of the call, by the lines of "Where a call can say no". Assumes nothing.
use Rattle.std.specs.Prelude.{List, ℕ, Result}
use Rattle.planning.specs.Numbers.{Numbers, answered}
use Rattle.task_record.specs.Answers.{short_record}
use Rattle.task_record.specs.Refusals.{refusal_numbers, answer_numbers}
use Rattle.task_record.specs.declared.refusal.Refusal.{Refusal}
use Rattle.reader.specs.Grammar.{Whole, complete, refused, read_whole}

-- Kind 0: the text is read.
unfoldable pub read_numbers : Result Unit Refusal → Numbers
read_numbers read = answer_numbers (λ done. answered 0 0 0 0) read

-- Lines 1 to 4, of "the lowest faulty line"; kind 0 where there is none.
unfoldable pub whole_numbers : Whole → Numbers
whole_numbers (complete r) = answered 0 0 0 0
whole_numbers (refused refusal) = refusal_numbers refusal

-- The lines that concern the reader: "the reader tests 5 first".
unfoldable pub text_by_lines : List ℕ → List ℕ → Numbers
text_by_lines text record₀ = short_record record₀ (whole_numbers (read_whole text))
