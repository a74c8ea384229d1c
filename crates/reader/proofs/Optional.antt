-- "The line may be left out, and that move then costs 1": where the cost of an action is due, a line without its key does what `cost=1` and then that
-- line do (`left_out_is_one`); and so of whole texts (`left_out_costs_one`, `one_may_be_left_out`). Assumes nothing.
use mathlib.Core.Path.{◌≡◌, refl, sym, ap, subst, ◌∙◌}
use mathlib.Core.Bool.{Bool, true, false, cond, ◌&&◌, false≢true}
use mathlib.Core.List.{List, [], ◌∷◌, ◌++◌}
use Prim.Native.Nat.{ℕ, zero, suc, ◌+◌}
use native.Mathlib.Omega.{arith}
use lib.Dec.{eqb}
use lib.ListN.{length, get_or, take, drop, set}
use lib.Seq.{sets}
use borrow.Author.Tests.{eqb-true}
use Rattle.task_record.specs.Layout.{at_variables, at_precondition, at_cost}
use Rattle.reader.specs.Bytes.{bytes}
use Rattle.reader.specs.Text.{line_break, index_of, has_key, lines_of, digits, value, well_formed, number_of}
use Rattle.reader.specs.Lists.{list_of, whole_list}
use Rattle.reader.specs.declared.lists.Kind.TheVariants.{Pairs}
use Rattle.reader.specs.Grammar.{Line, taken, faulty, go_on, key_need, key_cost, ended, next_due, take_number, take_list, number_line, budget_line, list_line, take_due, take_line, fault_at, Whole, complete, proceed, read_from, blank, read_whole}
use Rattle.task_record.specs.declared.refusal.Refusal.TheVariants.{UnexpectedLine}
use Rattle.reader.specs.declared.grammar.LineFault.TheVariants as of-line
use Rattle.reader.specs.declared.order.Due.{Due}
use Rattle.reader.specs.declared.order.Due.TheVariants.{Vars, Size, Moves, Need, Outcomes, Eff, Goal, Start, Patterns, Pattern, Limit, Budget, End, Cost}
use Rattle.planning.proofs.Test.{by_test}
use Rattle.task_record.proofs.Tests.{both_left}
use Rattle.reader.proofs.Lines.{read_taken, read_faulty, read_missing}
use Rattle.reader.proofs.Split.{lines_list}
use Rattle.reader.proofs.ReadSound.{refused_not_complete}

-- What a line does where the cost of action m is due: with its key it is the cost, without it is the number of outcomes.
module _ (r : List ℕ) (m : ℕ) (l : List ℕ) where
  pub given_line : has_key key_cost l ≡ true → take_line r (Cost m) l ≡ take_due r (Cost m) l
  unfolding take_line
  given_line h = rw h

  pub left_out_line : has_key key_cost l ≡ false → take_line r (Cost m) l ≡ take_due (set r (at_cost m) 1) (Outcomes m) l
  unfolding take_line
  left_out_line h = rw h

-- any other line must be the one that is due
pub other_line : (r l : List ℕ) (due : Due) → ((m : ℕ) → due ≡ Cost m → ⊥) → take_line r due l ≡ take_due r due l
unfolding take_line
other_line r l Vars h = refl
other_line r l (Size i) h = refl
other_line r l Moves h = refl
other_line r l (Need m) h = refl
other_line r l (Outcomes m) h = refl
other_line r l (Eff m k) h = refl
other_line r l Goal h = refl
other_line r l Start h = refl
other_line r l Patterns h = refl
other_line r l (Pattern p) h = refl
other_line r l Limit h = refl
other_line r l Budget h = refl
other_line r l End h = refl
other_line r l (Cost m) h = absurd (h m refl)

-- what a line does after another
abbrev pub then_line : Line → List ℕ → Line
then_line (taken due r) l = take_line r due l
then_line (faulty fault) l = faulty fault

abbrev pub cost_one : List ℕ
cost_one = bytes "cost=1"

-- `cost=1` says that action m costs 1
pub one_taken : (r : List ℕ) (m : ℕ) → take_line r (Cost m) cost_one ≡ taken (Outcomes m) (set r (at_cost m) 1)
unfolding take_line take_due number_line take_number next_due bytes has_key number_of well_formed digits value
one_taken r m = refl

-- Left out, it is 1: `outcomes=` does what `cost=1` and then `outcomes=` do, and any other line without the key is as faulty.
pub left_out_is_one : (r : List ℕ) (m : ℕ) (l : List ℕ) → has_key key_cost l ≡ false → take_line r (Cost m) l ≡ then_line (take_line r (Cost m) cost_one) l
unfolding take_line
left_out_is_one r m l h = left_out_line r m l h ∙ ap (λ x. then_line x l) (sym (one_taken r m))

-- a front of a text without a key has none
pub front_without : (key s : List ℕ) (n : ℕ) → has_key key s ≡ false → has_key key (take n s) ≡ false
unfolding has_key
front_without [] s n h = h
front_without (k ∷ ks) s zero h = refl
front_without (k ∷ ks) [] (suc n) h = refl
front_without (k ∷ ks) (x ∷ xs) (suc n) h =
    by_test (eqb x k) (λ t. rw t (front_without ks xs n (rw t at h))) (λ t. rw t)

-- The lines that are left, from the one on where the cost is due; and the text that is left.
module _ (n : ℕ) (r : List ℕ) (m : ℕ) where
  pub lines_left_out : (l : List ℕ) (ls : List (List ℕ)) → has_key key_cost l ≡ false → read_from n (Cost m) r (l ∷ ls) ≡ read_from n (Outcomes m) (set r (at_cost m) 1) (l ∷ ls)
  unfolding read_from take_line
  lines_left_out l ls h = rw h

  pub text_left_out : (s : List ℕ) → has_key key_cost s ≡ false → read_from n (Cost m) r (lines_of s) ≡ read_from n (Outcomes m) (set r (at_cost m) 1) (lines_of s)
  unfolding read_from lines_of
  text_left_out [] h = refl
  text_left_out (x ∷ xs) h =
      ap (read_from n (Cost m) r) (lines_list (x ∷ xs) (omega arith))
      ∙ lines_left_out (take k (x ∷ xs)) (lines_of (drop (suc k) (x ∷ xs))) (front_without key_cost (x ∷ xs) k h)
      ∙ sym (ap (read_from n (Outcomes m) (set r (at_cost m) 1)) (lines_list (x ∷ xs) (omega arith)))
    where
      k : ℕ
      k = index_of line_break (x ∷ xs)

-- One line, where what is read after it is read with other numbers too.
proceeds : (n k : ℕ) (x : Line) (f g : Due → List ℕ → Whole) (e : List ℕ) → ((d : Due) (r : List ℕ) → f d r ≡ complete e → g d r ≡ complete e)
    → proceed n x f ≡ complete e → proceed k x g ≡ complete e
proceeds n k (taken d r) f g e go h = go d r h
proceeds n k (faulty fault) f g e go h = refused_not_complete (fault_at fault n) e h

-- what lines say does not hang on their numbers
pub other_numbers : (ls : List (List ℕ)) (n k : ℕ) (due : Due) (r e : List ℕ) → read_from n due r ls ≡ complete e → read_from k due r ls ≡ complete e
unfolding read_from
other_numbers [] n k due r e h =
    by_test (ended due) (λ t. rw t (rw t at h)) (λ t. refused_not_complete (UnexpectedLine n) e (rw t at h))
other_numbers (l ∷ ls) n k due r e h =
    proceeds n k (take_line r due l) (λ d x. read_from (n + 1) d x ls) (λ d x. read_from (k + 1) d x ls) e (λ d x q. other_numbers ls (n + 1) (k + 1) d x e q) h

-- a line with the key of the cost is no line of outcomes
no_outcomes : (r : List ℕ) (m : ℕ) (l : List ℕ) → has_key key_cost l ≡ true → take_line r (Outcomes m) l ≡ faulty of-line.Unexpected
unfolding take_line take_due number_line bytes has_key
no_outcomes r m [] h = refl
no_outcomes r m (x ∷ xs) h = rw (eqb-true x 99 (both_left (eqb x 99) (has_key (bytes "ost=") xs) h))

-- lines that are read after the cost is known are read where it is due
after_one : (ls : List (List ℕ)) (n k : ℕ) (r : List ℕ) (m : ℕ) (e : List ℕ) → read_from n (Outcomes m) (set r (at_cost m) 1) ls ≡ complete e
    → read_from k (Cost m) r ls ≡ complete e
after_one [] n k r m e h = refused_not_complete (UnexpectedLine n) e (sym (read_missing n (Outcomes m) (set r (at_cost m) 1) refl) ∙ h)
after_one (l ∷ ls) n k r m e h =
    by_test (has_key key_cost l)
    (λ t. refused_not_complete (UnexpectedLine n) e
    (sym (read_faulty n (Outcomes m) (set r (at_cost m) 1) l ls of-line.Unexpected (no_outcomes (set r (at_cost m) 1) m l t)) ∙ h))
    (λ t. lines_left_out k r m l ls t ∙ other_numbers (l ∷ ls) n k (Outcomes m) (set r (at_cost m) 1) e h)

-- A line `cost=1` in front of lines that are read: the cost was due.
module _ (after : List (List ℕ)) (n k : ℕ) (r e : List ℕ) where
  not_due : {A : Type 0} (due : Due) → take_line r due cost_one ≡ faulty of-line.Unexpected → read_from n due r (cost_one ∷ after) ≡ complete e → A
  not_due due f h = refused_not_complete (fault_at of-line.Unexpected n) e (sym (read_faulty n due r cost_one after of-line.Unexpected f) ∙ h)

  one_first : (due : Due) → read_from n due r (cost_one ∷ after) ≡ complete e → read_from k due r after ≡ complete e
  unfolding take_line take_due number_line list_line budget_line bytes has_key
  one_first Vars h = not_due Vars refl h
  one_first (Size i) h = not_due (Size i) refl h
  one_first Moves h = not_due Moves refl h
  one_first (Need m) h = not_due (Need m) refl h
  one_first (Cost m) h = after_one after (n + 1) k r m e (sym (read_taken n (Cost m) r cost_one after (Outcomes m) (set r (at_cost m) 1) (one_taken r m)) ∙ h)
  one_first (Outcomes m) h = not_due (Outcomes m) refl h
  one_first (Eff m j) h = not_due (Eff m j) refl h
  one_first Goal h = not_due Goal refl h
  one_first Start h = not_due Start refl h
  one_first Patterns h = not_due Patterns refl h
  one_first (Pattern p) h = not_due (Pattern p) refl h
  one_first Limit h = not_due Limit refl h
  one_first Budget h = not_due Budget refl h
  one_first End h = not_due End refl h

-- the same with lines before it
one_removed : (before after : List (List ℕ)) (n k : ℕ) (due : Due) (r e : List ℕ) → read_from n due r (before ++ (cost_one ∷ after)) ≡ complete e
    → read_from k due r (before ++ after) ≡ complete e
unfolding read_from
one_removed [] after n k due r e h = one_first after n k r e due h
one_removed (l ∷ before) after n k due r e h =
    proceeds n k (take_line r due l) (λ d x. read_from (n + 1) d x (before ++ (cost_one ∷ after))) (λ d x. read_from (k + 1) d x (before ++ after)) e
    (λ d x q. one_removed before after (n + 1) (k + 1) d x e q) h

-- A line with the key of a precondition is faulty where another line is due; where it is due and taken, the cost is due next.
module _ (r : List ℕ) (x : ℕ) (xs : List ℕ) (n-first : x ≡ 110) where
  need_alone : {A : Type 0} (due : Due) → ((m : ℕ) → due ≡ Need m → A) → (take_line r due (x ∷ xs) ≡ faulty of-line.Unexpected → A) → A
  unfolding take_line take_due number_line list_line budget_line bytes has_key
  need_alone Vars is other = other (rw n-first)
  need_alone (Size i) is other = other (rw n-first)
  need_alone Moves is other = other (rw n-first)
  need_alone (Need m) is other = is m refl
  need_alone (Cost m) is other = other (rw n-first)
  need_alone (Outcomes m) is other = other (rw n-first)
  need_alone (Eff m k) is other = other (rw n-first)
  need_alone Goal is other = other (rw n-first)
  need_alone Start is other = other (rw n-first)
  need_alone Patterns is other = other (rw n-first)
  need_alone (Pattern p) is other = other (rw n-first)
  need_alone Limit is other = other (rw n-first)
  need_alone Budget is other = other (rw n-first)
  need_alone End is other = other refl

abbrev GoesOn : Due → Line → Type 0
GoesOn d (taken due r) = due ≡ d
GoesOn d (faulty fault) = Unit {0}

goes_on : (d : Due) (t : Bool) (x y : Line) → GoesOn d x → GoesOn d y → GoesOn d (cond t x y)
goes_on d true x y p q = p
goes_on d false x y p q = q

need_goes_on : (r : List ℕ) (m : ℕ) (l : List ℕ) → GoesOn (Cost m) (take_line r (Need m) l)
unfolding take_line take_due list_line take_list next_due
need_goes_on r m l =
    let g = list_of r Pairs (drop (length key_need) l) in
    let good = go_on (Need m) (sets r (at_precondition m) g.cells) in
    let allowed = g.list && whole_list (get_or r at_variables 0) Pairs g.next in
    let listed = cond allowed good (faulty of-line.List) in
    goes_on (Cost m) (has_key key_need l) (cond g.form listed (faulty of-line.Form)) (faulty of-line.Unexpected)
    (goes_on (Cost m) g.form listed (faulty of-line.Form) (goes_on (Cost m) allowed good (faulty of-line.List) refl tt) tt) tt

proceeds_to : (n k : ℕ) (d : Due) (x : Line) (f g : Due → List ℕ → Whole) (e : List ℕ) → GoesOn d x → ((r : List ℕ) → f d r ≡ complete e → g d r ≡ complete e)
    → proceed n x f ≡ complete e → proceed k x g ≡ complete e
proceeds_to n k d (taken due r) f g e q go h = subst (λ (z : Due). f z r ≡ complete e → g z r ≡ complete e) (sym q) (go r) h
proceeds_to n k d (faulty fault) f g e q go h = refused_not_complete (fault_at fault n) e h

-- Behind a line with a precondition, a line without the key of the cost: they are read with `cost=1` between them too.
module _ (l : List ℕ) (other : has_key key_cost l ≡ false) (after : List (List ℕ)) (e : List ℕ) where
  one_between : (n k : ℕ) (r : List ℕ) (m : ℕ) → read_from n (Cost m) r (l ∷ after) ≡ complete e → read_from k (Cost m) r (cost_one ∷ l ∷ after) ≡ complete e
  one_between n k r m h =
      read_taken k (Cost m) r cost_one (l ∷ after) (Outcomes m) (set r (at_cost m) 1) (one_taken r m)
      ∙ other_numbers (l ∷ after) n (k + 1) (Outcomes m) (set r (at_cost m) 1) e (sym (lines_left_out n r m l after other) ∙ h)

  need_first : (need : List ℕ) (n k : ℕ) (r : List ℕ) (m : ℕ) → read_from n (Need m) r (need ∷ l ∷ after) ≡ complete e
      → read_from k (Need m) r (need ∷ cost_one ∷ l ∷ after) ≡ complete e
  unfolding read_from
  need_first need n k r m h =
      proceeds_to n k (Cost m) (take_line r (Need m) need) (λ d x. read_from (n + 1) d x (l ∷ after)) (λ d x. read_from (k + 1) d x (cost_one ∷ l ∷ after)) e
      (need_goes_on r m need) (λ x q. one_between (n + 1) (k + 1) x m q) h

  one_first-added : (need : List ℕ) → has_key key_need need ≡ true → (n k : ℕ) (due : Due) (r : List ℕ) → read_from n due r (need ∷ l ∷ after) ≡ complete e
      → read_from k due r (need ∷ cost_one ∷ l ∷ after) ≡ complete e
  unfolding bytes has_key
  one_first-added [] has n k due r h = absurd (false≢true has)
  one_first-added (x ∷ xs) has n k due r h =
      need_alone r x xs (eqb-true x 110 (both_left (eqb x 110) (has_key (bytes "eed=") xs) has)) due
      (λ m q. subst (λ (d : Due). read_from n d r ((x ∷ xs) ∷ l ∷ after) ≡ complete e → read_from k d r ((x ∷ xs) ∷ cost_one ∷ l ∷ after) ≡ complete e) (sym q)
      (need_first (x ∷ xs) n k r m) h)
      (λ f. refused_not_complete (fault_at of-line.Unexpected n) e (sym (read_faulty n due r (x ∷ xs) (l ∷ after) of-line.Unexpected f) ∙ h))

  -- the same with lines before them
  one_added : (need : List ℕ) → has_key key_need need ≡ true → (before : List (List ℕ)) (n k : ℕ) (due : Due) (r : List ℕ)
      → read_from n due r (before ++ (need ∷ l ∷ after)) ≡ complete e → read_from k due r (before ++ (need ∷ cost_one ∷ l ∷ after)) ≡ complete e
  unfolding read_from
  one_added need has [] n k due r h = one_first-added need has n k due r h
  one_added need has (b ∷ before) n k due r h =
      proceeds n k (take_line r due b) (λ d x. read_from (n + 1) d x (before ++ (need ∷ l ∷ after)))
      (λ d x. read_from (k + 1) d x (before ++ (need ∷ cost_one ∷ l ∷ after))) e
      (λ d x q. one_added need has before (n + 1) (k + 1) d x q) h

-- "The line may be left out, and that move then costs 1", of whole texts. A good text in which a `need=` line has no cost behind it says the record that
-- it says with `cost=1` there.
pub left_out_costs_one : (text longer : List ℕ) (before : List (List ℕ)) (need l : List ℕ) (after : List (List ℕ)) (r : List ℕ)
    → has_key key_need need ≡ true → has_key key_cost l ≡ false → lines_of text ≡ before ++ (need ∷ l ∷ after)
    → lines_of longer ≡ before ++ (need ∷ cost_one ∷ l ∷ after) → read_whole text ≡ complete r → read_whole longer ≡ complete r
unfolding read_whole
left_out_costs_one text longer before need l after r has other p q h =
    ap (read_from 1 Vars blank) q ∙ one_added l other after r need has before 1 1 Vars blank (sym (ap (read_from 1 Vars blank) p) ∙ h)

-- And a line `cost=1` may be left out of any good text: without it the text says the same record.
pub one_may_be_left_out : (text shorter : List ℕ) (before after : List (List ℕ)) (r : List ℕ) → lines_of text ≡ before ++ (cost_one ∷ after)
    → lines_of shorter ≡ before ++ after → read_whole text ≡ complete r → read_whole shorter ≡ complete r
unfolding read_whole
one_may_be_left_out text shorter before after r p q h =
    ap (read_from 1 Vars blank) q ∙ one_removed before after 1 1 Vars blank r (sym (ap (read_from 1 Vars blank) p) ∙ h)
