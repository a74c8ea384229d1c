-- Good lines one after the other: what a line with a number or a list leads to, and how such ways are joined. Assumes nothing.
use mathlib.Core.Path.{◌≡◌, refl, sym, ap, ◌∙◌}
use mathlib.Core.Bool.{true, not, false≢true}
use mathlib.Core.List.{List, [], ◌∷◌, ◌++◌}
use Prim.Native.Nat.{ℕ, ◌+◌, ◌≤◌, ◌<◌}
use native.Mathlib.Nat.{add_assoc, add-zero}
use native.Mathlib.Omega.{arith}
use lib.Dec.{eqb}
use lib.ListN.{length, drop, get_or, set}
use lib.Seq.{sets, drop-append_seam, get_or-set_other}
use borrow.Author.Tests.{eqb-true, not-true}
use Rattle.reader.specs.Text.{line_break, has_key, lines_of}
use Rattle.reader.specs.Lists.{list_of, whole_list}
use Rattle.reader.specs.Grammar.{go_on, next_due, take_line, take_list, number_line, list_line, read_from}
use Rattle.reader.specs.Written.{decimal}
use Rattle.reader.specs.Quick.{ListLine, NumberAt, NumberLine, Leads, good_so_far}
use Rattle.reader.specs.declared.lists.Kind.{Kind}
use Rattle.reader.specs.declared.order.Due.{Due}
use Rattle.task_record.specs.Layout.{at_variables}
use Rattle.task_record.proofs.Tests.{both_left, both_right}
use Rattle.reader.proofs.Lines.{read_taken}
use Rattle.reader.proofs.QuickNumbers.{first_byte}
use Rattle.reader.proofs.QuickLists.{front_kept}
use Rattle.reader.proofs.WrittenPieces.{lacks, decimal_lacks, line_parted}
use Rattle.reader.proofs.WrittenLines.{key_had, number_line_read}

-- a text that has a key is the key and the rest
pub key_split : (key s : List ℕ) → has_key key s ≡ true → s ≡ key ++ drop (length key) s
unfolding has_key
key_split [] s h = refl
key_split (k ∷ ks) [] h = absurd (false≢true h)
key_split (k ∷ ks) (x ∷ xs) h =
    rw (eqb-true x k (both_left (eqb x k) (has_key ks xs) h)) (ap (λ (z : List ℕ). k ∷ z) (key_split ks xs (both_right (eqb x k) (has_key ks xs) h)))

-- the first line of such a text has the key in front
pub key_line : (key s l : List ℕ) (ls : List (List ℕ)) → lacks line_break key ≡ true → lines_of s ≡ l ∷ ls → lines_of (key ++ s) ≡ (key ++ l) ∷ ls
unfolding lines_of lacks
key_line [] s l ls h e = e
key_line (k ∷ ks) s l ls h e =
    rw (not-true (eqb k line_break) (both_left (not (eqb k line_break)) (lacks line_break ks) h), key_line ks s l ls (both_right (not (eqb k line_break)) (lacks line_break ks) h) e)

-- Ways.
pub leads_here : (due : Due) (r s : List ℕ) → Leads due r s due r s
leads_here due r s = record { lines = 0; same = λ n. rw add-zero }

pub leads_on : (d₀ d₁ d₂ : Due) (r₀ r₁ r₂ s₀ s₁ s₂ : List ℕ) → Leads d₀ r₀ s₀ d₁ r₁ s₁ → Leads d₁ r₁ s₁ d₂ r₂ s₂ → Leads d₀ r₀ s₀ d₂ r₂ s₂
leads_on d₀ d₁ d₂ r₀ r₁ r₂ s₀ s₁ s₂ f g =
    record { lines = f.lines + g.lines; same = λ n. f.same n ∙ rw (add_assoc n f.lines g.lines) at (g.same (n + f.lines)) }

list_line_good : (r : List ℕ) (due : Due) (key : List ℕ) (kind : Kind) (row : ℕ) (l : List ℕ) (last : ℕ) (cells : List ℕ)
    → list_of r kind l ≡ good_so_far last cells → whole_list (get_or r at_variables 0) kind last ≡ true
    → list_line r due (key ++ l) key kind row ≡ go_on due (sets r row cells)
unfolding list_line take_list
list_line_good r due key kind row l last cells e w = rw (key_had key l, drop-append_seam key l, e, w)

-- A line.
module _ (s rest key : List ℕ) (due : Due) (r r' : List ℕ) (plain : lacks line_break key ≡ true) where
  line_leads : (value l : List ℕ) → s ≡ key ++ value → lines_of value ≡ l ∷ lines_of rest → take_line r due (key ++ l) ≡ go_on due r'
      → Leads due r s (next_due r' due) r' rest
  line_leads value l had e k =
      record {
        lines = 1;
        same =
            λ n. ap (read_from n due r) (ap lines_of had ∙ key_line key value l (lines_of rest) plain e)
            ∙ read_taken n due r (key ++ l) (lines_of rest) (next_due r' due) r' k;
      }

  pub number_leads : (lo hi cell : ℕ) → hi ≤ 255 → ((l : List ℕ) → take_line r due (key ++ l) ≡ number_line r due (key ++ l) key lo hi cell)
      → NumberLine s key lo hi r cell r' rest → Leads due r s (next_due r' due) r' rest
  number_leads lo hi cell small is z =
      let a = z.stands in
      let h = a.most in
      line_leads z.value (decimal a.number) z.had a.line
      (is (decimal a.number) ∙ number_line_read r due key lo hi cell a.number a.least a.most (omega arith) ∙ ap (go_on due) (sym a.stored))

  pub list_leads : (kind : Kind) (row : ℕ) → ((l : List ℕ) → take_line r due (key ++ l) ≡ list_line r due (key ++ l) key kind row)
      → ListLine s key kind r row r' rest → Leads due r s (next_due r' due) r' rest
  list_leads kind row is z =
      let a = z.list in
      line_leads z.value a.text z.had a.line
      (is a.text ∙ list_line_good r due key kind row a.text a.last a.cells a.says a.whole ∙ ap (go_on due) (sym a.stored))

-- a number at the end of its line
pub number_at : (s m : List ℕ) (lo hi : ℕ) (r : List ℕ) (cell n : ℕ) (r' : List ℕ) → s ≡ decimal n ++ m → n ≤ 255 → 0 < length m
    → get_or m 0 0 ≡ line_break → lo ≤ n → n ≤ hi → r' ≡ set r cell n → get_or r' cell 0 ≡ n → NumberAt s lo hi r cell r' (drop 1 m)
number_at s m lo hi r cell n r' h small more b l u e held =
    record {
      number = n;
      line =
          ap lines_of (h ∙ ap (λ (z : List ℕ). decimal n ++ z) (first_byte m more ∙ ap (λ (c : ℕ). c ∷ drop 1 m) b))
          ∙ line_parted (decimal n) (drop 1 m) (decimal_lacks line_break n (λ x a c q. omega arith) (omega arith));
      least = l;
      most = u;
      stored = e;
      held = held;
    }

-- what a line with a number or a list leaves of the record
module _ (s key : List ℕ) (lo hi : ℕ) (r : List ℕ) (cell : ℕ) (r' rest : List ℕ) (a : NumberLine s key lo hi r cell r' rest) where
  pub number_kept : (k : ℕ) → (k ≡ cell → ⊥) → get_or r' k 0 ≡ get_or r k 0
  number_kept k h = rw a.stands.stored (get_or-set_other r cell k a.stands.number 0 h)

  pub number_range : (lo ≤ get_or r' cell 0) × (get_or r' cell 0 ≤ hi)
  number_range = rw a.stands.held (a.stands.least, a.stands.most)

pub list_kept : (s key : List ℕ) (kind : Kind) (r : List ℕ) (row : ℕ) (r' rest : List ℕ) → ListLine s key kind r row r' rest → (k : ℕ) → k < row
    → get_or r' k 0 ≡ get_or r k 0
list_kept s key kind r row r' rest a k h = front_kept r r' row a.list.cells k a.list.stored h
