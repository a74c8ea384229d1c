-- `reader::quick_text::is_good` meets its contract: the lines before the last lead to it, and it is taken with nothing after it. Assumes nothing.
use lib.ListN.{drop, get_or, take}
use mathlib.Core.List.{List}
use mathlib.Core.Path.{◌≡◌, ◌∙◌, ap, refl, subst, sym}
use Prim.Native.Nat.{ℕ, ◌+◌, ◌-◌}
use native.Mathlib.Omega.{arith}
use Rattle.std.proofs.lemmas.List.{get_or-drop}
use Rattle.reader.specs.Bytes.{bytes}
use Rattle.reader.specs.Text.{number_of}
use Rattle.reader.specs.Grammar.{go_on, key_budget, take_budget}
use Rattle.reader.specs.declared.order.Due.TheVariants.{Budget}
use Rattle.reader.proofs.Keys.{key_prefix}
use Rattle.reader.proofs.QuickBudget.{budget_ends}
use Rattle.reader.proofs.quick_text.is_good.Goals as goal

-- what stands between the key and the end, by its place in the text
between : (t value : List ℕ) (n : ℕ) → value ≡ drop 7 t → take n value ≡ take (7 + n - 7) (drop 7 t)
between t value n e =
    let k : n ≡ 7 + n - 7 = omega arith in
    ap (take n) e ∙ ap (λ (m : ℕ). take m (drop 7 t)) k

pub returns : goal.returns
unfolding bytes
returns c = λ e.
    let w = c.in-Some.ensures in
    let t = c.in-Some.last.now in
    let v = c.in-Some-strip_prefix.value.now in
    let h = c.in-Some-strip_prefix.ensures.cases in
    let l = c.last_end-end in
    let r = c.quick_lines.new.rec in
    let r' = c.quick_budget.new.rec in
    w.same 1
    ∙ budget_ends t 7 (7 + l.result) (omega arith) (omega (arith, l.ensures.0, h.2)) (omega (arith, l.ensures.1, h.2))
    (λ q. sym (get_or-drop 7 t l.result 0) ∙ ap (λ (s : List ℕ). get_or s l.result 0) (sym h.1) ∙ l.ensures.2 (omega (arith, q, h.2)))
    0 r r' refl (sym (key_prefix key_budget t) ∙ h.0)
    (subst (λ (s : List ℕ). take_budget r Budget (number_of s) ≡ go_on Budget r') (between t v l.result h.1) (c.quick_budget.ensures e)) (1 + w.lines)
