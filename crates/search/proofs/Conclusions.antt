-- Laws of rounds: one round more, how a round ends them, and the answer and the buffer for each end. Assumes nothing.
use Rattle.std.proofs.Common.{◌≡◌, ℕ, zero, suc, ◌+◌, ◌-◌, ◌<◌, ◌≤◌, List, Some, None, Ok, Err, [], ◌++◌, length, take, drop, replicate, sym, refl, ap, ◌∙◌, zero-add, add-one, arith, get_or-take, ext_get_or, le-leb}
use borrow.Author.Tests.{lt-leb}
use Rattle.std.proofs.Math.Seq.{take-append-add}
use Rattle.std.proofs.lemmas.List.{append-nil, drop_all, length-drop, length-take-le, take-replicate}
use borrow.Rule.Slice.PartMut.{put_mid}
use Rattle.planning.specs.Finite.{choose}
use Rattle.planning.specs.Extended.{ℕ∞, fin, inf}
use Rattle.planning.specs.System.{System}
use Rattle.planning.specs.Plan.{Plan, encode}
use Rattle.planning.specs.Search.{succeeded, failed, stopped, examination, found, over, spent, none, end_round, rounds, search_from, search, plan_bytes, plan_buffer}
use Rattle.planning.specs.Search as planning
use Rattle.planning.proofs.Shift.{succeeded_anywhere}
use Rattle.packed_task.specs.Packed.{packed_system}
use Rattle.search.specs.declared.instance.Instance.{Instance}
use Rattle.search.specs.declared.entry.SearchAnswer.TheVariants as outcome
use Rattle.search.specs.Buffer.{Holds}
use Rattle.patterns.specs.Value.{value_of}
use Rattle.search.specs.Packed.{instance_examination, instance_value}
use Rattle.search.specs.Examination.{plan_size, plan_head}
use Rattle.search.specs.Answer.{instance_rounds, answer_of, buffer_of, Replied, FoundBy, Left}
use Rattle.search.proofs.Endings.{Success}

-- The rounds from d on: none left, or the next one; and how the next one ends them.
module _ (Y : System ℕ) (h : ℕ → ℕ∞) (budget limit s d c : ℕ) (x : planning.Answer) (w : x ≡ rounds Y h budget limit s (limit + 1 - d) d c) where
  pub rounds-over : limit < d → x ≡ over c
  unfolding rounds
  rounds-over l = let z : limit + 1 - d ≡ zero = omega arith in w ∙ rw z

  rounds_step : d ≤ limit → x ≡ end_round d (examination Y h budget d s c) (λ e. rounds Y h budget limit s (limit + 1 - (d + 1)) (d + 1) e)
  unfolding rounds
  rounds_step l = let z : limit + 1 - d ≡ suc (limit + 1 - (d + 1)) = omega arith in
      w ∙ rw z (ap (λ (k : ℕ). end_round d (examination Y h budget d s c) (λ e. rounds Y h budget limit s (limit + 1 - (d + 1)) k e)) (sym (add-one d)))

  module _ (l : d ≤ limit) (e : ℕ) where
    pub round_stops : examination Y h budget d s c ≡ stopped e → x ≡ spent d e
    unfolding end_round
    round_stops q = rounds_step l ∙ rw q

    pub round_finds : (p : Plan) → examination Y h budget d s c ≡ succeeded p e → x ≡ found p d e
    unfolding end_round
    round_finds p q = rounds_step l ∙ rw q

    pub round_fails : examination Y h budget d s c ≡ failed e → x ≡ rounds Y h budget limit s (limit + 1 - (d + 1)) (d + 1) e
    unfolding end_round
    round_fails q = rounds_step l ∙ rw q

-- A round that finds a plan: it has no more bytes than the budget has examinations, and is found again from the count 0.
pub round_found : (instance : Instance) (s d c : ℕ) (x : planning.Answer) → x ≡ instance_rounds instance s d c → d ≤ instance.constants.limit → instance.constants.budget ≤ 1000000 →
    (e n b : ℕ) → Success plan_size plan_head (instance_examination instance d s c) c instance.constants.budget e n b → FoundBy instance s x d e n
round_found instance s d c x w l m e n b q = let z : e ≡ c + (e - c) = omega (arith, q.counted) in record {
  plan = q.found;
  is = round_finds (packed_system instance.task.now instance.constants.actions) (instance_value instance) instance.constants.budget instance.constants.limit s d c x w l e q.found q.is;
  made = 0 + (e - c);
  again = succeeded_anywhere (packed_system instance.task.now instance.constants.actions) (instance_value instance) instance.constants.budget d s q.found c (e - c) 0 (q.is ∙ ap (succeeded q.found) z) (omega (arith, q.budgeted));
  sized = q.sized;
  short = omega (arith, q.short, q.budgeted, m);
  within = l;
}

pub rounds_begin : (Y : System ℕ) (h : ℕ → ℕ∞) (budget limit s from : ℕ) → from ≤ limit → rounds Y h budget limit s (suc (limit - from)) from 0 ≡ rounds Y h budget limit s (limit + 1 - from) from 0
rounds_begin Y h budget limit s from l = let z : suc (limit - from) ≡ limit + 1 - from = omega arith in ap (λ (n : ℕ). rounds Y h budget limit s n from 0) z

-- What the code's word for a value says.
pub value_is : (x : ℕ∞) (v : ℕ) → Some v ≡ value_of x → x ≡ fin v
unfolding value_of
value_is (fin w) v e = let a : w ≡ v = cc in ap fin a
value_is inf v e = let z : ◌≡◌ {A = ℕ} 0 1 = cc in absurd (omega arith)

-- The search from the value of the start.
module _ (Y : System ℕ) (h : ℕ → ℕ∞) (budget limit s : ℕ) where
  from_infinite : (x : ℕ∞) → None ≡ value_of x → search_from Y h budget limit s x ≡ none 0
  unfolding search_from value_of
  from_infinite (fin v) e = let z : ◌≡◌ {A = ℕ} 0 1 = cc in absurd (omega arith)
  from_infinite inf e = refl

  from_high : (x : ℕ∞) (v : ℕ) → Some v ≡ value_of x → limit < v → search_from Y h budget limit s x ≡ over 0
  unfolding search_from value_of choose
  from_high (fin w) v e l = let a : w ≡ v = cc in rw (lt-leb w limit (omega arith))
  from_high inf v e l = let z : ◌≡◌ {A = ℕ} 0 1 = cc in absurd (omega arith)

  from_within : (x : ℕ∞) (v : ℕ) → Some v ≡ value_of x → v ≤ limit → search_from Y h budget limit s x ≡ rounds Y h budget limit s (suc (limit - v)) v 0
  unfolding search_from value_of choose
  from_within (fin w) v e l = let a : w ≡ v = cc in rw (le-leb w limit (omega arith), a)
  from_within inf v e l = let z : ◌≡◌ {A = ℕ} 0 1 = cc in absurd (omega arith)

  pub search_none : None ≡ value_of (h s) → search Y h budget limit s ≡ none 0
  unfolding search
  search_none e = from_infinite (h s) e

  pub search-over : (v : ℕ) → Some v ≡ value_of (h s) → limit < v → search Y h budget limit s ≡ over 0
  unfolding search
  search-over v e l = from_high (h s) v e l

  pub search-rounds : (v : ℕ) → Some v ≡ value_of (h s) → v ≤ limit → search Y h budget limit s ≡ rounds Y h budget limit s (limit + 1 - v) v 0
  unfolding search
  search-rounds v e l = from_within (h s) v e l ∙ rounds_begin Y h budget limit s v l

-- A buffer that holds the bytes p and is filled up after them, as the definition says it.
module _ (p mid : List ℕ) (h : Holds p 0 mid) (l : length p ≤ length mid) where
  held : take (length p) mid ≡ p
  unfolding Holds
  held = ext_get_or 0 _ _ (length-take-le _ _ l) (λ j u. let v : j < length p = omega (arith, u, length-take-le (length p) mid l) in get_or-take (length p) mid j 0 v ∙ rw zero-add at (h j v (omega arith)))

  pub filled_up : take (length p) mid ++ replicate (length mid - length p) 255 ≡ take (length mid) (p ++ replicate (length mid) 255)
  filled_up = let e : length mid ≡ length p + (length mid - length p) = omega arith in
      ap (λ (q : List ℕ). q ++ replicate (length mid - length p) 255) held
      ∙ sym (ap (λ (n : ℕ). take n (p ++ replicate (length mid) 255)) e ∙ take-append-add p _ (length mid - length p)
      ∙ ap (λ (q : List ℕ). p ++ q) (take-replicate (length mid - length p) (length mid) 255 (omega arith)))

-- The same buffer as the fill of its rest leaves it.
pub rest_filled : (k n : ℕ) (mid ys : List ℕ) → length mid ≡ n → k ≤ n → ys ≡ replicate (length (take (length mid - k) (drop k mid))) 255 → put_mid k (length mid - k) mid ys ≡ take k mid ++ replicate (n - k) 255
rest_filled k n mid ys l h e =
    let d : length (drop k mid) ≡ n - k = length-drop k mid ∙ omega arith in
    let r : ys ≡ replicate (n - k) 255 = e ∙ ap (λ (m : ℕ). replicate m 255) (length-take-le (length mid - k) (drop k mid) (omega (arith, d)) ∙ omega arith) in
    ap (λ (q : List ℕ). take k mid ++ q) (rw (r, drop_all (length mid - k) (drop k mid) (omega (arith, d))) (append-nil _))

-- The answer and the buffer for each end; n is the buffer's length.
module _ (n : ℕ) (new : List ℕ) (x : planning.Answer) where
  module _ (e : new ≡ replicate n 255) where
    nothing_left : new ≡ take n ([] ++ replicate n 255)
    nothing_left = e ∙ sym (take-replicate n n 255 (omega arith))

    pub ends_over : (c : ℕ) → x ≡ over c → Replied n x new (Ok (outcome.Over c))
    unfolding answer_of buffer_of plan_buffer plan_bytes
    ends_over c w = rw w (record { answer = refl; buffer = nothing_left })

    pub ends_spent : (d c : ℕ) → x ≡ spent d c → Replied n x new (Ok (outcome.Spent d c))
    unfolding answer_of buffer_of plan_buffer plan_bytes
    ends_spent d c w = rw w (record { answer = refl; buffer = nothing_left })

    pub ends_none : (c : ℕ) → x ≡ none c → Replied n x new (Ok (outcome.None c))
    unfolding answer_of buffer_of plan_buffer plan_bytes
    ends_none c w = rw w (record { answer = refl; buffer = nothing_left })

  module _ (instance : Instance) (s d c k : ℕ) (f : FoundBy instance s x d c k) where
    pub too_long : n < k → new ≡ replicate n 255 → Replied n x new (Err (record { count = c; bytes = k }))
    unfolding answer_of buffer_of
    too_long h e = let g : k ≡ plan_size f.plan = sym f.sized in let t = lt-leb (plan_size f.plan) n (omega (arith, h, g)) in
        rw f.is (record { answer = rw (t, g); buffer = rw t e })

    pub fits : (mid : List ℕ) → length mid ≡ n → k ≤ n → Holds (encode f.plan) 0 mid → new ≡ take k mid ++ replicate (n - k) 255 → Replied n x new (Ok (outcome.Found d c k))
    unfolding answer_of buffer_of plan_buffer plan_bytes
    fits mid l h b e = let g : k ≡ plan_size f.plan = sym f.sized in let t = le-leb (plan_size f.plan) n (omega (arith, h, g)) in
        rw f.is (record { answer = rw (t, g); buffer = rw t (e ∙ rw (g, ← l) (filled_up (encode f.plan) mid b (omega (arith, h, g, l)))) })

-- Rounds that may make as many examinations as any budget has are finished.
pub always_ends : {instance : Instance} {s d c : ℕ} {x : planning.Answer} {C : Type 0} → instance.constants.budget ≤ 1000000 → Left instance s x 1000000 d c → C
always_ends b h = absurd (omega (arith, b, h.counted, h.many))
