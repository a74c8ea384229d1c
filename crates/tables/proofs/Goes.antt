-- Steps of a worklist, one after the other. Assumes nothing.
use Rattle.std.proofs.Common.{ℕ, Bool, List, length, refl, ◌∙◌}
use Rattle.tables.specs.Graph.{Graphed}
use Rattle.tables.specs.Queue.{Queue}
use Rattle.tables.specs.Worklist.{Goes}
use Rattle.tables.specs.declared.worklist.visits.Worklist.{Worklist}
use Rattle.tables.proofs.Rounds.{queue_as}

module _ {N L : ℕ} where
  pub queue_of : (w : Worklist N L) → Queue (length w.entries.now) w.queue.now.marks w.queue.now.count
  queue_of w = queue_as w.queue_states w.queue.now.waits

  pub goes_nowhere : {P : Graphed → List ℕ → List Bool → ℕ → List ℕ → List Bool → ℕ → Type 0} (w : Worklist N L) →
      P w.graph.now w.entries.now w.queue.now.marks w.queue.now.count w.entries.now w.queue.now.marks w.queue.now.count → Goes P w w
  goes_nowhere w d = record { same_entries = refl; same_queue = refl; same_graph = refl; done = d }

  -- What the second step does is seen from the graph that the first one leaves as it is.
  pub goes_then : {P Q R : Graphed → List ℕ → List Bool → ℕ → List ℕ → List Bool → ℕ → Type 0} {a b c : Worklist N L} → Goes P a b → Goes Q b c →
      (Q a.graph.now b.entries.now b.queue.now.marks b.queue.now.count c.entries.now c.queue.now.marks c.queue.now.count →
      R a.graph.now a.entries.now a.queue.now.marks a.queue.now.count c.entries.now c.queue.now.marks c.queue.now.count) → Goes R a c
  goes_then f s both = record {
    same_entries = s.same_entries ∙ f.same_entries;
    same_queue = s.same_queue ∙ f.same_queue;
    same_graph = s.same_graph ∙ f.same_graph;
    done = both (rw f.same_graph at s.done);
  }

  -- The same of one step.
  pub goes_as : {P R : Graphed → List ℕ → List Bool → ℕ → List ℕ → List Bool → ℕ → Type 0} {a c : Worklist N L} → Goes P a c →
      (P a.graph.now a.entries.now a.queue.now.marks a.queue.now.count c.entries.now c.queue.now.marks c.queue.now.count →
      R a.graph.now a.entries.now a.queue.now.marks a.queue.now.count c.entries.now c.queue.now.marks c.queue.now.count) → Goes R a c
  goes_as s more = record { same_entries = s.same_entries; same_queue = s.same_queue; same_graph = s.same_graph; done = more s.done }
