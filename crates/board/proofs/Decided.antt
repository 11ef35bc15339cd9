-- Each public function's contract leaves one answer, and one state of all that is lent to it.
-- Assumes nothing.
use Rattle.std.specs.Prelude.{◌≡◌, List, ℕ, ⊤, Result}
use Rattle.trie.specs.declared.Operation.{Operation}
use Rattle.trie.specs.declared.Progress.{Progress}
use Rattle.trie.specs.declared.Refusal.{Refusal}
use Rattle.trie.specs.declared.Worker.{Worker}
use Rattle.trie.specs.Stepping.{step_record_of}
use Rattle.trie.specs.Values.{accepted_of, progress_of}
use Rattle.trie.specs.Calls.{State, after, open_of, start_of, step_of}
use Rattle.trie.proofs.Decided.{accepted_decided, progress_decided, stepped, step_decided}

pub open_one : (n w : ℕ) (s : State) (a b : Result ⊤ Refusal) (t u : State) → after (accepted_of a) t ≡ open_of n w s → after (accepted_of b) u ≡ open_of n w s → (a ≡ b) × (t ≡ u)
open_one n w s a b t u = accepted_decided (open_of n w s) a b t u

pub start_one : (n w i : ℕ) (o : Operation) (s : State) (a b : Result ⊤ Refusal) (t u : State) → after (accepted_of a) t ≡ start_of n w i o s → after (accepted_of b) u ≡ start_of n w i o s → (a ≡ b) × (t ≡ u)
start_one n w i o s a b t u = accepted_decided (start_of n w i o s) a b t u

pub step_one : (n w i : ℕ) (s : State) (a b : Result Progress Refusal) (t u : State) → after (progress_of a) t ≡ step_of n w i s → after (progress_of b) u ≡ step_of n w i s → (a ≡ b) × (t ≡ u)
step_one n w i s a b t u = progress_decided (step_of n w i s) a b t u

pub step_in_place_one : (n : ℕ) (h : Worker) (ns vs : List ℕ) (a b : Result Progress Refusal) (v w : Worker) (nodes nodes' versions versions' : List ℕ)
    → stepped a v nodes versions ≡ step_record_of n h ns vs → stepped b w nodes' versions' ≡ step_record_of n h ns vs → (a ≡ b) × (v ≡ w) × (nodes ≡ nodes') × (versions ≡ versions')
step_in_place_one n h ns vs a b v w nodes nodes' versions versions' = step_decided (step_record_of n h ns vs) a b v w nodes nodes' versions versions'
