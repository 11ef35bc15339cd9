-- An answer is known by what it tells: each contract leaves one answer and one state of all that is lent.
-- Assumes nothing.
use Rattle.std.specs.Prelude.{◌≡◌, refl, List, ℕ, ⊤, eqb, Result}
use Rattle.std.proofs.Common.{sym, ap, ◌∙◌, arith}
use Rattle.trie.specs.declared.Answer.{Answer}
use Rattle.trie.specs.declared.Refusal.{Refusal}
use Rattle.trie.specs.declared.Progress.{Progress}
use Rattle.trie.specs.declared.Worker.{Worker}
use Rattle.trie.specs.Values.{Value, Ok, Course, value_of, accepted_of, progress_of}
use Rattle.trie.specs.Opening.{Opened}
use Rattle.trie.specs.Starting.{Started, started_by}
use Rattle.trie.specs.declared.Next.{Next}
use Rattle.trie.specs.Choice.{pick}
use Rattle.trie.specs.Refusing.{number_of}
use Rattle.trie.specs.Stepping.{progress_by, worker_by, stepped_by, Stepped}
use Rattle.trie.specs.Calls.{State, After, after}

-- a contract that states its answer outright leaves one
pub same_decided : {A : Type 0} (stated a b : A) → a ≡ stated → b ≡ stated → a ≡ b
same_decided stated a b p q = p ∙ sym q

-- the answer back from its value
back : Value → Answer
back Value.yes' = Answer.Yes
back Value.no' = Answer.No
back Value.none = Answer.None
back (Value.level l) = Answer.Level (record { 0 = l })
back (Value.cell k) = Answer.Cell k
back (Value.sums c e) = Answer.Sums c (record { 0 = e })

back_value : (a : Answer) → back (value_of a) ≡ a
unfolding back
back_value Answer.Yes = refl
back_value Answer.No = refl
back_value Answer.None = refl
back_value (Answer.Level l) = refl
back_value (Answer.Cell k) = refl
back_value (Answer.Sums c e) = refl

pub value_one : (a b : Answer) → value_of a ≡ value_of b → a ≡ b
value_one a b e = sym (back_value a) ∙ ap back e ∙ back_value b

-- the refusal back from its number
refusal_of : ℕ → Refusal
refusal_of number =
    pick (eqb number 1) Refusal.Cells
    (pick (eqb number 2) Refusal.Workers
    (pick (eqb number 3) Refusal.Tables
    (pick (eqb number 4) Refusal.Worker
    (pick (eqb number 5) Refusal.Busy
    (pick (eqb number 6) Refusal.Idle
    (pick (eqb number 7) Refusal.Argument
    (pick (eqb number 8) Refusal.Room
    (pick (eqb number 9) Refusal.Damaged
    (pick (eqb number 10) Refusal.Command Refusal.AnswerRow)))))))))

back_refusal : (r : Refusal) → refusal_of (number_of r) ≡ r
unfolding refusal_of
back_refusal Refusal.Cells = refl
back_refusal Refusal.Workers = refl
back_refusal Refusal.Tables = refl
back_refusal Refusal.Worker = refl
back_refusal Refusal.Busy = refl
back_refusal Refusal.Idle = refl
back_refusal Refusal.Argument = refl
back_refusal Refusal.Room = refl
back_refusal Refusal.Damaged = refl
back_refusal Refusal.Command = refl
back_refusal Refusal.AnswerRow = refl

pub refusal_one : (a b : Refusal) → number_of a ≡ number_of b → a ≡ b
refusal_one a b e = sym (back_refusal a) ∙ ap refusal_of e ∙ back_refusal b

pub accepted_one : (a b : Result ⊤ Refusal) → accepted_of a ≡ accepted_of b → a ≡ b
accepted_one (Result.Err k) (Result.Err j) e = ap Result.Err (refusal_one k j (cc))
accepted_one (Result.Err k) (Result.Ok x) e = absurd (let z : ◌≡◌ {A = ℕ} 0 1 = cc in omega arith)
accepted_one (Result.Ok x) (Result.Err j) e = absurd (let z : ◌≡◌ {A = ℕ} 0 1 = cc in omega arith)
accepted_one (Result.Ok x) (Result.Ok y) e = refl

pub progress_one : (a b : Result Progress Refusal) → progress_of a ≡ progress_of b → a ≡ b
progress_one (Result.Err k) (Result.Err j) e = ap Result.Err (refusal_one k j (cc))
progress_one (Result.Err k) (Result.Ok Progress.On) e = absurd (let z : ◌≡◌ {A = ℕ} 0 1 = cc in omega arith)
progress_one (Result.Err k) (Result.Ok (Progress.Done b)) e = absurd (let z : ◌≡◌ {A = ℕ} 0 1 = cc in omega arith)
progress_one (Result.Ok Progress.On) (Result.Err j) e = absurd (let z : ◌≡◌ {A = ℕ} 0 1 = cc in omega arith)
progress_one (Result.Ok Progress.On) (Result.Ok Progress.On) e = refl
progress_one (Result.Ok Progress.On) (Result.Ok (Progress.Done b)) e = absurd (let z : ◌≡◌ {A = ℕ} 0 1 = cc in omega arith)
progress_one (Result.Ok (Progress.Done a)) (Result.Err j) e = absurd (let z : ◌≡◌ {A = ℕ} 0 1 = cc in omega arith)
progress_one (Result.Ok (Progress.Done a)) (Result.Ok Progress.On) e = absurd (let z : ◌≡◌ {A = ℕ} 0 1 = cc in omega arith)
progress_one (Result.Ok (Progress.Done a)) (Result.Ok (Progress.Done b)) e = ap (λ (x : Answer). Result.Ok (Progress.Done x)) (value_one a b (cc))

-- ---- the records

abbrev pub stepped : Result Progress Refusal → Worker → List ℕ → List ℕ → Stepped
stepped a w nodes versions = record { told = progress_of a; worker = w; nodes = nodes; versions = versions }

-- opening the tables: `open_tables_of n nodes versions`
pub open_decided : (r : Opened) (a b : Result ⊤ Refusal) (nodes nodes' versions versions' : List ℕ)
    → ◌≡◌ {A = Opened} (record { told = accepted_of a; nodes = nodes; versions = versions }) r
    → ◌≡◌ {A = Opened} (record { told = accepted_of b; nodes = nodes'; versions = versions' }) r
    → (a ≡ b) × (nodes ≡ nodes') × (versions ≡ versions')
open_decided r a b nodes nodes' versions versions' p q = (
  accepted_one a b (ap (λ (s : Opened). s.told) (p ∙ sym q)),
  ap (λ (s : Opened). s.nodes) (p ∙ sym q),
  ap (λ (s : Opened). s.versions) (p ∙ sym q),
)

-- whatever start of a record is to come to, as `start_record_of n o promised w nodes versions`, is come to in one way
pub start_decided : (r : Started) (a b : Result Worker Refusal) (w : Worker) → started_by a w ≡ r → started_by b w ≡ r → a ≡ b
start_decided r a b w p q = by a b (p ∙ sym q)
  where
    by : (a b : Result Worker Refusal) → started_by a w ≡ started_by b w → a ≡ b
    by (Result.Err k) (Result.Err j) e = ap Result.Err (refusal_one k j (let t = ap (λ (s : Started). s.told) e in cc))
    by (Result.Err k) (Result.Ok v) e = absurd (let t = ap (λ (s : Started). s.told) e in let z : ◌≡◌ {A = ℕ} 0 1 = cc in omega arith)
    by (Result.Ok u) (Result.Err j) e = absurd (let t = ap (λ (s : Started). s.told) e in let z : ◌≡◌ {A = ℕ} 0 1 = cc in omega arith)
    by (Result.Ok u) (Result.Ok v) e = ap Result.Ok (ap (λ (s : Started). s.worker) e)

pub step_decided : (r : Stepped) (a b : Result Progress Refusal) (v w : Worker) (nodes nodes' versions versions' : List ℕ) → stepped a v nodes versions ≡ r → stepped b w nodes' versions' ≡ r
    → (a ≡ b) × (v ≡ w) × (nodes ≡ nodes') × (versions ≡ versions')
step_decided r a b v w nodes nodes' versions versions' p q = (
  progress_one a b (ap (λ (s : Stepped). s.told) (p ∙ sym q)),
  ap (λ (s : Stepped). s.worker) (p ∙ sym q),
  ap (λ (s : Stepped). s.nodes) (p ∙ sym q),
  ap (λ (s : Stepped). s.versions) (p ∙ sym q),
)

-- a step's outcome is known by what it tells and the record after it
moved_one : (a b : Result Next Refusal) (w : Worker) → progress_by a ≡ progress_by b → worker_by a w ≡ worker_by b w → a ≡ b
moved_one (Result.Err n) (Result.Err m) w p q = cc
moved_one (Result.Err n) (Result.Ok v) w p q = absurd (let z : ◌≡◌ {A = ℕ} 0 1 = cc in omega arith)
moved_one (Result.Ok v) (Result.Err n) w p q = absurd (let z : ◌≡◌ {A = ℕ} 0 1 = cc in omega arith)
moved_one (Result.Ok (Next.On v)) (Result.Ok (Next.On v')) w p q = ap (λ (x : Worker). Result.Ok (Next.On x)) q
moved_one (Result.Ok (Next.On v)) (Result.Ok (Next.Done x)) w p q = absurd (let z : ◌≡◌ {A = ℕ} 0 1 = cc in omega arith)
moved_one (Result.Ok (Next.Done x)) (Result.Ok (Next.On v)) w p q = absurd (let z : ◌≡◌ {A = ℕ} 0 1 = cc in omega arith)
moved_one (Result.Ok (Next.Done x)) (Result.Ok (Next.Done y)) w p q = cc

-- stepping a record: `step_record_of n w nodes versions`
pub moved_decided : (r : Stepped) (a b : Result Next Refusal) (w : Worker) (nodes nodes' versions versions' : List ℕ) → stepped_by a w nodes versions ≡ r → stepped_by b w nodes' versions' ≡ r
    → (a ≡ b) × (nodes ≡ nodes') × (versions ≡ versions')
moved_decided r a b w nodes nodes' versions versions' p q =
    let d = step_decided r (progress_by a) (progress_by b) (worker_by a w) (worker_by b w) nodes nodes' versions versions' p q in
    (moved_one a b w d.0 d.1, d.2, d.3)

-- ---- the calls

-- open and start: `open_of n w s`, `start_of n w i o s`
pub accepted_decided : (r : After Ok) (a b : Result ⊤ Refusal) (s t : State) → after (accepted_of a) s ≡ r → after (accepted_of b) t ≡ r → (a ≡ b) × (s ≡ t)
accepted_decided r a b s t p q = (accepted_one a b (ap (λ (c : After Ok). c.told) (p ∙ sym q)), ap (λ (c : After Ok). c.state) (p ∙ sym q))

-- step: `step_of n w i s`
pub progress_decided : (r : After Course) (a b : Result Progress Refusal) (s t : State) → after (progress_of a) s ≡ r → after (progress_of b) t ≡ r → (a ≡ b) × (s ≡ t)
progress_decided r a b s t p q = (progress_one a b (ap (λ (c : After Course). c.told) (p ∙ sym q)), ap (λ (c : After Course). c.state) (p ∙ sym q))
