-- The reads of a refresh, and its swap where it fails, keep the facts: each read of a child sees what stands there now,
-- and so whoever climbs from that child. Assumes nothing.
use Rattle.std.specs.Prelude.{◌≡◌, refl, ◌≢◌, ◌⊎◌, Bool, true, false, List, ◌∷◌, ℕ}
use Rattle.std.proofs.Common.{subst, inl, inr, arith}
use Rattle.history.specs.Lists.{◌∈◌}
use Rattle.history.proofs.ListLaws.{prefix_refl}
use Rattle.history.proofs.Nodes.{Side, lo, hi, Node, below_up}
use Rattle.history.specs.Arrivals.{Entry}
use Rattle.history.proofs.Machine.{either, Shared, Stage, nothing, at_node, at_left, at_both, Climb, Worker, idle, reading, swapping, climbing, answered, at, second, missed, climb_step}
use Rattle.history.proofs.Invariant.{Closed, Known, its, Late, Knows, PairOk, OnClimb, Pair, SpotOk, SawOk, ClimbOk, WorkerOk}
use Rattle.history.proofs.Growth.{Step}
use Rattle.history.proofs.Building.{move, up_only}

pub onclimb_map : (P Q : Climb → Stage → Type 0) → ((c : Climb) (st : Stage) → P c st → Q c st) → (W : Worker) → OnClimb P W → OnClimb Q W
onclimb_map P Q f idle p = tt
onclimb_map P Q f (reading o) p = tt
onclimb_map P Q f (swapping o v) p = tt
onclimb_map P Q f (climbing c st) p = f c st p
onclimb_map P Q f (answered o r) p = tt

late_1 : (n : ℕ) (a : Bool) → Late n a (at_node n) → Late n a nothing
late_1 n true l = tt
late_1 n false l = l refl

late_2 : (n : ℕ) (a : Bool) (v l : ℕ) (s : List Entry) → Late n a (at_left v l s) → Late n a (at_node v)
late_2 n true v l s p = tt
late_2 n false v l s p = p

late_3 : (n : ℕ) (a : Bool) (v l : ℕ) (s : List Entry) (r : ℕ) (t : List Entry) → Late n a (at_both v l s r t) → Late n a (at_left v l s)
late_3 n true v l s r t p = tt
late_3 n false v l s r t p = p

late_missed : (n : ℕ) (a : Bool) (v l : ℕ) (s : List Entry) (r : ℕ) (t : List Entry) → n ≢ v → Late n a (at_both v l s r t)
late_missed n true v l s r t p = tt
late_missed n false v l s r t p = p

pub knows_use : (n : ℕ) (b : Side) (v l : ℕ) (s : List Entry) (r : ℕ) (t : List Entry) (e : Entry) → Knows n b (at_both v l s r t) e → n ≡ v → e ∈ either b s t
knows_use n lo v l s r t e k q = k q
knows_use n hi v l s r t e k q = k q

module _ (h : ℕ) (weight : ℕ → ℕ) (G : Shared) (cl : Closed G.ver G.used) (sp : (y : Node) → SpotOk h weight G y (at G y)) where
  pairs_to : (c c' : Climb) (st st' : Stage) → ((d : Climb) (su : Stage) → ClimbOk h weight G d su → PairOk G d su c st → PairOk G d su c' st')
      → (X : Worker) → WorkerOk h weight G X → Pair G X (climbing c st) → Pair G X (climbing c' st')
  pairs_to c c' st st' f idle ok p = tt
  pairs_to c c' st st' f (reading o) ok p = tt
  pairs_to c c' st st' f (swapping o v) ok p = tt
  pairs_to c c' st st' f (climbing d su) ok p = f d su ok p
  pairs_to c c' st st' f (answered o r) ok p = tt

  pairs_from : (c c' : Climb) (st st' : Stage) → ((d : Climb) (su : Stage) → PairOk G c st d su → PairOk G c' st' d su)
      → (X : Worker) → WorkerOk h weight G X → Pair G (climbing c st) X → Pair G (climbing c' st') X
  pairs_from c c' st st' f X ok p = onclimb_map (λ d su. PairOk G c st d su) (λ d su. PairOk G c' st' d su) f X p

  knows_2 : (n : ℕ) (b : Side) (v l : ℕ) (x : Node) (e : Entry) → e ∈ (at G (b ∷ x)).reached → Knows n b (at_left v l (at G (lo ∷ x)).reached) e
  knows_2 n lo v l x e m = λ q. m
  knows_2 n hi v l x e m = tt

  knows_3 : (n : ℕ) (b : Side) (v l : ℕ) (s : List Entry) (r : ℕ) (x : Node) (e : Entry) → Knows n b (at_left v l s) e → e ∈ (at G (b ∷ x)).reached → Knows n b (at_both v l s r (at G (hi ∷ x)).reached) e
  knows_3 n lo v l s r x e k m = k
  knows_3 n hi v l s r x e k m = λ q. m

  -- what a refresh reads of a child now
  saw_now : (c : Climb) (v : ℕ) (b : Side) → its c ∈ (at G (c.side ∷ c.node)).reached → SawOk h weight G c v b (at G (b ∷ c.node)).current (at G (b ∷ c.node)).reached
  saw_now c v b m =
      record {
        le = (sp (b ∷ c.node)).current_le;
        depicts = (sp (b ∷ c.node)).depicts;
        pre = prefix_refl (at G (b ∷ c.node)).reached;
        taken = λ e. (sp c.node).taken_pre b;
        own = λ e. subst (λ d. its c ∈ (at G (d ∷ c.node)).reached) e m;
      }

  -- what another refresh at the same node must put in place is there now
  there : (c d : Climb) (su : Stage) → ClimbOk h weight G d su → d.node ≡ c.node → its d ∈ (at G (d.side ∷ c.node)).reached
  there c d su ok e = subst (λ x. its d ∈ (at G (d.side ∷ x)).reached) e ok.arrived

  pub step_0 : (c : Climb) → ClimbOk h weight G c nothing → Known h G c.op → Step h weight G (climbing c nothing) (climb_step G c nothing)
  step_0 c ok old =
      move h weight G cl sp (climbing c nothing) (climbing c (at_node n)) (λ P p. p) old
      (record { below = ok.below; arrived = ok.arrived; share = ok.share; stages = record { was = record { le = (sp c.node).current_le; list = (at G c.node).reached; pre = prefix_refl (at G c.node).reached; depicts = (sp c.node).depicts }; placed = λ e. inl refl } })
      (pairs_to c c nothing (at_node n) (λ d su q p e l. tt))
      (pairs_from c c nothing (at_node n) (λ d su p e l. p e (late_1 n c.again l)))
      (λ e l. tt)
    where
      n : ℕ
      n = (at G c.node).current

  pub step_1 : (c : Climb) (v : ℕ) → ClimbOk h weight G c (at_node v) → Known h G c.op → Step h weight G (climbing c (at_node v)) (climb_step G c (at_node v))
  step_1 c v ok old =
      move h weight G cl sp (climbing c (at_node v)) (climbing c (at_left v l s)) (λ P p. p) old
      (record { below = ok.below; arrived = ok.arrived; share = ok.share; stages = (ok.stages, saw_now c v lo ok.arrived) })
      (pairs_to c c (at_node v) (at_left v l s) (λ d su q p e k. knows_2 _ d.side v l c.node (its d) (there c d su q e)))
      (pairs_from c c (at_node v) (at_left v l s) (λ d su p e k. p e (late_2 _ c.again v l s k)))
      (λ e k. knows_2 _ c.side v l c.node (its c) ok.arrived)
    where
      l : ℕ
      l = (at G (lo ∷ c.node)).current

      s : List Entry
      s = (at G (lo ∷ c.node)).reached

  pub step_2 : (c : Climb) (v l : ℕ) (s : List Entry) → ClimbOk h weight G c (at_left v l s) → Known h G c.op → Step h weight G (climbing c (at_left v l s)) (climb_step G c (at_left v l s))
  step_2 c v l s ok old =
      move h weight G cl sp (climbing c (at_left v l s)) (climbing c (at_both v l s r t)) (λ P p. p) old
      (record { below = ok.below; arrived = ok.arrived; share = ok.share; stages = (ok.stages.0, ok.stages.1, saw_now c v hi ok.arrived) })
      (pairs_to c c (at_left v l s) (at_both v l s r t) (λ d su q p e k. knows_3 _ d.side v l s r c.node (its d) (p e k) (there c d su q e)))
      (pairs_from c c (at_left v l s) (at_both v l s r t) (λ d su p e k. p e (late_3 _ c.again v l s r t k)))
      (λ e k. own c.side refl)
    where
      r : ℕ
      r = (at G (hi ∷ c.node)).current

      t : List Entry
      t = (at G (hi ∷ c.node)).reached

      own : (b : Side) → c.side ≡ b → Knows (at G c.node).current b (at_both v l s r t) (its c)
      own lo e = λ q. ok.stages.1.own e
      own hi e = λ q. subst (λ d. its c ∈ (at G (d ∷ c.node)).reached) e ok.arrived

  pub miss_step : (c : Climb) (v l : ℕ) (s : List Entry) (r : ℕ) (t : List Entry) → ClimbOk h weight G c (at_both v l s r t) → Known h G c.op → (at G c.node).current ≢ v
      → (a : Bool) → c.again ≡ a → Step h weight G (climbing c (at_both v l s r t)) (G, missed a c)
  miss_step c v l s r t ok old n true e =
      up_only h weight G cl sp (climbing c (at_both v l s r t)) c.op c.res c.made c.node (λ P p. p) old (omega (arith, ok.share)) (below_up ok.below) (go (ok.stages.0.placed e))
    where
      go : ((at G c.node).current ≡ v) ⊎ (its c ∈ (at G c.node).reached) → its c ∈ (at G c.node).reached
      go (inl q) = absurd (n q)
      go (inr m) = m
  miss_step c v l s r t ok old n false e =
      move h weight G cl sp (climbing c (at_both v l s r t)) (climbing (second c) nothing) (λ P p. p) old
      (record { below = ok.below; arrived = ok.arrived; share = ok.share; stages = tt })
      (pairs_to c (second c) (at_both v l s r t) nothing (λ d su q p f k. tt))
      (pairs_from c (second c) (at_both v l s r t) nothing (λ d su p f k. p f (late_missed _ c.again v l s r t n)))
      (λ f k. tt)
