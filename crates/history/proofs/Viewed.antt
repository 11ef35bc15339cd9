-- Tables that show the machine go on showing it: after a swap, and where only what is remembered has changed.
-- Assumes nothing.
use Rattle.std.specs.Prelude.{◌≡◌, List, ◌∷◌, ℕ, suc, ◌+◌, ◌*◌, ◌^◌, ◌≤◌, ◌<◌, length, get_or, set}
use Rattle.std.proofs.Common.{sym, ap, ◌∙◌, arith, length-set, pow_mono, pow_pos, get_or-set_same, get_or-set_other}
use Rattle.std.proofs.Math.Decide.{ℕ_discrete}
use Rattle.trie.specs.declared.Version.{Version}
use Rattle.trie.specs.Tables.{room_of, used_of, version_at, version_put}
use Rattle.trie.proofs.TableLaws.{put_same as version-put-same, put_other as version-put-other, room_length}
use Rattle.history.proofs.Nodes.{Side, lo, hi, Node, Node-discrete}
use Rattle.history.proofs.Numbers.{number, number_pos, number_range, number_inj}
use Rattle.history.specs.Arrivals.{Op, Entry}
use Rattle.history.proofs.PutLaws.{put_all}
use Rattle.history.proofs.Machine.{Spot, Shared, at, with_spot, swap, begins}
use Rattle.history.proofs.View.{View}

-- a node's number is within the node table
pub number_inside : (h : ℕ) (x : Node) → length x ≤ h → number x < 2 * 2 ^ h
number_inside h x l = let m : 2 ^ length x ≤ 2 ^ h = pow_mono l in omega (arith, (number_range x).1)

module _ {h : ℕ} {G : Shared} {nodes versions : List ℕ} (v : View h G nodes versions) where
  -- the children's current versions, by the node's number
  pub current_left : (x : Node) → length x < h → get_or nodes (2 * number x) 0 ≡ (at G (lo ∷ x)).current
  current_left x l = let n : 2 * number x ≡ number (lo ∷ x) = omega arith in ap (λ (m : ℕ). get_or nodes m 0) n ∙ v.current (lo ∷ x) l

  pub current_right : (x : Node) → length x < h → get_or nodes (2 * number x + 1) 0 ≡ (at G (hi ∷ x)).current
  current_right x l = v.current (hi ∷ x) l

  pub view_spot : (x : Node) (a : Spot) → a.current ≡ (at G x).current → View h (with_spot G x a) nodes versions
  view_spot x a e =
      record {
        used = v.used;
        ver = v.ver;
        current = put_all Node-discrete (λ y b. length y ≤ h → get_or nodes (number y) 0 ≡ b.current) G.spot x a (λ l. v.current x l ∙ sym e) (λ y n l. v.current y l);
      }

  pub view_begins : (o : Op) → View h (begins G o) nodes versions
  view_begins o = record { used = v.used; ver = v.ver; current = v.current }

  pub view_swap : (x : Node) (n : ℕ) (r r' : Version) (s : List Entry) (f : Side → List Entry) → length x ≤ h → 2 * 2 ^ h ≤ length nodes → used_of nodes < room_of versions
      → n ≡ used_of nodes + 1 → r ≡ r' → View h (swap G x r' s f) (set (set nodes (number x) n) 0 n) (version_put versions (record { 0 = n }) r)
  view_swap x n r r' s f l long room e q =
      record {
        used = get_or-set_same (set nodes (number x) n) 0 n 0 (omega (arith, length-set nodes (number x) n, pow_pos h)) ∙ next;
        ver = put_all ℕ_discrete (λ (m : ℕ) (a : Version). version_at (version_put versions (record { 0 = n }) r) (record { 0 = m }) ≡ a) G.ver (suc G.used) r'
            (ap (λ (m : ℕ). version_at (version_put versions (record { 0 = n }) r) (record { 0 = m })) (sym next)
            ∙ version-put-same versions (record { 0 = n }) r (omega arith) (omega (arith, room_length versions)) ∙ q)
            (λ m d. version-put-other versions (record { 0 = n }) (record { 0 = m }) r (λ c. d (c ∙ next)) ∙ v.ver m);
        current = put_all Node-discrete (λ (y : Node) (a : Spot). length y ≤ h → get_or (set (set nodes (number x) n) 0 n) (number y) 0 ≡ a.current) G.spot x _
            (λ k. get_or-set_other (set nodes (number x) n) 0 (number x) n 0 (omega (arith, number_pos x)) ∙ get_or-set_same nodes (number x) n 0 (omega (arith, number_inside h x l)) ∙ next)
            (λ y d k. get_or-set_other (set nodes (number x) n) 0 (number y) n 0 (omega (arith, number_pos y)) ∙ get_or-set_other nodes (number x) (number y) n 0 (λ c. d (number_inj y x c)) ∙ v.current y k);
      }
    where
      next : n ≡ suc G.used
      next = omega (arith, v.used)
