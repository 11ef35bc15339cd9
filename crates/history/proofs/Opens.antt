-- An accepted open leaves tables that show the machine at its beginning.
-- Assumes nothing.
use Rattle.std.specs.Prelude.{◌≡◌, refl, Bool, true, false, List, ℕ, zero, suc, ◌+◌, ◌*◌, ◌-◌, ◌^◌, ◌≤◌, ltb, length, get_or}
use Rattle.std.proofs.Common.{ap, ◌∙◌, pow-suc, arith, lt-ltb, le-ltb, ltb-true, pow_mono}
use Rattle.std.proofs.Math.Decide.{dec_le}
use Rattle.trie.specs.Choice.{pick}
use Rattle.trie.specs.Size.{allowed, height_of}
use Rattle.trie.proofs.SizeLaws.{sized}
use Rattle.trie.specs.Tables.{version, version_at, roomy}
use Rattle.trie.proofs.TableLaws.{roomy_nodes, roomy_versions, room_length}
use Rattle.trie.specs.Opening.{open_nodes, open_versions}
use Rattle.trie.proofs.OpenLaws.{open_used, open_current, first_version, open_version}
use Rattle.history.proofs.Nodes.{Side, lo, hi, Node}
use Rattle.history.proofs.Numbers.{number, number_pos, number_range}
use Rattle.history.specs.Put.{choose}
use Rattle.history.proofs.Machine.{child, initial}
use Rattle.history.proofs.Invariant.{Closed}
use Rattle.history.proofs.Kept.{Opened}
use Rattle.history.proofs.View.{View}
use Rattle.history.proofs.Viewed.{number_inside}
use Rattle.history.proofs.Whole.{version_of}

-- number 0 is no version
no_version : (vs : List ℕ) → version_of vs 0 ≡ version 0 0 0 0 0
unfolding version_at
no_version vs = refl

module _ (n : ℕ) (nodes versions : List ℕ) (size : allowed n ≡ true) (room : roomy n nodes versions ≡ true) where
  opened_is : (x : ℕ) → 1 ≤ x → x ≤ 2 * n - 1 → version_of (open_versions n versions) x ≡ first_version n x
  opened_is x low top = open_version n versions x low top (omega (arith, roomy_versions n nodes versions room, room_length versions))

  first_closed : (x : ℕ) (t : Bool) → ltb x n ≡ t → 1 ≤ x → (b : Side) → child b (version (pick t (2 * x) 0) (pick t (2 * x + 1) 0) 0 0 0) ≤ 2 * n - 1
  first_closed x true e l lo = omega (arith, ltb-true x n e)
  first_closed x true e l hi = omega (arith, ltb-true x n e)
  first_closed x false e l lo = omega arith
  first_closed x false e l hi = omega arith

  opened_closed : Closed (version_of (open_versions n versions)) (2 * n - 1)
  opened_closed zero l b = rw (no_version (open_versions n versions)) (none b)
    where
      none : (b : Side) → child b (version 0 0 0 0 0) ≤ 2 * n - 1
      none lo = omega arith
      none hi = omega arith
  opened_closed (suc x) l b = rw (opened_is (suc x) (omega arith) l) (first_closed (suc x) (ltb (suc x) n) refl (omega arith) b)

  pub opened : (weight : ℕ → ℕ) → Opened (height_of n) weight (2 * n - 1) (version_of (open_versions n versions))
  opened weight =
      let s = sized n size in
      record {
        all = omega (arith, s.power, s.from);
        closed = opened_closed;
        leaf = λ y e. opened_is (number y) (number_pos y) (omega (arith, s.power, s.from, number_inside (height_of n) y (omega arith)))
            ∙ ap (λ (t : Bool). version (pick t (2 * number y) 0) (pick t (2 * number y + 1) 0) 0 0 0) (le-ltb (number y) n (omega (arith, s.power, (number_range y).0, ap (λ (m : ℕ). 2 ^ m) e)));
        inner = λ y l. opened_is (number y) (number_pos y) (omega (arith, s.power, s.from, number_inside (height_of n) y (omega arith)))
            ∙ ap (λ (t : Bool). version (pick t (2 * number y) 0) (pick t (2 * number y + 1) 0) 0 0 0)
            (lt-ltb (number y) n (let m : 2 ^ suc (length y) ≤ 2 ^ height_of n = pow_mono l in omega (arith, s.power, (number_range y).1, pow-suc 2 (length y))));
      }

  pub opened_view : View (height_of n) (initial (height_of n) (2 * n - 1) (version_of (open_versions n versions))).shared (open_nodes n nodes) (open_versions n versions)
  opened_view =
      let s = sized n size in
      record {
        used = open_used n nodes (omega (arith, s.from)) (roomy_nodes n nodes versions room);
        ver = λ v. refl;
        current = λ x l. by x (dec_le (length x) (height_of n)) l;
      }
    where
      by : (x : Node) (d : Dec (length x ≤ height_of n)) → length x ≤ height_of n → get_or (open_nodes n nodes) (number x) 0 ≡ choose d (number x) 1
      by x (yes l) k = open_current n nodes (number x) (number_pos x) (omega (arith, (sized n size).power, number_inside (height_of n) x k)) (roomy_nodes n nodes versions room)
      by x (no d) k = absurd (d k)
