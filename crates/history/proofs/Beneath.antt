-- Following versions down from the root's, by node numbers: each shows the book's cells below its node, with their count and energy.
-- Assumes nothing.
use Rattle.std.specs.Prelude.{◌≡◌, refl, Bool, true, false, List, ℕ, zero, suc, ◌+◌, ◌*◌, ◌/◌, ◌%◌, ◌^◌, ◌<◌, eqb}
use Rattle.std.proofs.Common.{sym, ap, ◌∙◌, subst, pow-suc, arith, eqb-true}
use Rattle.std.proofs.Math.Option.{Option}
use Rattle.std.proofs.lemmas.Bool.{eqb-false}
use Rattle.decibel.specs.Energy.{energy_of}
use Rattle.trie.specs.declared.Version.{Version}
use Rattle.trie.specs.Choice.{pick}
use Rattle.trie.specs.Tables.{version_at}
use Rattle.history.specs.Book.{Book, sum, mark}
use Rattle.history.specs.Theorem.{beneath, Shows}
use Rattle.history.proofs.Whole.{version_of, Whole, whole_left, whole_right}
use Rattle.history.proofs.Shows.{Shows as ShowsBelow, shows_at, shows_left, shows_right, shows_cell, Adds, adds_count, adds_energy, shows_sum}
use Rattle.history.proofs.Walking.{first_left, first_right, twice}

module _ (versions : List ℕ) (u : ℕ) (B : Book) where
  -- the version that stands for the p-th node, e levels above the leaves
  record Under (r : Version) (e p : ℕ) : Type 0 where
    number : ℕ
    is : r ≡ version_of versions number
    whole : Whole energy_of (version_of versions) u e number
    shows : ShowsBelow (version_of versions) B e (p * 2 ^ e) number

  go_down : {r : Version} (e p x : ℕ) (right : Bool) → eqb (x % 2) 1 ≡ right → x % 2 ≡ p % 2 → Under r (suc e) (p / 2) → Under (version_at versions (pick right r.right r.left)) e p
  go_down {r} e p x true t same w =
      let here : p / 2 * 2 ^ suc e + 2 ^ e ≡ p * 2 ^ e = sym (first_right (p / 2) p (2 ^ e) (2 ^ suc e) (twice e) (omega (arith, eqb-true (x % 2) 1 t))) in
      record {
        number = (version_of versions w.number).right.0;
        is = ap (λ (y : Version). version_at versions y.right) w.is;
        whole = whole_right energy_of w.whole;
        shows = shows_at here refl (shows_right w.shows);
      }
  go_down {r} e p x false t same w =
      let here : p / 2 * 2 ^ suc e ≡ p * 2 ^ e = sym (first_left (p / 2) p (2 ^ e) (2 ^ suc e) (twice e) (let n = eqb-false (x % 2) 1 t in omega arith)) in
      record {
        number = (version_of versions w.number).left.0;
        is = ap (λ (y : Version). version_at versions y.left) w.is;
        whole = whole_left energy_of w.whole;
        shows = shows_at here refl (shows_left w.shows);
      }

  module _ (h v : ℕ) (w : Whole energy_of (version_of versions) u h v) (s : ShowsBelow (version_of versions) B h 0 v) where
    under : (d e p x : ℕ) → d + e ≡ h → p < 2 ^ d → x ≡ 2 ^ d + p → Under (beneath versions v d x) e p
    under zero e p x l k f =
        let top : h ≡ e = omega arith in
        record {
          number = v;
          is = refl;
          whole = subst (λ (m : ℕ). Whole energy_of (version_of versions) u m v) top w;
          shows = shows_at (let z : p ≡ 0 = omega arith in sym (ap (λ (m : ℕ). m * 2 ^ e) z ∙ omega arith)) refl (subst (λ (m : ℕ). ShowsBelow (version_of versions) B m 0 v) top s);
        }
    under (suc d) e p x l k f =
        go_down e p x (eqb (x % 2) 1) refl (omega (arith, pow-suc 2 d)) (under d (suc e) (p / 2) (x / 2) (omega arith) (omega (arith, pow-suc 2 d)) (omega (arith, pow-suc 2 d)))

    sum_under : {word : Version → ℕ} {f : Option ℕ → ℕ} (a : Adds energy_of word f) {r : Version} {e p : ℕ} → Under r e p → word r + sum f (p * 2 ^ e) B ≡ sum f (suc p * 2 ^ e) B
    sum_under {word} {f} a {r} {e} {p} n =
        let end : suc p * 2 ^ e ≡ p * 2 ^ e + 2 ^ e = omega arith in
        omega (arith, ap word n.is, shows_sum energy_of a n.whole n.shows, ap (λ (m : ℕ). sum f m B) end)

    pub root_shown : Shows h versions v B
    root_shown =
        record {
          levels = λ k l.
              let n = under h 0 k (2 ^ h + k) (omega arith) l refl in
              let here : k * 2 ^ 0 ≡ k = omega arith in
              ap (λ (r : Version). mark r) n.is ∙ shows_cell n.shows ∙ ap B here;
          counts = λ d e p l k. sum_under (adds_count energy_of) (under d e p (2 ^ d + p) l k refl);
          energies = λ d e p l k. sum_under (adds_energy energy_of) (under d e p (2 ^ d + p) l k refl);
        }
