-- Each record is read back out of its own twelve words.
-- Assumes nothing.
use Rattle.std.specs.Prelude.{◌≡◌, refl, Bool, true, false, Some}
use Rattle.trie.specs.declared.Update.{Update}
use Rattle.trie.specs.declared.Query.{Query}
use Rattle.trie.specs.declared.Held.{Held}
use Rattle.trie.specs.declared.Climb.{Climb}
use Rattle.trie.specs.declared.Phase.{Phase}
use Rattle.trie.specs.declared.Worker.{Worker}
use Rattle.trie.specs.Record.{cell_of, loudness_of}
use Rattle.kitesonnet.specs.Writing.{bit_of, kind_of, asked_of, number_of, read_of, node_read_of, left_read_of, right_read_of, climb_words, phase_words, words_of}
use Rattle.kitesonnet.specs.Operations.{update_of, query_of}
use Rattle.kitesonnet.specs.Reading.{all_zero, in_phase, flag_of, refresh_of, climb_of, update_in, ask_in, query_in, record_of}

update_back : (u : Update) → update_of (kind_of u) (cell_of u) (loudness_of u) ≡ Some u
unfolding update_of
update_back (Update.Insert k l) = refl
update_back (Update.Delete k) = refl

query_back : (q : Query) → query_of (asked_of q) (number_of q) ≡ Some q
unfolding query_of
query_back (Query.Find k) = refl
query_back (Query.Select j) = refl
query_back (Query.Rank k) = refl
query_back Query.Total = refl

refresh_back : (h : Held) → refresh_of (read_of h) (node_read_of h) (left_read_of h) (right_read_of h) ≡ Some h
unfolding refresh_of
refresh_back Held.Nothing = refl
refresh_back (Held.Node v) = refl
refresh_back (Held.Left v l) = refl
refresh_back (Held.Both v l r) = refl

flag_back : (b : Bool) → flag_of (bit_of b) ≡ Some b
unfolding flag_of
flag_back true = refl
flag_back false = refl

climb_back : (c : Climb) (h : Held) → climb_of c.update (climb_words c h) ≡ in_phase (Phase.Refresh c h)
unfolding climb_of
climb_back c h = simp (flag_back c.yes, flag_back c.second, refresh_back h)

phase_back : (p : Phase) → record_of (phase_words p) ≡ in_phase p
unfolding record_of update_in ask_in query_in all_zero
phase_back Phase.Idle = refl
phase_back (Phase.Read u) = simp (update_back u)
phase_back (Phase.Swap u v) = simp (update_back u)
phase_back (Phase.Refresh c h) = simp (update_back c.update, climb_back c h)
phase_back (Phase.Ask q) = simp (query_back q)
phase_back (Phase.Find k s) = refl
phase_back (Phase.Rank k s c e) = refl
phase_back (Phase.Select j s x c) = refl

pub record_back : (w : Worker) → record_of (words_of w) ≡ Some w
unfolding words_of
record_back w = phase_back w.phase
