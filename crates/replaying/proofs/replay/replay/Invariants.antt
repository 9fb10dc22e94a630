-- The first i calls were made and answered, and later replies are as they were.
use Rattle.std.proofs.Common.{◌≡◌, length, take, drop}
use Rattle.tree.specs.Value.{Value}
use Rattle.law.specs.Law.{Holds}
use Rattle.effects.specs.States.{meant}
use Rattle.message.specs.Drafts.{draft_state}
use Rattle.replaying.specs.Calls.{deeds_of, replies_of}
use Rattle.replaying.specs.Replays.{Replayed}
use Rattle.replaying.proofs.replay.replay.Given as goal

abbrev pub invariant-loop-i : goal.invariant-loop-i
invariant-loop-i g l =
    let S = meant g.S.Reading.segments g.S.Source.offers g.S.Source.first in
    record {
      run : (v : Value) → Holds S (draft_state S l.initial.draft) v →
          Replayed S (draft_state S l.initial.draft) v (deeds_of (take l.i l.calls)) (replies_of (take l.i l.replies)) (draft_state S l.draft);
      rest : drop (length l.calls) l.replies ≡ drop (length l.calls) l.initial.replies;
    }
