-- Laws of specs/Replay.antt: one record more, and the ways out.
use mathlib.Core.Path.{◌≡◌}
use mathlib.Core.List.{List}
use Prim.Native.Nat.{ℕ, suc}
use Rattle.std.specs.Prelude.{Result, Ok, Err}
use Rattle.replay.specs.declared.records.End.{End}
use Rattle.replay.specs.declared.turns.Turn.{Turn}
use Rattle.replay.specs.declared.replaying.Tally.{Tally}
use Rattle.replay.specs.Turns.{turns, turn_at}
use Rattle.replay.specs.Replay.{count_record, report, end_at, replay_from}

-- t is what became of the record at a place, with a buffer of b bytes, after the space behind it, more how many records are left with it
module _
    (vectors : List ℕ)
    (room left at size : ℕ)
    (space : List ℕ)
    (tally : Tally)
    (t : Result Turn End)
    (after : List ℕ)
    (b : ℕ)
    (q : b ≡ room)
    (e : turns t after ≡ turn_at vectors at size space b)
    (more : ℕ)
    (s : more ≡ suc left)
  where
    pub replay-stops : (end : End) → t ≡ Err end → report tally end ≡ replay_from vectors room more at size space tally
    unfolding replay_from
    replay-stops end f = rw (s, ← q, ← e, f)

    pub replay-on : (turn : Turn) → t ≡ Ok turn → (counted : Tally) → counted ≡ count_record tally turn.call turn.agrees
        → replay_from vectors room more at size space tally ≡ replay_from vectors room left turn.next turn.size after counted
    unfolding replay_from
    replay-on turn f counted g = rw (s, ← q, ← e, f, g, q)

pub replay-ends : (vectors : List ℕ) (room left at size : ℕ) (space : List ℕ) (tally : Tally) → left ≡ 0 → (end : End) → end ≡ end_at vectors at
    → report tally end ≡ replay_from vectors room left at size space tally
unfolding replay_from
replay-ends vectors room left at size space tally z end e = rw (z, e)
