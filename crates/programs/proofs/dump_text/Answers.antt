-- `dump_text` leaves the file's dump whole: scratch, list and output are large enough. Assumes nothing.
use Prim.Native.Nat.{ℕ, ◌*◌, ◌/◌, ◌≤◌}
use native.Mathlib.Omega.{arith}
use Rattle.answers.specs.Answers.{file_max}
use Rattle.dumping.proofs.Reaching.{dump-within}
use Rattle.printed.proofs.Entries.{entries_max}
use Rattle.printed.proofs.Promises.{dump-whole}
use Rattle.programs.proofs.Laws.{lends}
use Rattle.programs.proofs.dump_text.Goals as goal

pub returns : goal.returns
returns c =
    let told = c.dump.ensures in record {
      within = (dump-within _ _ _ _ _ _ _ _ told).place;
      whole = dump-whole _ _ _ _ _ _ _ _ told (lends (λ (n : ℕ). file_max ≤ 4 * n) (file_max / 4) (omega arith)) (lends (λ (n : ℕ). entries_max ≤ n) entries_max (omega arith)) (omega arith);
    }
