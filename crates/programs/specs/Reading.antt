-- A file that cannot be read to its end (RULES 8.4): it is empty.
use Rattle.std.specs.Prelude.{ℕ, zero, suc, ℤ, pos, negsuc}

-- how many bytes of a file count, by what a read behind them answers: they do where it finds the file's end, which is the answer 0
unfoldable pub readable_size : ℕ → ℤ → ℕ
readable_size size (pos zero) = size
readable_size size (pos (suc k)) = 0
readable_size size (negsuc k) = 0
