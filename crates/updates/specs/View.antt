-- The code's values. Contracts of functions that are no public calls cite these; no promise does.
use Rattle.std.specs.Prelude.{ℕ, ◌≡◌, List, length, take}

-- a copy of a value: its length, and as many bytes at the front of the buffer
pub record Snapshot (value : List ℕ) (size : ℕ) (buffer : List ℕ) : Type 0 where
  pub measured : size ≡ length value
  pub copied : take size buffer ≡ value
