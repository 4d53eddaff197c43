-- Laws of specs/Entry.antt: long or short, and which value is shown.
use mathlib.Core.Path.{◌≡◌}
use mathlib.Core.Bool.{true, false}
use mathlib.Core.List.{List}
use Prim.Native.Nat.{ℕ, ◌+◌, ◌-◌, ◌≤◌}
use native.Mathlib.Omega.{arith}
use borrow.Author.Tests.{eq-eqb, ne_eqb, eqb-true, eqb-false, le-leb}
use Rattle.words.specs.Words.{round_up4}
use Rattle.layout.specs.declared.text.Span.{Span}
use Rattle.std.specs.Prelude.{Option}
use Rattle.layout.specs.Layout.{entry_size, serial_field, long_offset_field, place_of, word_at, span_at}
use Rattle.serials.specs.Serial.{long_in}
use Rattle.property_info.specs.Entry.{is_long, short_value, name_of, text_from, long_value, value_of}

-- ---- long or short, by the serial
module _ (area : List ℕ) (at serial : ℕ) (e : word_at area at serial_field ≡ serial) where
  pub long-is : long_in serial ≡ 1 → is_long area at ≡ true
  unfolding is_long
  long-is h = rw e (eq-eqb (long_in serial) 1 h)

  pub short-is : long_in serial ≡ 0 → is_long area at ≡ false
  unfolding is_long
  short-is h = rw e (ne_eqb (long_in serial) 1 (λ z. omega (arith, z, h)))

  pub long-says : is_long area at ≡ true → long_in serial ≡ 1
  unfolding is_long
  long-says t = eqb-true (long_in serial) 1 (rw e at t)

  pub short-says : is_long area at ≡ false → long_in serial ≡ 0
  unfolding is_long
  short-says t = omega (arith, eqb-false (long_in serial) 1 (rw e at t))

-- ---- the long value, behind the name
pub long-behind : (area : List ℕ) (at : ℕ) (name : Option Span) (e : name ≡ name_of area at) (from to : ℕ) (f : name ≡ span_at from to) (relative : ℕ) (g : relative ≡ word_at area at long_offset_field)
    → round_up4 (entry_size + (to - from) + 1) ≤ relative → text_from area (place_of at relative) ≡ long_value area at
unfolding long_value
long-behind area at name e from to f relative g h = rw (← e, f, ← g, le-leb (round_up4 (entry_size + (to - from) + 1)) relative h)

-- ---- the value, long or short
pub value-long : (area : List ℕ) (at : ℕ) → is_long area at ≡ true → long_value area at ≡ value_of area at
unfolding value_of
value-long area at h = rw h

pub value-short : (area : List ℕ) (at : ℕ) → is_long area at ≡ false → short_value area at ≡ value_of area at
unfolding value_of
value-short area at h = rw h
