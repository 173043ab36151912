-- The Rust's range of lines, by two rounded steps and the order of keys, is the range in 64ths. Assumes nothing.
use mathlib.Core.Path.{◌≡◌, refl, sym, ap, ap₂, subst, ◌∙◌}
use mathlib.Core.Bool.{◌&&◌}
use Prim.Native.Nat.{◌<◌}
use lib.Dec.{T, ltb}
use lib.Ieee.{Float, binary64, add, sub, fits}
use Rattle.floats.specs.Values.{canonical_zero}
use Rattle.floats.specs.TotalOrder.{key_of, float_at}
use Rattle.floats.specs.Grid.{on_grid, unit}
use Rattle.floats.proofs.NumberKeys.{float_back, key-of-small}
use Rattle.floats.proofs.Units.{canonical_grid}
use Rattle.floats.proofs.Zeros.{canonical_again}
use Rattle.drawing.specs.Entries.{Segment}
use Rattle.congestion.specs.Wires.{wire_of, cutoff_of}
use Rattle.congestion.specs.Walk.{in_range}
use Rattle.congestion.specs.Rounded.{in_range_floats}
use Rattle.congestion.specs.Inner.Keys.{Key}
use Rattle.congestion.proofs.KeyUnits.{canonical_fits, key-unit}
use Rattle.congestion.proofs.RangeFloats.{above_low, below-high}

back : (x : Float) → T (fits binary64 x) → float_at (key_of (canonical_zero x)) ≡ canonical_zero x
back x p = float_back (canonical_zero x) (canonical_fits x p)

key-of-coordinate : (x : Float) → T (fits binary64 x) → T (on_grid x) → Key (key_of (canonical_zero x)) (unit x)
key-of-coordinate x p g = record {
  grid = subst (λ (y : Float). T (on_grid y)) (sym (back x p)) (subst T (sym (canonical_grid x)) g);
  plain = ap canonical_zero (back x p) ∙ canonical_again x ∙ sym (back x p);
  is = key-unit x p;
}

pub range-floats : (cutoff : Float) (s t : Segment) → T (fits binary64 s.fixed) → T (fits binary64 t.fixed) → T (on_grid s.fixed) → T (on_grid t.fixed) → T (on_grid cutoff) → 0 < cutoff_of cutoff → in_range_floats cutoff s t ≡ in_range (cutoff_of cutoff) (wire_of s) (wire_of t)
unfolding in_range_floats
range-floats cutoff s t p q g k h some =
    let w = key_of (canonical_zero s.fixed) in
    let z = key_of (canonical_zero t.fixed) in
    let a = key-of-coordinate s.fixed p g in
    let b = key-of-coordinate t.fixed q k in
    let small = key-of-small (canonical_zero t.fixed) (canonical_fits t.fixed q) in
    ap₂ ◌&&◌
    (ap (λ (x : Float). ltb (key_of (sub binary64 x cutoff)) z) (sym (back s.fixed p)) ∙ above_low w z (unit s.fixed) (unit t.fixed) (cutoff_of cutoff) cutoff small a b refl some h)
    (ap (λ (x : Float). ltb z (key_of (add binary64 x cutoff))) (sym (back s.fixed p)) ∙ below-high w z (unit s.fixed) (unit t.fixed) (cutoff_of cutoff) cutoff small a b refl some h)
