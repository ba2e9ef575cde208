-- Where the reader's place goes: never past what a usize holds, and nowhere at a refusal or at the end.
use Prim.Native.Nat.{ℕ, ◌+◌, ◌<◌}
use mathlib.Core.Path.{◌≡◌}
use mathlib.Core.List.{List}
use native.Mathlib.Omega.{arith}
use native.Mathlib.Decide.{dec_le}
use lib.ListN.{length}
use Rattle.wire.specs.Reader.{end, refused, taken_of, read_at}
use Rattle.wire.proofs.ReaderLaws.{at-end, end_takes_nothing, refused-takes-nothing}
use Rattle.wire.proofs.RoundTrip.{place_inside}
use Rattle.bus.specs.Place.{outcome, advanced}
use Rattle.bus.specs.declared.Reader.{Reader}

-- the place behind what was taken is below any bound that the place and the run's length are below
pub place_fits : (s : List ℕ) (at bound : ℕ) → at < bound → length s < bound → at + taken_of (read_at s at) < bound
place_fits s at bound below short =
    elim (dec_le at (length s)) [
      | yes h ↦ (let inside = place_inside s at h in omega arith)
      | no h ↦ (let none = end_takes_nothing (read_at s at) (at-end s at (omega arith)) in omega arith)
    ]

module _ (r : Reader) where
  stays : taken_of (outcome r) ≡ 0 → advanced r ≡ r
  stays none =
      let same : r.at + taken_of (outcome r) ≡ r.at = omega arith in
      λ i. record { bytes = r.bytes; at = same i }

  -- the end leaves the reader as it is
  pub end_stays : outcome r ≡ end → advanced r ≡ r
  end_stays e = stays (end_takes_nothing (outcome r) e)

  -- a refusal leaves the reader as it is
  pub refused-stays : (w : ℕ) → outcome r ≡ refused w → advanced r ≡ r
  refused-stays w e = stays (refused-takes-nothing (outcome r) w e)
