-- `run_all` meets its contract: what is left to do from each call on is the whole run.
use Prim.Native.Nat.{◌+◌, ◌*◌, ◌^◌, ◌≤◌, ◌<◌}
use native.Mathlib.Omega.{arith}
use mathlib.Core.Path.{◌≡◌, refl, ◌∙◌}
use lib.ListN.{length}
use Rattle.text.proofs.WrittenLaws.{mid_long}
use Rattle.encoding.specs.Encoding.{calls_at, call_size, entry_at}
use Rattle.driver.proofs.Running.{run_start, call_within, run_room, run_step, run_end, spare_stays}
use Rattle.driver.proofs.run_all.Goals as goal
use Rattle.driver.proofs.run_all.Goals.{In-loop-i}

-- the call of a turn lies within the bytes
within : (c : In-loop-i) → calls_at + call_size * c.loop-i.i + call_size ≤ length c.args.s.now
within c = call_within _ _ _ _ c.requires.count_value refl c.loop-i-test.true

pub loop-i-init : goal.loop-i-init
loop-i-init c = (run_start _ _ _ _ c.requires.inv c.requires.count_value, refl)

-- the bytes are as many as a slice may have
few : (c : In-loop-i) → length c.args.s.now < 2 ^ 64
few c = omega arith

pub overflow_mul-at : goal.overflow_mul-at
overflow_mul-at c = let here = (goal.at.overflow_mul-at c).In-loop-i in omega (arith, within here, few here)

pub overflow_add-at : goal.overflow_add-at
overflow_add-at c = let here = (goal.at.overflow_add-at c).In-loop-i in omega (arith, within here, few here)

pub carry_out-behind-requires : goal.carry_out-behind-requires
carry_out-behind-requires c = record {
  inv = c.loop-i.invariant.0.invariant;
  at_in_bounds = omega (arith, within (goal.at.carry_out-behind-requires c).In-loop-i);
  answer_size_in_bounds =
      omega (arith, mid_long c.loop-i.behind c.loop-i.out, run_room c.loop-i.invariant.0 c.loop-i-test.true c.requires.room);
}

pub loop-i-preserved : goal.loop-i-preserved
loop-i-preserved c =
    let next : calls_at + call_size * (c.loop-i.i + 1) ≡ calls_at + call_size * c.loop-i.i + call_size = omega arith in
    let room = run_room c.loop-i.invariant.0 c.loop-i-test.true c.requires.room in (
      rw next (run_step c.loop-i.invariant.0 c.loop-i-test.true room refl c.carry_out-behind.ensures.0),
      spare_stays (entry_at c.args.s.now (calls_at + call_size * c.loop-i.i)) c.loop-i.p c.carry_out-behind.new.p
          c.carry_out-behind.ensures.1
          ∙ c.loop-i.invariant.1,
    )

pub returns : goal.returns
returns c = (run_end _ _ _ _ _ _ _ _ _ c.requires.room c.loop-i-test.false c.loop-i.invariant.0, c.loop-i.invariant.1)
