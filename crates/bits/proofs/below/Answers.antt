-- `bits::below` meets its contract.
use Prim.Native.Nat.{◌^◌, ◌≤◌}
use native.Mathlib.Omega.{arith}
use lib.Pow.{pow_pos, pow_mono}
use Rattle.bits.specs.Mask.{width}
use Rattle.bits.proofs.Mask.{one_shl, mask_ones}
use Rattle.bits.proofs.below.Goals as goal

pub overflow_sub-result : goal.overflow_sub-result
overflow_sub-result c = let n = c.args.places in omega (arith, one_shl 64 n (omega arith), pow_pos n)

pub overflow_cast-result : goal.overflow_cast-result
overflow_cast-result c = let n = c.args.places in let l : 2 ^ n ≤ 2 ^ width = pow_mono c.requires in omega (arith, one_shl 64 n (omega arith), pow_pos n)

pub returns : goal.returns
returns c = let n = c.args.places in omega (arith, one_shl 64 n (omega arith), mask_ones n)
