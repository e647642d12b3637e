use Rattle.std.proofs.Common.{ℕ, ◌<◌, ◌≤◌, ◌^◌, arith, length}
use Rattle.std.proofs.Math.Nat.{pow-le-pow_right}
use Rattle.query_text.proofs.address.number_of.Goals as goal

-- fewer than eight digits spell a number below 16 ^ 7
few_digits : (value count all : ℕ) → value < 16 ^ count → count < all → all ≤ 8 → value < 268435456
few_digits value count all low within few =
    let top : 16 ^ count ≤ 16 ^ 7 = pow-le-pow_right (let some : 0 < 16 = omega arith in some) (let most : count ≤ 7 = omega arith in most) in omega arith

pub overflow_mul-value : goal.overflow_mul-value
overflow_mul-value c =
    let below = few_digits c.loop-digit.value c.loop-digit.digit-index (length c.args.digits.now) c.loop-digit.invariant.low c.loop-digit-test.true c.requires in
    omega arith

pub overflow_add-value : goal.overflow_add-value
overflow_add-value c =
    let below = few_digits c.loop-digit.value c.loop-digit.digit-index (length c.args.digits.now) c.loop-digit.invariant.low c.loop-digit-test.true c.requires in
    let digit = c.in_ok-next.ensures.low in
    omega arith
