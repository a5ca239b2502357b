use Rattle.std.proofs.Common.{ℕ, ◌≡◌, ◌+◌, ◌-◌, ◌*◌, ◌/◌, ◌%◌, ◌^◌, pos, refl, ◌+ℤ◌, ◌-ℤ◌, arith}
use Rattle.wide_step.proofs.DividedLemmas.{plus_exact, plus_kept}
use Rattle.wide_step.proofs.divided.Divided.plus.Goals as goal

over_once : (m n : ℕ) → m + n + 0 ≡ ((m + n) / 2 ^ 128) * 2 ^ 128 + (m + n) % 2 ^ 128
over_once m n = omega arith

over_twice : (m n s : ℕ) → s ≡ (m + n) % 2 ^ 128 → m + n + 1 ≡ ((m + n) / 2 ^ 128 + (s + 1) / 2 ^ 128) * 2 ^ 128 + (s + 1) % 2 ^ 128
over_twice m n s e = omega arith

pub returns-then-remainder-divisor : goal.returns-then-remainder-divisor
returns-then-remainder-divisor c x y h k =
    let m = c.args.self.quotient in
    let n = c.args.other.quotient in
    let over = (m + n) / 2 ^ 128 in
    record {
      quotient = h.quotient +ℤ k.quotient +ℤ pos 0;
      wraps = h.wraps +ℤ k.wraps -ℤ pos over;
      kept = plus_kept h.quotient k.quotient h.wraps k.wraps m n ((m + n) % 2 ^ 128) 0 over h.kept k.kept (over_once m n);
      exact = plus_exact h.quotient k.quotient x y c.args.divisor c.args.self.remainder c.args.other.remainder (c.args.self.remainder + c.args.other.remainder) 0 h.exact k.exact (omega arith);
      below = omega arith;
    }

pub returns-else-remainder-divisor : goal.returns-else-remainder-divisor
returns-else-remainder-divisor c x y h k =
    let m = c.args.self.quotient in
    let n = c.args.other.quotient in
    let s = (m + n) % 2 ^ 128 in
    let over = (m + n) / 2 ^ 128 + (s + 1) / 2 ^ 128 in
    record {
      quotient = h.quotient +ℤ k.quotient +ℤ pos 1;
      wraps = h.wraps +ℤ k.wraps -ℤ pos over;
      kept = plus_kept h.quotient k.quotient h.wraps k.wraps m n ((s + 1) % 2 ^ 128) 1 over h.kept k.kept (over_twice m n s refl);
      exact = plus_exact h.quotient k.quotient x y c.args.divisor c.args.self.remainder c.args.other.remainder (c.args.self.remainder + c.args.other.remainder - c.args.divisor) 1 h.exact k.exact (omega arith);
      below = omega arith;
    }
