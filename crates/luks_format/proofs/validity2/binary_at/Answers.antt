use Rattle.std.proofs.Common.{◌≡◌, ◌+◌, ◌-◌, ap, arith, drop, take}
use Rattle.luks_format.proofs.validity2.binary_at.Goals as goal

pub returns-clause-value : goal.returns-clause-value
returns-clause-value c =
    let long : c.args.offset + 4096 - c.args.offset ≡ 4096 = omega arith in
    ap (λ n. take n (drop c.args.offset c.args.bytes.now)) long
