use Rattle.std.proofs.Common.{◌∙◌, ap, arith, length, length-append}
use Rattle.std.specs.Fmt.{decimal}
use Rattle.luks_report.proofs.Lengths.{few_digits}
use Rattle.luks_report.proofs.message_line.Line.push_small.Goals as goal

pub returns-clause-short : goal.returns-clause-short
returns-clause-short c =
    let is = ap length c.push_number.ensures.value ∙ length-append c.args.self.now (decimal c.from.result) in
    omega (arith, is, few_digits c.from.result (omega (arith, c.from.ensures)))
