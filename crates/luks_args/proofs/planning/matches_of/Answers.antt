use Rattle.std.proofs.Common.{map}
use Rattle.clap.specs.Words.{app_of}
use Rattle.luks_args.proofs.GrammarLemmas.{fault_given, free, subcommand-ok, subcommand-usage}
use Rattle.luks_args.proofs.planning.matches_of.Goals as goal

pub returns-clause-ok : goal.returns-clause-ok
returns-clause-ok g c =
    let parse = c.in_ok-try_get_matches_from in
    subcommand-ok (app_of c.in_ok-program.program) (map g.S.AsStr.text c.args.words.now) parse.field-0
    c.in_ok-program.ensures
    (parse.ensures.kinds (free _ c.in_ok-program.ensures)) parse.ensures.matches

pub returns-in_err-try_get_matches_from-clause-usage : goal.returns-in_err-try_get_matches_from-clause-usage
returns-in_err-try_get_matches_from-clause-usage g c =
    let parse = c.in_err-try_get_matches_from in
    λ usage. subcommand-usage (app_of c.in_ok-program.program) (map g.S.AsStr.text c.args.words.now) parse.field-0.0
    c.in_ok-program.ensures
    (parse.ensures.kinds (free _ c.in_ok-program.ensures))
    (fault_given _ _ c.from_residual-in_err-try_get_matches_from.ensures.1 usage)
