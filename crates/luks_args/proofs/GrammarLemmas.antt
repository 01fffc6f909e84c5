-- How `clap` parses the arguments of luksrd.
use Rattle.std.proofs.Common.{◌≡◌, ◌∙◌, ◌||◌, Err, IsErrAnd, List, None, Ok, Option, Result, [], ◌∷◌, ◌++◌}
use Rattle.std.proofs.Common.{ap, inl, inr, refl, subst, sym, true}
use Rattle.clap.specs.Words.{App, HasKind, HasMatchesOf, Kinds, Text, fault_of, is_simple, is_simple_and_free, kind_of}
use Rattle.clap.specs.Words.{subcommand_of, subcommand_rows_of}
use Rattle.clap.specs.declared.Error.{Error}
use Rattle.clap.specs.declared.ArgMatches.{ArgMatches}
use Rattle.clap.specs.Words.{AddsInTurn, AddsSubcommand, Shape, app_of, with_subcommand}
use Rattle.clap.specs.declared.builder.Command.{Command}
use Rattle.clap.proofs.OnLiterals.{clap_on_literals}
use Rattle.clap.proofs.WalkLemmas.{both}
use Rattle.luks_args.specs.Command.{fault_for, subcommand_in, unless_faulty}
use Rattle.luks_args.specs.Grammar.{AreReadAs, IsReadAs, alone, header_command, luksrd, stripe_command, volume_command}
use Rattle.luks_args.specs.declared.planning.PlanFault.{PlanFault}
use Rattle.luks_args.specs.declared.planning.PlanFault.TheVariants.{Usage}

pub free : (app : App) → app ≡ luksrd → is_simple_and_free app ≡ true
unfolding luksrd header_command volume_command stripe_command clap_on_literals
free app e = ap is_simple_and_free e

faulty : {A : Type 0} (kinds : Kinds) (found : Option A) (error : Error) → HasKind kinds error
    → fault_for (kind_of error) ≡ Usage → unless_faulty kinds found ≡ None
faulty [] found error (inl memory) usage = let bad = ap fault_for memory in cc
faulty [] found error (inr among) usage = absurd among
faulty (k ∷ ks) found error kind usage = refl

-- if the arguments have no fault, the parse gives their subcommand
pub subcommand-ok : (app : App) (words : List Text) (m : ArgMatches) → app ≡ luksrd → fault_of app words ≡ []
    → HasMatchesOf app words m → subcommand_in words ≡ subcommand_rows_of m
unfolding subcommand_in
subcommand-ok app words m e none has =
    ap (λ (a : App). unless_faulty (fault_of a words) (subcommand_of a words)) (sym e)
    ∙ ap (λ (kinds : Kinds). unless_faulty kinds (subcommand_of app words)) none
    ∙ sym (has (both (is_simple app) _ (free app e)).0).1

-- if `clap` gives an error other than running out of memory, no subcommand is found in the arguments
pub subcommand-usage : (app : App) (words : List Text) (error : Error) → app ≡ luksrd
    → HasKind (fault_of app words) error → fault_for (kind_of error) ≡ Usage → subcommand_in words ≡ None
unfolding subcommand_in
subcommand-usage app words error e kind usage =
    faulty (fault_of luksrd words) (subcommand_of luksrd words) error
    (subst (λ (a : App). HasKind (fault_of a words) error) e kind) usage

-- the fault that an error was converted to is the one in the result
pub fault_given : {T : Type 0} (r : Result T PlanFault) (fault : PlanFault) → IsErrAnd r (λ given. given ≡ fault)
    → r ≡ Err Usage → fault ≡ Usage
fault_given (Ok x) fault given usage = cc
fault_given (Err x) fault given usage = cc

-- a command appended to those that are read
pub read_more : (commands : List Command) (shapes : List Shape) (command : Command) (shape : Shape)
    → AreReadAs commands shapes → IsReadAs command (alone shape)
    → AreReadAs (commands ++ command ∷ []) (shapes ++ shape ∷ [])
unfolding AreReadAs
read_more [] [] command shape are is = (is, tt)
read_more (c ∷ cs) (s ∷ ss) command shape are is = (are.0, read_more cs ss command shape are.1 is)
read_more _ _ command shape are is = absurd are

abbrev pub with_subcommands : App → List Shape → App
with_subcommands app [] = app
with_subcommands app (shape ∷ shapes) = with_subcommands (with_subcommand app shape) shapes

-- subcommands that are added one by one are appended to those before
pub added_shapes : (old new : Command) (commands : List Command) (app : App) (shapes : List Shape) → app_of old ≡ app
    → AddsInTurn AddsSubcommand old commands new → AreReadAs commands shapes
    → app_of new ≡ with_subcommands app shapes
unfolding AreReadAs
added_shapes old new [] app [] is adds are = ap app_of (sym adds) ∙ is
added_shapes old new (c ∷ cs) app (s ∷ ss) is (middle, step, rest) are =
    let read : IsReadAs c (alone s) = are.0 in
    added_shapes middle new cs (with_subcommand app s) ss
    (step.shape read.local ∙ cc (is, ap (λ (a : App). a.top) read.app)) rest are.1
added_shapes old new _ app _ is adds are = absurd are
